-- The conditions of a rule hold, if a set follows by it as the literature has it.
use Rattle.trace_check.proofs.Cited.{ℕ, List, [], sym, ◌∙◌, subst, inl, inr, Literal, ◌∈◌, ◌⊆◌, IsInitial, Side, Clauses, Cubes, resolvent, Qbf, Rules, Inference, AllHold}
use Rattle.qbf_core.specs.Blocks.{Binds}
use Rattle.qbf_core.specs.Rules.{IsOnlyClash, deciding_quantifier}
use Rattle.qrp_rules.specs.Unreduced.{unreduced_conditions}
use Rattle.trace_check.specs.Unreduced.{unreduced_antecedents}

pub initial_holds : (by : Rules) (side : Side) (f : Qbf) (before : List Inference) (lits : List Literal) → IsInitial side f lits
    → AllHold (unreduced_antecedents by side f before [] lits)
initial_holds by Clauses f before lits h = (h, tt)
initial_holds by Cubes f before lits h = (h, tt)

pub resolvent_holds : (by : Rules) (side : Side) (f : Qbf) (a b to : List Literal) (x : ℕ) → IsOnlyClash a b x
    → Binds f.blocks (deciding_quantifier side) x → to ⊆ resolvent a b x → resolvent a b x ⊆ to
    → AllHold (unreduced_conditions by side f.blocks a b to)
resolvent_holds by side f a b to x clash binds within whole = (
  (x, clash.clashes),
  (
    (λ y z c d. clash.only y c ∙ sym (clash.only z d)),
    (
      (λ y c. inr (subst (λ v. Binds f.blocks (deciding_quantifier side) v) (sym (clash.only y c)) binds)),
      (
        (λ y c l h. subst (λ v. l ∈ resolvent a b v) (sym (clash.only y c)) (within l h)),
        ((λ y c l h. inl (whole l (subst (λ v. l ∈ resolvent a b v) (clash.only y c) h))), tt),
      ),
    ),
  ),
)
