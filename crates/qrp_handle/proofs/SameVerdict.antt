-- The greatest variable in a formula's header plays no part in a check.
use Rattle.std.proofs.Common.{◌≡◌, ℕ, List, [], ◌∷◌, ap, refl, subst, take}
use Rattle.qbf_core.specs.Blocks.{AreBound, variables, pairs}
use Rattle.qbf_core.specs.Literal.{Literal}
use Rattle.qbf_core.specs.Members.{◌∈◌}
use Rattle.qbf_core.specs.Qbf.{Qbf}
use Rattle.qbf_core.specs.Rules.{Side, Clauses, Cubes, IsClean}
use Rattle.trace_items.specs.Inferences.{Inference}
use Rattle.trace_items.specs.declared.item.Outcome.{Outcome}
use Rattle.qrp_rules.specs.Conditions.{AllHold, Condition, IsFirstFailure}
use Rattle.qrp_rules.specs.declared.fault.RuleFault.{RuleFault}
use Rattle.qrp_rules.specs.declared.fault.RuleFault.TheVariants.{S1, S2, S3}
use Rattle.qrp_rules.specs.declared.rules.Rules.{Rules}
use Rattle.core_walk.specs.Conditions.{IsNumberOf, StepFollows, antecedent_conditions, step_conditions}
use Rattle.core_walk.specs.Faulty.{IsFirstFaultyStep}
use Rattle.trace_check.specs.Proof.{IsFirstFault, Proves, side_of}
use Rattle.trace_check.specs.declared.fault.CheckFault.{CheckFault}
use Rattle.trace_check.specs.declared.fault.CheckFault.TheVariants.{C1, C2, C3, C4, C5, C6}
use Rattle.qrp_handle.specs.Alike.{FailsAlike, ProvesAlike}
use Rattle.qrp_handle.specs.Texts.{greatest}

-- the formula with this number in its header
abbrev up_to : Qbf → ℕ → Qbf
up_to f m = record f { max_var = m }

same_antecedents : (rules : Rules) (side : Side) (f : Qbf) (m n : ℕ) (before : List Inference) (ants : List ℕ) (lits : List Literal)
    → antecedent_conditions rules side (up_to f m) before ants lits ≡ antecedent_conditions rules side (up_to f n) before ants lits
same_antecedents rules Clauses f m n before [] lits = refl
same_antecedents rules Cubes f m n before [] lits = refl
same_antecedents rules side f m n before (a ∷ []) lits = refl
same_antecedents rules side f m n before (a ∷ b ∷ more) lits = refl

same_conditions : (rules : Rules) (side : Side) (f : Qbf) (m n : ℕ) (before : List Inference) (s : Inference)
    → step_conditions rules side (up_to f m) before s ≡ step_conditions rules side (up_to f n) before s
same_conditions rules side f m n before s =
    ap (λ (rest : List (Condition RuleFault)). (S1, IsClean s.lits) ∷ (S2, AreBound f.blocks s.lits)
    ∷ (S3, ((k : ℕ) → k ∈ s.ants → IsNumberOf before k)) ∷ rest)
    (same_antecedents rules side f m n before s.ants s.lits)

follows : (rules : Rules) (side : Side) (f : Qbf) (m n : ℕ) (steps : List Inference) (i : ℕ)
    → StepFollows rules side (up_to f m) steps i → StepFollows rules side (up_to f n) steps i
follows rules side f m n steps i h = record {
  step = h.step;
  here = h.here;
  all = subst AllHold (same_conditions rules side f m n (take i steps) h.step) h.all;
}

proves : (rules : Rules) (f : Qbf) (m n : ℕ) (steps : List Inference) (result : Outcome)
    → Proves rules (up_to f m) [] steps result → Proves rules (up_to f n) [] steps result
proves rules f m n steps result p = record {
  agree = p.agree;
  derives = record {
    position = p.derives.position;
    is_goal = p.derives.is_goal;
    each = λ i core. follows rules (side_of result) f m n steps i (p.derives.each i core);
  };
}

faulty : (rules : Rules) (side : Side) (f : Qbf) (m n : ℕ) (steps : List Inference) (number : ℕ) (fault : RuleFault)
    → IsFirstFaultyStep rules side (up_to f m) steps number fault → IsFirstFaultyStep rules side (up_to f n) steps number fault
faulty rules side f m n steps number fault h = record {
  position = h.position;
  needed = h.needed;
  fails = record {
    step = h.fails.step;
    here = h.fails.here;
    first = subst (λ cs. IsFirstFailure cs fault) (same_conditions rules side f m n (take h.position steps) h.fails.step) h.fails.first;
  };
  numbered = h.numbered;
  earlier = λ j before core. follows rules side f m n steps j (h.earlier j before core);
}

fails : (rules : Rules) (f : Qbf) (m n : ℕ) (steps : List Inference) (result : Outcome) (e : CheckFault)
    → IsFirstFault rules (up_to f m) [] steps result e → IsFirstFault rules (up_to f n) [] steps result e
fails rules f m n steps result (C1 v) h = h
fails rules f m n steps result (C2 v) h = h
fails rules f m n steps result (C3 v) h = h
fails rules f m n steps result C4 h = h
fails rules f m n steps result C5 h = h
fails rules f m n steps result (C6 number fault) h = (h.0, faulty rules (side_of result) f m n steps number fault h.1)

pub proves_alike : ProvesAlike
proves_alike rules f steps result =
    let top = greatest (variables (pairs f.blocks)) in
    (proves rules f top f.max_var steps result, proves rules f f.max_var top steps result)

pub fails_alike : FailsAlike
fails_alike rules f steps result e =
    let top = greatest (variables (pairs f.blocks)) in
    (fails rules f top f.max_var steps result e, fails rules f f.max_var top steps result e)

pub ruleset alike_laws = (proves_alike, fails_alike)
