-- Tests of literals that are set, and what a list of decisions decides.
use Rattle.qbf_core.proofs.Cited.{arith, ◌≡◌, ◌<◌, ℕ, zero, suc, Bool, true, false, cond, List, [], ◌∷◌, inl, inr, refl, sym, ap}
use Rattle.qbf_core.proofs.Cited.{subst, Some, slice_get, eqb_tells, false≢true, Literal, ◌∈◌, ◌⊆◌, IsClean}
use Rattle.qbf_core.proofs.Members.{only_literal}
use Rattle.std.proofs.Common.{not}
use Rattle.qbf_completeness.specs.Setting.{are_set, is_set}
use Rattle.qbf_completeness.proofs.Setting.{in_set, set_in}
use Rattle.qbf_strategy.specs.Decisions.{Decision, value_in, decided}

both_of : (b c : Bool) → cond b c false ≡ true → (b ≡ true) × (c ≡ true)
both_of true c e = (refl, e)
both_of false c e = absurd (false≢true e)

of_both : (b c : Bool) → b ≡ true → c ≡ true → cond b c false ≡ true
of_both true c e g = g
of_both false c e g = e

pub all_set : (ls s : List Literal) → are_set ls s ≡ true → ls ⊆ s
all_set [] s t x h = absurd h
all_set (l ∷ ls) s t x (inl e) = subst (λ y. y ∈ s) (sym e) (set_in l s (both_of (is_set l s) (are_set ls s) t).0)
all_set (l ∷ ls) s t x (inr h) = all_set ls s (both_of (is_set l s) (are_set ls s) t).1 x h

pub set_all : (ls s : List Literal) → ls ⊆ s → are_set ls s ≡ true
set_all [] s all = refl
set_all (l ∷ ls) s all = of_both (is_set l s) (are_set ls s) (in_set l s (all l (inl refl))) (set_all ls s (λ x h. all x (inr h)))

-- the literal of a variable gives its value, if the literals are clean
pub value_of_member : (ls : List Literal) (l : Literal) (other : Bool) → IsClean ls → l ∈ ls → value_in ls l.var other ≡ not l.negative
value_of_member [] l other clean h = absurd h
value_of_member (k ∷ ls) l other clean h = elim (eqb_tells k.var l.var) [
  | inl (t, e) ↦ rw t (ap (λ (m : Literal). not m.negative) (only_literal (k ∷ ls) l clean h k (inl refl) e))
  | inr (f, ne) ↦ rw f (elim h [
    | inl same ↦ absurd (ne (ap (λ (m : Literal). m.var) (sym same)))
    | inr r ↦ value_of_member ls l other (λ m a b. clean m (inr a) (inr b)) r
  ])
]

-- the first decision whose literals are set decides on its variables
pub first_decides : (otherwise : Bool) (ds : List Decision) (k : ℕ) (d : Decision) (l : Literal) (s : List Literal)
    → slice_get ds k ≡ Some d → IsClean d.sets → l ∈ d.sets → are_set d.when s ≡ true
    → ((j : ℕ) (e : Decision) → j < k → slice_get ds j ≡ Some e → are_set e.when s ≡ false)
    → decided otherwise ds l.var s ≡ not l.negative
first_decides otherwise [] k d l s here clean h fires earlier = absurd (cc here)
first_decides otherwise (e ∷ ds) zero d l s here clean h fires earlier =
    let same : e ≡ d = cc here in
    subst (λ (c : Decision). cond (are_set c.when s) (value_in c.sets l.var (decided otherwise ds l.var s)) (decided otherwise ds l.var s)
    ≡ not l.negative)
    (sym same) (rw fires (value_of_member d.sets l (decided otherwise ds l.var s) clean h))
first_decides otherwise (e ∷ ds) (suc k) d l s here clean h fires earlier =
    rw (earlier zero e (omega arith) refl)
    (first_decides otherwise ds k d l s here clean h fires (λ j c less at. earlier (suc j) c (omega arith) at))
