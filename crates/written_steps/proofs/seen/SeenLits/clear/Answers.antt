use Rattle.qrp_rules.proofs.Cited.{arith, false≢true, inl, inr}
use Rattle.written_steps.proofs.Cited.{code}
use Rattle.written_steps.proofs.Stamps.{none_later, zeros_upto}
use Rattle.written_steps.proofs.seen.SeenLits.clear.Goals as goal

pub returns-in-Some : goal.returns-in-Some
returns-in-Some c = λ l h. elim h [
  | inl near ↦ none_later c.self.inside.stamps.items c.self.inside.stamp c.in-Some.next (code l) c.self.invariant.1
      (omega (arith, c.in-Some.ensures)) near
  | inr far ↦ false≢true (rw c.clear_far.ensures at far)
]

pub returns-in-None : goal.returns-in-None
returns-in-None c = λ l h. elim h [
  | inl near ↦ none_later c.fill.new.self.items 0 1 (code l) (zeros_upto _ _ (c.fill.ensures.items (λ y e. e))) (omega arith) near
  | inr far ↦ false≢true (rw c.clear_far.ensures at far)
]
