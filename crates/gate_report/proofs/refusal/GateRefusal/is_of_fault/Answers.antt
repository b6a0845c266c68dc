use Rattle.std.proofs.Common.{arith, inl, inr}
use Rattle.std.proofs.lemmas.Grind.{common_steps}
use Rattle.gate_report.proofs.FaultsByNumbers.{fault_of, has_number}
use Rattle.gate_report.proofs.refusal.GateRefusal.is_of_fault.Goals as goal

pub returns-then-number-ge1 : goal.returns-then-number-ge1
returns-then-number-ge1 c = (
  (λ low. fault_of c.args.self.now (inl (grind (arith, common_steps, c.if-number-ge1.true), grind (arith, common_steps, low)))),
  (λ of. elim (has_number c.args.self.now of) [
    | inl (low, high) ↦ grind (arith, common_steps, high)
    | inr (is, none) ↦ absurd (grind (arith, common_steps, is, c.in_default))
  ]),
)
