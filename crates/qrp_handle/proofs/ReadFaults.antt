-- A fault of written literals is one of the clause, or of the step, that has them.
use Rattle.std.proofs.Common.{arith, ℕ, ℤ, List}
use Rattle.std.proofs.lemmas.Grind.{common_steps}
use Rattle.qbf_core.specs.Qbf.{Qbf}
use Rattle.trace_items.specs.Inferences.{Inference}
use Rattle.qrp_handle.specs.Adding.{IsReadFault, IsClauseFault, IsStepFault}
use Rattle.qrp_handle.specs.declared.fault.AddFault.{AddFault}

pub clause_fault : (f : Qbf) (written : List ℤ) (e : AddFault) → IsReadFault written e → IsClauseFault f written e
clause_fault f written e h = grind (arith, common_steps)

pub step_fault : (steps : List Inference) (number : ℕ) (written : List ℤ) (ants : List ℕ) (e : AddFault) → IsReadFault written e
    → IsStepFault steps number written ants e
step_fault steps number written ants e h = grind (arith, common_steps)
