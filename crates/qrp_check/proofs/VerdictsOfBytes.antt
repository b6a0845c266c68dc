-- From the check of what was read to the verdict on its bytes.
use Rattle.trace_check.proofs.Cited.{rules, common_steps, ◌≡◌, ◌≢◌, arith, Result, Ok, Err, IfSome, Qbf, Derivation, Rules}
use Rattle.trace_check.specs.declared.fault.CheckFault.{CheckFault}
use Rattle.trace_check.specs.declared.fault.CheckFault.TheVariants.{C5}
use Rattle.trace_check.specs.declared.verified.Verified.{Verified}
use Rattle.trace_check.specs.Proof.{IsFirstFault}
use Rattle.qrp_check.specs.declared.verdict.Fault.{Fault}
use Rattle.qrp_check.specs.Checked.{SourceCall, IsCheckedOf, verdict_of}
use Rattle.qrp.specs.Returns as traces
use Rattle.qrp_check.specs.declared.verdict.Fault.TheVariants as fault

-- a fault of the check of a trace that was read
pub refused_of : (rules : Rules) (trace : SourceCall) (f : Qbf) (d : Derivation) (answer : Result (Derivation × Verified) Fault) (e : CheckFault)
    → answer ≡ Err (fault.Check e) → IfSome (traces.reads_bytes trace.bytes) (λ r. r ≡ Ok d) → trace.after ≡ trace.before
    → (e ≢ C5 → IsFirstFault rules f d.sets d.steps d.result e) → IsCheckedOf rules f trace (verdict_of answer)
refused_of rules trace f d answer e is reads_d kept first = grind (arith, common_steps)
