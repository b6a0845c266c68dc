-- Worked lines.
use Rattle.std.proofs.Common.{◌≡◌, refl, codes}
use Rattle.std.specs.Fmt.{digits}
use Rattle.qcir.specs.declared.fault.QuestionFault.TheVariants.{Q1, Q10}
use Rattle.trace_check.specs.declared.fault.CheckFault.TheVariants.{C4}
use Rattle.qrp_check.specs.declared.verdict.Fault.TheVariants as proof
use Rattle.gate_verify.specs.declared.fault.Unverified.TheVariants as fault
use Rattle.gate_report.specs.Lines.{unverified_line}

of_a_text : unverified_line (fault.Question Q10 4) ≡ codes "REFUSED formula Q10 line 4\n"
unfolding digits
of_a_text = refl

of_a_device : unverified_line (fault.Question Q1 0) ≡ codes "DEVICE formula\n"
of_a_device = refl

of_many_clauses : unverified_line fault.TooLong ≡ codes "NO CLAUSES\n"
of_many_clauses = refl

of_a_proof : unverified_line (fault.Proof (proof.Check C4)) ≡ codes "REFUSED trace C4\n"
of_a_proof = refl
