use Rattle.qrp_completeness.proofs.Traces.{each_result_has_a_proof, results_are_proofs}
use Rattle.qrp_completeness.proofs.laws.each_result_has_a_proof.Goals as goal

pub returns : goal.returns
returns c = record { proof = each_result_has_a_proof; exactly = results_are_proofs }
