use Rattle.qrp_cli.proofs.ProgramReport.{trims_result}
use Rattle.qrp_cli.proofs.running.find_trimmed.Goals as goal

pub returns-clause-trims : goal.returns-clause-trims
returns-clause-trims g c =
    let w = c.find_proof.ensures in trims_result c.args.rules _ _ c.find_proof.result w.checked w.works w.source.reads
