use Rattle.std.proofs.Common.{rules}
use Rattle.std.proofs.lemmas.Result.{err_from_is_err_and}
use Rattle.qrp_check.specs.Checked.{call_of}
use Rattle.qrp_check.proofs.MarkedTruth.{trace_read}
use Rattle.qrp_check.proofs.VerdictsOfBytes.{refused_of}
use Rattle.qrp_check.proofs.verifying.find_proof_of.Goals as goal

pub returns-in_err-verified-clause-checked : goal.returns-in_err-verified-clause-checked
returns-in_err-verified-clause-checked g c =
    let p = err_from_is_err_and c.from_residual-in_err-verified.result c.from_residual-in_err-verified.ensures.1 in
    refused_of c.args.rules (call_of g.B.Source c.args.trace.now c.read_compact.new.source) c.args.formula.now c.in_ok-whole.whole
    c.from_residual-in_err-verified.result c.in_err-verified.field-0.0 (cc (p.1, p.2)) c.in_ok-whole.ensures.exact c.in_ok-whole.ensures.devices.works
    (rw (c.sets.ensures, c.result.ensures.value) at c.in_err-verified.ensures.refused)

pub returns-in_err-verified-clause-source : goal.returns-in_err-verified-clause-source
returns-in_err-verified-clause-source g c = search (rules, err_from_is_err_and, trace_read)
