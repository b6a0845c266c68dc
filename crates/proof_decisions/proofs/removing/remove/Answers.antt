use Rattle.qrp_rules.proofs.Cited.{◌∙◌, false≢true, sym}
use Rattle.proof_decisions.proofs.RemovedLiterals.{removes_pushed}
use Rattle.proof_decisions.proofs.removing.remove.Goals as goal

pub returns-clause-removes : goal.returns-clause-removes
returns-clause-removes c =
    removes_pushed c.args.seen.now c.put.new.seen c.args.removed.now c.push.new.self c.args.lit c.push.result
    (λ h. false≢true (sym c.if-contains.false ∙ c.contains.ensures.1 h)) c.in_ok-put.ensures c.push.ensures.pushed
