use Rattle.qrp_rules.proofs.Cited.{◌∙◌, false≢true, sym}
use Rattle.proof_decisions.proofs.RemovedLiterals.{kept_here, kept_within}
use Rattle.proof_decisions.proofs.removing.put_kept.Goals as goal

pub returns-clause-within : goal.returns-clause-within
returns-clause-within c =
    let has = rw c.var.ensures at c.has.ensures in
    kept_within c.args.own c.args.kept.now c.push.new.self c.args.lit (λ out. false≢true (sym c.if-has.false ∙ has.1 out)) c.push.result
    c.push.ensures.pushed

pub returns-clause-here : goal.returns-clause-here
returns-clause-here c =
    let has = rw c.var.ensures at c.has.ensures in
    kept_here c.args.own c.args.kept.now c.push.new.self c.args.lit (λ out. false≢true (sym c.if-has.false ∙ has.1 out)) c.push.result
    c.push.ensures.pushed
