use Rattle.proof_decisions.proofs.FoundOrigins.{pivot_found}
use Rattle.proof_decisions.proofs.origins.pivot_of.Goals as goal

pub returns : goal.returns
returns c =
    pivot_found c.args.a.now c.args.b.now c.set_all.new.seen c.find_clash.result c.in_ok-set_all.ensures c.find_clash.ensures.found
    c.find_clash.ensures.only
