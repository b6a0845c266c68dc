use Rattle.proof_decisions.proofs.FoundOrigins.{is_found, stands_earlier}
use Rattle.proof_decisions.proofs.origins.earlier.Goals as goal

pub returns-in-Some : goal.returns-in-Some
returns-in-Some g c =
    stands_earlier (g.T.KeptSteps.steps c.args.trace.now) c.args.position c.args.number c.position.result c.requires.named
    c.position.ensures.only c.in-Some.index c.in-Some.is

pub returns-in-None : goal.returns-in-None
returns-in-None g c =
    absurd (is_found (g.T.KeptSteps.steps c.args.trace.now) c.args.position c.args.number c.position.result c.requires.named
    c.position.ensures.only c.in-None.is)
