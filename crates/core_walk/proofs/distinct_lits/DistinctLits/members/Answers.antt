use Rattle.core_walk.proofs.distinct_lits.DistinctLits.members.Goals as goal

pub returns-in-Some : goal.returns-in-Some
returns-in-Some g c = c.requires.kept.same c.args.position c.in-Some.lits.now c.in-Some.ensures
