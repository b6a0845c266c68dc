use Rattle.qrp_rules.proofs.Cited.{arith, slice_get_within}
use Rattle.written_steps.proofs.WatchedClauses.{met_next}
use Rattle.written_steps.proofs.initial_cubes.InitialCubes.watch_all.Goals as goal

pub loop-position-preserved : goal.loop-position-preserved
loop-position-preserved c =
    met_next c.args.formula.now c.args.cube.seen.now c.loop-position.self.lists.items c.watch_clause.new.self.lists.items
    c.loop-position.position c.watch_clause.ensures.kept (c.in_ok-watch_clause.ensures.met c.if-not-branch.false) c.loop-position.invariant

pub returns : goal.returns
returns c = λ t i clause at.
    let inside = slice_get_within c.args.formula.now.clauses i clause at in
    c.loop-position.invariant i (omega (arith, inside, c.loop-position-test.false, c.clauses-position-end.ensures.value)) clause at
