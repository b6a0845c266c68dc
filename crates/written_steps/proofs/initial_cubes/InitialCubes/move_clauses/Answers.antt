use Rattle.qrp_rules.proofs.Cited.{rules, arith}
use Rattle.written_steps.proofs.WatchedClauses.{pending_met, pending_taken}
use Rattle.written_steps.proofs.initial_cubes.InitialCubes.move_clauses.Goals as goal

pub loop-clause-init : goal.loop-clause-init
loop-clause-init c = search (rules, pending_taken)

pub loop-clause-preserved : goal.loop-clause-preserved
loop-clause-preserved c = record {
  len = omega (arith, c.loop-clause.invariant.len, c.watch_clause.ensures.kept.longer);
  pending = λ i was.
      pending_met c.args.position c.args.formula.now c.args.cube.seen.now c.loop-clause.clauses.items c.pop.new.self.items c.in-Some.clause
      c.loop-clause.self.lists.items c.watch_clause.new.self.lists.items c.in-Some.ensures.items c.watch_clause.ensures.kept
      (c.in_ok-watch_clause.ensures.met c.if-not-branch.false) i (c.loop-clause.invariant.pending i was);
}
