use Rattle.qrp_rules.proofs.Cited.{◌≡◌}
use Rattle.written_steps.proofs.initial_cubes.InitialCubes.watch_clause.Given as goal

abbrev pub invariant-loop-lit : goal.invariant-loop-lit
invariant-loop-lit l = l.self ≡ l.initial.self
