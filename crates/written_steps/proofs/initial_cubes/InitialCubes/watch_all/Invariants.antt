use Rattle.qrp_rules.proofs.Cited.{ℕ, ◌<◌}
use Rattle.written_steps.proofs.Cited.{IsMet}
use Rattle.written_steps.proofs.initial_cubes.InitialCubes.watch_all.Given as goal

abbrev pub invariant-loop-position : goal.invariant-loop-position
invariant-loop-position l = (i : ℕ) → i < l.position → IsMet 0 l.formula l.cube.seen.now l.self.lists.items i
