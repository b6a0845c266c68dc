use Rattle.qrp_rules.proofs.Cited.{◌≤◌, ℕ, length}
use Rattle.written_steps.proofs.Cited.{IsMet}
use Rattle.written_steps.proofs.initial_cubes.InitialCubes.renew.Given as goal

abbrev pub invariant-loop-position : goal.invariant-loop-position
invariant-loop-position l = record {
  within : l.position ≤ length l.self.lists.items;
  met : (i : ℕ) → IsMet l.position l.formula l.cube.seen.now l.self.lists.items i;
}
