use Rattle.qrp_rules.proofs.Cited.{◌≤◌, ◌+◌, ℕ, length}
use Rattle.written_steps.proofs.Cited.{IsMet}
use Rattle.std.proofs.Common.{vec_len}
use Rattle.written_steps.proofs.WatchedClauses.{IsPending}
use Rattle.written_steps.proofs.initial_cubes.InitialCubes.move_clauses.Given as goal

abbrev pub invariant-loop-clause : goal.invariant-loop-clause
invariant-loop-clause l = record {
  len : l.position ≤ length l.self.lists.items;
  pending : (i : ℕ) → IsMet (l.position + 1) l.formula l.cube.seen.now l.fn.self.lists.items i
      → IsPending l.position l.formula l.cube.seen.now l.clauses.items l.self.lists.items i;
}

abbrev pub decreases-loop-clause : goal.decreases-loop-clause
decreases-loop-clause l = vec_len l.clauses
