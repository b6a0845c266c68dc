use Rattle.trace_check.proofs.Cited.{◌≤◌, length, take, pairs, Passes}
use Rattle.trace_check.proofs.agree.sets_fault.Given as goal

abbrev pub invariant-loop-place : goal.invariant-loop-place
invariant-loop-place g l = record {
  within : l.place ≤ length (g.Q.KeptSets.sets l.sets);
  passes : Passes l.prefix 0 (pairs (take l.place (g.Q.KeptSets.sets l.sets))) l.highest;
}
