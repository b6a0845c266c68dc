use Rattle.qbf_tokens.proofs.Cited.{◌-◌, ◌≤◌}
use Rattle.window_numbers.proofs.numbers.Numbers.ending_after.Given as goal

abbrev pub invariant-loop-next : goal.invariant-loop-next
invariant-loop-next l = record { further : l.fn.first ≤ l.next }

abbrev pub decreases-loop-next : goal.decreases-loop-next
decreases-loop-next l = l.runs - l.next
