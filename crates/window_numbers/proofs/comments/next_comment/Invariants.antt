use Rattle.qbf_tokens.proofs.Cited.{◌-◌, ◌≤◌}
use Rattle.window_numbers.proofs.comments.next_comment.Given as goal

abbrev pub invariant-loop-at : goal.invariant-loop-at
invariant-loop-at l = record { within : l.at ≤ l.end }

abbrev pub decreases-loop-at : goal.decreases-loop-at
decreases-loop-at l = l.end - l.at
