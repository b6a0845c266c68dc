use Rattle.qbf_tokens.proofs.Cited.{◌-◌, ◌≤◌}
use Rattle.window_numbers.proofs.numbers.Numbers.zero_from.Given as goal

abbrev pub invariant-loop-zero : goal.invariant-loop-zero
invariant-loop-zero l = l.count ≤ 2048

abbrev pub decreases-loop-zero : goal.decreases-loop-zero
decreases-loop-zero l = l.count - l.zero
