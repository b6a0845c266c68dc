use Rattle.qbf_tokens.proofs.Cited.{◌-◌, ◌≤◌}
use Rattle.window_numbers.proofs.numbers.Numbers.note_all.Given as goal

abbrev pub invariant-loop-block : goal.invariant-loop-block
invariant-loop-block l = record { block : l.block ≤ 4096; runs : l.runs ≤ 2048 }

abbrev pub decreases-loop-block : goal.decreases-loop-block
decreases-loop-block l = l.len - l.block
