use Rattle.qbf_tokens.proofs.Cited.{◌≡◌, ◌-◌, ◌≤◌, length, count_by, is_line_end}
use Rattle.window_numbers.proofs.Cited.{take}
use Rattle.window_numbers.proofs.lines.count_by_byte.Given as goal

abbrev pub invariant-loop-i : goal.invariant-loop-i
invariant-loop-i l = record {
  within : l.i ≤ length l.bytes;
  counted : l.count ≡ count_by is_line_end (take l.i l.bytes);
  few : l.count ≤ l.i;
}

abbrev pub decreases-loop-i : goal.decreases-loop-i
decreases-loop-i l = length l.bytes - l.i
