use Rattle.qbf_tokens.proofs.Cited.{◌≡◌, ◌-◌, ◌≤◌, count_by, is_line_end}
use Rattle.window_numbers.proofs.Cited.{take}
use Rattle.window_numbers.proofs.lines.count_line_ends.Given as goal

abbrev pub invariant-loop-i : goal.invariant-loop-i
invariant-loop-i l = record {
  within : l.i ≤ l.len;
  counted : l.count ≡ count_by is_line_end (take l.i l.bytes);
  few : l.count ≤ l.i;
}

abbrev pub decreases-loop-i : goal.decreases-loop-i
decreases-loop-i l = l.len - l.i
