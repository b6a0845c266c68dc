use Rattle.std.proofs.Common.{◌≡◌, ◌+◌, ◌≤◌, length, Ok, if◌then◌else◌}
use Rattle.qcir.specs.Reading.{lines_left, read_gates, read_lines}
use Rattle.qcir.proofs.text.read_question.Given as goal

abbrev pub invariant-lines : goal.invariant-lines
invariant-lines l = record {
  read : read_gates l.text ≡ read_lines (Ok l.reader) l.line (lines_left l.more l.rest);
  few : l.line + (length l.rest + (if l.more then 1 else 0)) ≤ length l.text + 1;
}

abbrev pub decreases-lines : goal.decreases-lines
decreases-lines l = length l.rest + (if l.more then 1 else 0)
