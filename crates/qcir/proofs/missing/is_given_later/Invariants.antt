use Rattle.std.proofs.Common.{◌≡◌, ◌+◌, length, if◌then◌else◌}
use Rattle.qcir.specs.Reading.{is_given, lines_left}
use Rattle.qcir.proofs.missing.is_given_later.Given as goal

abbrev pub invariant-lines : goal.invariant-lines
invariant-lines l = is_given l.name (lines_left l.is_left l.text) ≡ is_given l.name (lines_left l.more l.rest)

abbrev pub decreases-lines : goal.decreases-lines
decreases-lines l = length l.rest + (if l.more then 1 else 0)
