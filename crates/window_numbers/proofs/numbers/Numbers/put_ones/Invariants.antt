use Rattle.qbf_tokens.proofs.Cited.{◌-◌, ◌≤◌}
use Rattle.window_numbers.specs.Numbers.{FillsTo, place}
use Rattle.window_numbers.proofs.numbers.Numbers.put_ones.Given as goal

abbrev pub invariant-numbers : goal.invariant-numbers
invariant-numbers l = record { fills : FillsTo l.self l.bytes (place l.fn.self l.fn.self.first) l.runs l.k; further : l.fn.filled.next ≤ l.k }

abbrev pub decreases-numbers : goal.decreases-numbers
decreases-numbers l = l.most - l.k
