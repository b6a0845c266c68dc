use Rattle.qbf_tokens.proofs.Cited.{◌≡◌, ◌+◌, ◌*◌, ◌-◌, ◌≤◌}
use Rattle.window_numbers.proofs.numbers.Numbers.note.Given as goal

abbrev pub invariant-loop-i : goal.invariant-loop-i
invariant-loop-i l = record {
  same : l.self ≡ record l.fn.self { places = l.self.places };
  within : l.i ≤ 8;
  few : l.runs ≤ l.fn.runs + 8 * l.i;
}

abbrev pub decreases-loop-i : goal.decreases-loop-i
decreases-loop-i l = 8 - l.i
