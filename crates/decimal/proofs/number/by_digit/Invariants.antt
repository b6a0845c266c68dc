use Rattle.std.proofs.Common.{◌≡◌, ◌≤◌, ◌-◌, length, take}
use Rattle.std.specs.Str.Parse.{digits_value, AllDigits}
use Rattle.decimal.proofs.number.by_digit.Given as goal

abbrev pub invariant-loop-i : goal.invariant-loop-i
invariant-loop-i l = record {
  most : l.i ≤ 20;
  within : l.i ≤ length l.rest;
  digits : AllDigits 10 (take l.i l.rest);
  value : l.value ≡ digits_value 10 (take l.i l.rest);
}

abbrev pub decreases-loop-i : goal.decreases-loop-i
decreases-loop-i l = 20 - l.i
