use Rattle.qbf_core.proofs.Cited.{◌≡◌, ◌≤◌, ◌-◌, ◌++◌, length, map, take, AllByRecursion, literal_of, IsWritten}
use Rattle.qbf_core.proofs.written_literals.put_each.Given as goal

abbrev pub invariant-numbers : goal.invariant-numbers
invariant-numbers l = record {
  put : l.lists.unfinished ≡ l.fn.lists.unfinished ++ map literal_of (take l.place l.numbers);
  whole : l.lists.whole ≡ l.fn.lists.whole;
  written : AllByRecursion (IsWritten l.last) (take l.place l.numbers);
  within : l.place ≤ length l.numbers;
}

abbrev pub decreases-numbers : goal.decreases-numbers
decreases-numbers l = length l.numbers - l.place
