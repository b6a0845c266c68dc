use Rattle.qbf_core.proofs.Cited.{◌≡◌, ◌<◌, ◌+◌, ◌-◌, ◌++◌, map, take, AllByRecursion, literal_of, IsWritten}
use Rattle.qbf_core.proofs.written_literals.put_fours.Given as goal

abbrev pub invariant-fours : goal.invariant-fours
invariant-fours l = record {
  put : l.lists.unfinished ≡ l.fn.lists.unfinished ++ map literal_of (take l.place l.numbers);
  whole : l.lists.whole ≡ l.fn.lists.whole;
  written : AllByRecursion (IsWritten l.last) (take l.place l.numbers);
  within : l.place < l.end + 4;
}

abbrev pub decreases-fours : goal.decreases-fours
decreases-fours l = l.end - l.place
