use Rattle.std.proofs.Common.{◌≡◌, map, take}
use Rattle.std.specs.List.{AllByRecursion}
use Rattle.qbf_core.specs.WrittenLiterals.{IsWritten, literal_of}
use Rattle.qrp_handle.proofs.written.literals_of.Given as goal

abbrev pub invariant-loop-number : goal.invariant-loop-number
invariant-loop-number l = (l.lits.items ≡ map literal_of (take l.number-index l.written)) × AllByRecursion (IsWritten 2147483647) (take l.number-index l.written)
