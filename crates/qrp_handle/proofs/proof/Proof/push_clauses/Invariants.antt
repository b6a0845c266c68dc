use Rattle.std.proofs.Common.{◌≡◌, ◌≤◌, ◌<◌, ◌+◌, ◌^◌, drop, length}
use Rattle.qrp_handle.specs.Many.{AreAdded, clauses_of}
use Rattle.qrp_handle.proofs.proof.Proof.push_clauses.Given as goal

abbrev pub invariant-loop-rest : goal.invariant-loop-rest
invariant-loop-rest l = record {
  left : drop l.count (clauses_of l.written) ≡ clauses_of l.rest;
  within : l.count ≤ length (clauses_of l.written);
  fewer : l.count + length l.rest ≤ length l.written;
  small : length l.written < 2 ^ 63;
  added : AreAdded l.count l.written l.fn.self l.self;
}

abbrev pub decreases-loop-rest : goal.decreases-loop-rest
decreases-loop-rest l = length l.rest
