use Rattle.qrp.proofs.Cited.{IsSent}
use Rattle.std.specs.List.{flat_map}
use Rattle.std.proofs.Common.{length}
use Rattle.dimacs_syntax.specs.Texts.{literal_text}
use Rattle.qrp.proofs.writing.put_lits.Given as goal

abbrev pub invariant-fours : goal.invariant-fours
invariant-fours g l = record {
  sent : IsSent g.K.Sink.written g.K.Sink.failures l.fn.sink l.sink (flat_map literal_text l.fn.lits) (flat_map literal_text l.left);
}

abbrev pub decreases-fours : goal.decreases-fours
decreases-fours g l = length l.left

abbrev pub invariant-literals : goal.invariant-literals
invariant-literals g l = record {
  sent : IsSent g.K.Sink.written g.K.Sink.failures l.fn.sink l.sink (flat_map literal_text l.fn.lits) (flat_map literal_text l.left);
}

abbrev pub decreases-literals : goal.decreases-literals
decreases-literals g l = length l.left
