use Rattle.std.proofs.Common.{drop}
use Rattle.std.specs.List.{flat_map}
use Rattle.qbf_text.specs.Written.{IsSent}
use Rattle.dimacs_syntax.proofs.writing.RefSlicePut.put.Given as goal

abbrev pub invariant-loop-item : goal.invariant-loop-item
invariant-loop-item g l = record {
  sent : IsSent g.K.Sink.written g.K.Sink.failures l.fn.sink l.sink (flat_map g.P.Put.text l.self.now)
      (flat_map g.P.Put.text (drop l.item-index l.self.now));
}
