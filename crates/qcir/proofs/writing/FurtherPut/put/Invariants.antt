use Rattle.std.proofs.Common.{drop}
use Rattle.std.specs.List.{flat_map}
use Rattle.qbf_text.specs.Written.{IsSent}
use Rattle.qcir.specs.Written.{input_text}
use Rattle.qcir.proofs.writing.FurtherPut.put.Given as goal

abbrev pub invariant-loop-lit : goal.invariant-loop-lit
invariant-loop-lit g l = record {
  sent : IsSent g.K.Sink.written g.K.Sink.failures l.fn.sink l.sink (flat_map (input_text l.self.0.now) l.self.1.now)
      (flat_map (input_text l.self.0.now) (drop l.lit-index l.self.1.now));
}
