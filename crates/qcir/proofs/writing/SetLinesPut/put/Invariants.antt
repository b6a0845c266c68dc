use Rattle.std.proofs.Common.{drop}
use Rattle.qbf_core.specs.Blocks.{blocks_of, pairs}
use Rattle.qbf_text.specs.Written.{IsSent}
use Rattle.qcir.specs.Written.{blocks_rest, sets_text}
use Rattle.qcir.proofs.writing.SetLinesPut.put.Given as goal

abbrev pub invariant-loop-i : goal.invariant-loop-i
invariant-loop-i g l = record {
  sent : IsSent g.K.Sink.written g.K.Sink.failures l.fn.sink l.sink (sets_text l.self.0.now l.self.1.now)
      (blocks_rest l.self.0.now l.last (blocks_of (drop l.i (pairs l.self.1.now))));
}
