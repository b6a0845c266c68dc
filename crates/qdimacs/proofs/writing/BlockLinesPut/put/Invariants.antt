use Rattle.qdimacs.proofs.Cited.{drop, pairs, blocks_of, IsSent, blocks_rest, sets_text}
use Rattle.qdimacs.proofs.writing.BlockLinesPut.put.Given as goal

abbrev pub invariant-loop-i : goal.invariant-loop-i
invariant-loop-i g l = record {
  sent : IsSent g.K.Sink.written g.K.Sink.failures l.fn.sink l.sink (sets_text l.self.0.now)
      (blocks_rest l.last (blocks_of (drop l.i (pairs l.self.0.now))));
}
