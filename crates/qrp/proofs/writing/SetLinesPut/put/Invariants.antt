use Rattle.qrp.proofs.Cited.{drop, flat_map, set_text, IsSent}
use Rattle.qrp.proofs.writing.SetLinesPut.put.Given as goal

abbrev pub invariant-loop-place : goal.invariant-loop-place
invariant-loop-place g l = record {
  sent : IsSent g.K.Sink.written g.K.Sink.failures l.fn.sink l.sink (flat_map set_text (g.T.KeptSets.sets l.self.0.now))
      (flat_map set_text (drop l.place (g.T.KeptSets.sets l.self.0.now)));
}
