use Rattle.qrp.proofs.Cited.{drop, IsSent, steps_at, steps_text}
use Rattle.qrp.proofs.writing.StepLinesAtPut.put.Given as goal

abbrev pub invariant-loop-position : goal.invariant-loop-position
invariant-loop-position g l = record {
  sent : IsSent g.K.Sink.written g.K.Sink.failures l.fn.sink l.sink (steps_text (steps_at (g.T.KeptSteps.steps l.self.trace.now) l.self.positions.now))
      (steps_text (steps_at (g.T.KeptSteps.steps l.self.trace.now) (drop l.position-index l.self.positions.now)));
}
