use Rattle.qrp.proofs.Cited.{drop, IsSent, steps_text}
use Rattle.qrp.proofs.writing.StepLinesPut.put.Given as goal

abbrev pub invariant-loop-position : goal.invariant-loop-position
invariant-loop-position g l = record {
  sent : IsSent g.K.Sink.written g.K.Sink.failures l.fn.sink l.sink (steps_text (g.T.KeptSteps.steps l.self.0.now))
      (steps_text (drop l.position (g.T.KeptSteps.steps l.self.0.now)));
}
