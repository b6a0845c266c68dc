use Rattle.qdimacs.proofs.Cited.{drop, IsSent, clauses_text}
use Rattle.qdimacs.proofs.writing.ClauseLinesPut.put.Given as goal

abbrev pub invariant-loop-i : goal.invariant-loop-i
invariant-loop-i g l = record {
  sent : IsSent g.K.Sink.written g.K.Sink.failures l.fn.sink l.sink (clauses_text l.self.0.now.clauses)
      (clauses_text (drop l.i l.self.0.now.clauses));
}
