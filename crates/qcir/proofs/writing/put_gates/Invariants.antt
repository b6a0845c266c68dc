use Rattle.std.proofs.Common.{drop}
use Rattle.qbf_text.specs.Written.{IsSent}
use Rattle.qcir.specs.Written.{gates_text}
use Rattle.qcir.proofs.writing.put_gates.Given as goal

abbrev pub invariant-loop-i : goal.invariant-loop-i
invariant-loop-i g l = record {
  sent : IsSent g.K.Sink.written g.K.Sink.failures l.fn.sink l.sink (gates_text l.names l.gates.gates)
      (gates_text l.names (drop l.i l.gates.gates));
}
