use Rattle.std.proofs.Common.{◌+◌, drop}
use Rattle.qbf_text.specs.Written.{IsSent}
use Rattle.aiger.specs.Binary.{gates_bytes}
use Rattle.aiger.proofs.binary.put_gates.Given as goal

abbrev pub invariant-loop-i : goal.invariant-loop-i
invariant-loop-i g l = record {
  sent : IsSent g.K.Sink.written g.K.Sink.failures l.fn.sink l.sink (gates_bytes l.first l.gates)
      (gates_bytes (l.first + l.i) (drop l.i l.gates));
}
