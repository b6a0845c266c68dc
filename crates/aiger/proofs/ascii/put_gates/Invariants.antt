use Rattle.std.proofs.Common.{◌+◌, drop}
use Rattle.qbf_text.specs.Written.{IsSent}
use Rattle.aiger.specs.Texts.{gate_lines}
use Rattle.aiger.proofs.ascii.put_gates.Given as goal

abbrev pub invariant-loop-i : goal.invariant-loop-i
invariant-loop-i g l = record {
  sent : IsSent g.K.Sink.written g.K.Sink.failures l.fn.sink l.sink (gate_lines l.first l.gates)
      (gate_lines (l.first + l.i) (drop l.i l.gates));
}
