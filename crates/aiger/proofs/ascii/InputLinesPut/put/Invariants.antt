use Rattle.std.proofs.Common.{◌+◌, drop}
use Rattle.qbf_text.specs.Written.{IsSent}
use Rattle.aiger.specs.Texts.{input_lines}
use Rattle.aiger.proofs.ascii.InputLinesPut.put.Given as goal

abbrev pub invariant-loop-i : goal.invariant-loop-i
invariant-loop-i g l = record {
  sent : IsSent g.K.Sink.written g.K.Sink.failures l.fn.sink l.sink (input_lines 1 l.self.0.now)
      (input_lines (l.i + 1) (drop l.i l.self.0.now));
}
