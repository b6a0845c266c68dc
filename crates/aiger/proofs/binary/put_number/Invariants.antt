use Rattle.std.proofs.Common.{◌-◌}
use Rattle.qbf_text.specs.Written.{IsSent}
use Rattle.aiger.specs.Binary.{groups, number_bytes}
use Rattle.aiger.proofs.binary.put_number.Given as goal

abbrev pub invariant-loop-group : goal.invariant-loop-group
invariant-loop-group g l = record {
  sent : IsSent g.K.Sink.written g.K.Sink.failures l.fn.sink l.sink (number_bytes l.fn.number) (groups (5 - l._group) l.rest);
}
