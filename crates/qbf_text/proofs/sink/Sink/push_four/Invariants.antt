use Rattle.std.proofs.Common.{drop}
use Rattle.std.specs.List.{flat_map}
use Rattle.qbf_text.specs.Written.{IsSent, spaced_text}
use Rattle.qbf_text.proofs.sink.Sink.push_four.Given as goal

abbrev pub invariant-loop-negative : goal.invariant-loop-negative
invariant-loop-negative g l = record {
  sent : IsSent g.Self.Sink.written g.Self.Sink.failures l.fn.self l.self (flat_map spaced_text l.fn.four)
      (flat_map spaced_text (drop l.negative-index l.fn.four));
}
