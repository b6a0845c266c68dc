use Rattle.qbf_tokens.proofs.Cited.{◌≡◌, ◌≤◌, length}
use Rattle.qbf_text.proofs.Cited.{IsSent}
use Rattle.qbf_text.proofs.sink.Sink.push_all.Given as goal

-- the bytes before the rest went out, no push failed, and without bytes there was no push
abbrev pub invariant-loop-rest : goal.invariant-loop-rest
invariant-loop-rest g l = record {
  sent : IsSent g.Self.Sink.written g.Self.Sink.failures l.fn.self l.self l.bytes l.rest;
  fewer : length l.rest ≤ length l.bytes;
  none : length l.bytes ≡ 0 → l.self ≡ l.fn.self;
}

abbrev pub decreases-loop-rest : goal.decreases-loop-rest
decreases-loop-rest g l = length l.rest
