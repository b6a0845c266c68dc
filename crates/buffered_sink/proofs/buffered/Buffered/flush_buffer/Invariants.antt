use Rattle.std.proofs.Common.{◌≡◌, length}
use Rattle.std.specs.Io.KnownBytes.{append_known, Keeps}
use Rattle.buffered_sink.proofs.buffered.Buffered.flush_buffer.Given as goal

-- bytes that were held back and are sent are not held back any more, and no push failed
abbrev pub invariant-loop-self : goal.invariant-loop-self
invariant-loop-self g l = record {
  bytes : Keeps (append_known (g.S.Sink.written l.fn.self.sink) l.fn.self.buffer) (append_known (g.S.Sink.written l.self.sink) l.self.buffer);
  works : g.S.Sink.failures l.self.sink ≡ g.S.Sink.failures l.fn.self.sink;
}

abbrev pub decreases-loop-self : goal.decreases-loop-self
decreases-loop-self g l = length l.self.buffer
