use Rattle.std.proofs.Common.{◌≡◌, ◌+◌, false, length, if◌then◌else◌}
use Rattle.std.specs.Io.KnownBytes.{Consumes, IsAtEnd}
use Rattle.qcir.proofs.source.read_bytes.Given as goal

abbrev pub invariant-pieces : goal.invariant-pieces
invariant-pieces g l = record {
  bytes : Consumes (g.S.Source.remaining l.initial.source) (g.S.Source.remaining l.source) l.text.items;
  at_end : l.more ≡ false → IsAtEnd (g.S.Source.remaining l.source);
  works : g.S.Source.failures l.source ≡ g.S.Source.failures l.initial.source;
  room : length l.piece ≡ 65536;
}

abbrev pub decreases-pieces : goal.decreases-pieces
decreases-pieces g l = g.S.Source.bound l.source + (if l.more then 1 else 0)
