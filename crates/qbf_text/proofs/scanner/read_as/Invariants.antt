use Rattle.qbf_tokens.proofs.Cited.{◌≡◌, ◌+◌, ◌≤◌, length}
use Rattle.qbf_text.proofs.Cited.{ahead}
use Rattle.qbf_text.proofs.BytesAhead.{IsReading}
use Rattle.qbf_text.proofs.scanner.read_as.Given as goal

abbrev pub invariant-bytes : goal.invariant-bytes
invariant-bytes g l = record {
  reading : IsReading (ahead l.fn.window (g.S.Source.remaining l.fn.source)) (ahead l.window (g.S.Source.remaining l.source))
      (g.R.Run.reads l.run) l.first;
  bound : length l.window + g.S.Source.bound l.source ≤ length l.fn.window + g.S.Source.bound l.fn.source;
  failures : g.S.Source.failures l.source ≡ g.S.Source.failures l.fn.source;
}

abbrev pub decreases-bytes : goal.decreases-bytes
decreases-bytes g l = length l.window + g.S.Source.bound l.source
