use Rattle.qbf_tokens.proofs.Cited.{is_blank, is_line_end}
use Rattle.qbf_text.proofs.Cited.{Consumes-nil, ahead}
use Rattle.qbf_text.proofs.KnownLeft.{took_at, no_line_end_at}
use Rattle.qbf_tokens.proofs.ByteByByte.{or_cases}
use Rattle.qbf_text.proofs.Stops.{skips_blank}
use Rattle.qbf_text.proofs.scanner.Place.pass_separator.Goals as goal

pub returns-else-byte-eq10-clause-none : goal.returns-else-byte-eq10-clause-none
returns-else-byte-eq10-clause-none c remaining =
    let s = c.args.self.now in
    let took =
    took_at (ahead s.window remaining) s.window _ remaining c.args.byte c.advance.ensures.rest (Consumes-nil _) c.requires.next.0 in
    let blank = or_cases (is_blank c.args.byte) (is_line_end c.args.byte) (no_line_end_at c.args.byte c.if-byte-eq10.false)
    c.requires.next.1 in
    skips_blank s.comments s.begun s.line c.args.byte _ _ took blank
