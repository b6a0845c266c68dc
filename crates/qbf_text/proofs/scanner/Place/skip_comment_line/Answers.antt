use Rattle.qbf_tokens.proofs.Cited.{◌<◌, length, sym, ◌∙◌, arith}
use Rattle.qbf_text.proofs.Cited.{PlaceSkips, subst}
use Rattle.qbf_text.proofs.CommentLines.{skips_line}
use Rattle.qbf_text.proofs.Stops.{place_skips_more}
use Rattle.qbf_text.proofs.scanner.Place.skip_comment_line.Goals as goal

pub returns-clause-none : goal.returns-clause-none
returns-clause-none c = λ remaining.
    let p = c.args.self.now in
    let end = c.line_len-end.result in
    let few : end < length p.window = omega (arith, c.if-end-len.false, c.len.ensures) in
    let ends = rw c.bytes.ensures at c.line_len-end.ensures.end in
    let passed =
    skips_line p remaining c.if-self.false c.in-Some.byte end (sym c.in-Some.is ∙ c.first.ensures)
    (sym c.is_separator.ensures ∙ c.if-is_separator.false) (sym c.begins_with.ensures ∙ c.if-not-begins_with.false)
    (rw c.bytes.ensures at c.line_len-end.ensures.line) few (ends few) in
    place_skips_more p _ _ remaining remaining remaining
    (subst (λ w. PlaceSkips p remaining (record p { window = w }) remaining) (sym c.go_to.ensures.rest) passed)
    (c.pass_separator.ensures.none remaining)
