use Rattle.std.proofs.Common.{◌<◌, ◌^◌, arith, refl, subst}
use Rattle.qrp_bytes.specs.declared.verdict.QrpVerdict.{QrpVerdict}
use Rattle.qrp_bytes.proofs.EncodedLines.{as_checked, encoded_alike, line_alike}
use Rattle.qrp_bytes.proofs.LineRoom.{checked_short, kept_whole}
use Rattle.qrp_bytes.proofs.lines.line_of.Goals as goal

pub returns-clause-gates : goal.returns-clause-gates
returns-clause-gates c = λ outcome is.
    let small : c.args.verdict.now.position < 2 ^ 64 = omega arith in
    kept_whole _ _ _ c.new-line.result c.put_line.new.sink _ c.put_line.result _ (c.put_line.ensures.encoded outcome is) c.new-line.ensures.written
    c.new-line.ensures.failures refl c.put_line.new.sink.full
    (checked_short outcome is.1 (subst (λ (v : QrpVerdict). v.position < 2 ^ 64) is.0 small))

pub returns-clause-encoded : goal.returns-clause-encoded
returns-clause-encoded c = λ outcome is.
    rw (line_alike outcome) at (returns-clause-gates c (as_checked outcome) (encoded_alike outcome c.args.verdict.now is))
