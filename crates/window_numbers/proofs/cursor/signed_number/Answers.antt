use Rattle.qbf_tokens.proofs.Cited.{◌<◌, ◌^◌, sym, ◌∙◌}
use Rattle.window_numbers.proofs.BufferedNumber.{found}
use Rattle.window_numbers.proofs.cursor.signed_number.Goals as goal

pub returns : goal.returns
returns c =
    let d = c.digits-value.ensures in
    let nonzero = sym c.is_minus_zero.ensures ∙ c.if-is_minus_zero.false in
    let sep = sym c.is_separator.ensures ∙ c.if-not-is_separator.false in
    let fits : c.digits-value.result.0 < 2 ^ 64 = search in
    found _ _ _ _ _ c.begins_with_minus-negative.ensures d.within.0 fits d.digits d.value c.if-end-start.false c.if-end-bytes.false
    nonzero sep c.from-start.ensures
