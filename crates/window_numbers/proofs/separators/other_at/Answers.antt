use Rattle.qbf_tokens.proofs.Cited.{◌≡◌, ◌<◌, ◌∙◌, ap}
use Rattle.window_numbers.proofs.Cited.{nat_eq, get_or}
use Rattle.window_numbers.proofs.SeparatorTable.{table, separates}
use Rattle.window_numbers.proofs.separators.other_at.Goals as goal

pub returns : goal.returns
returns c =
    let byte = get_or c.args.bytes.now c.args.place 0 in
    let is : c.entry.result ≡ get_or table byte 0 = c.entry.ensures in
    let fits : byte < 256 = search in
    ap (λ k. nat_eq k 0) is ∙ separates byte fits
