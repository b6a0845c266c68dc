use Rattle.qbf_tokens.proofs.Cited.{ap, ◌∙◌, is_line_end}
use Rattle.window_numbers.proofs.Cited.{take}
use Rattle.std.specs.Int.RustNames.{count_ones}
use Rattle.std.proofs.lemmas.Simd.{ones-mask_l}
use Rattle.window_numbers.proofs.lines.count_in_block.Goals as goal

pub returns-clause-counted : goal.returns-clause-counted
returns-clause-counted c = ap count_ones c.marks_of.ensures ∙ ones-mask_l is_line_end (take 16 c.args.block.now)
