use Rattle.std.proofs.Common.{rules, eqb-true}
use Rattle.decimal.proofs.Masks.{no_mark}
use Rattle.decimal.proofs.Lists.{word_bytes, bytes_fit}
use Rattle.decimal.proofs.word.surely_digits.Goals as goal

pub returns : goal.returns
returns c all = search (rules, no_mark, bytes_fit, word_bytes, eqb-true)
