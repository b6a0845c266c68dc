use Rattle.std.proofs.Common.{arith}
use Rattle.decimal.proofs.Chunks.{word_read}
use Rattle.decimal.proofs.number.by_word.Goals as goal

pub returns-clause-digits : goal.returns-clause-digits
returns-clause-digits c =
    let found = c.in_ok-len.ensures in
    let word = c.in_ok-word.ensures in
    word_read _ _ c.in_ok-word.word _ _ word.within word.bytes word.fits (omega arith) found.len found.value
