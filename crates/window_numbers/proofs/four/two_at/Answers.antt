use Rattle.std.specs.Prelude.{slice_index}
use Rattle.window_numbers.proofs.TwoNumbers.{halves_write}
use Rattle.window_numbers.proofs.four.two_at.Goals as goal

pub returns : goal.returns
returns c small =
    let x = c.args in
    halves_write x.bytes.now c.two_words-word.result c.two_masks-rest.result c.two_masks-whole.result (slice_index x.from 0)
    (slice_index x.end 0) (slice_index x.from 1) (slice_index x.end 1) c.type_inv.bytes c.requires.first c.requires.second
    c.two_words-word.ensures c.two_masks-whole.ensures c.two_masks-rest.ensures small
    c.four_fours.result c.two_signs.result c.four_fours.ensures c.two_signs.ensures
