use Rattle.qbf_tokens.proofs.Cited.{◌^◌, ◌<◌}
use Rattle.window_numbers.proofs.PassedNumbers.{all_after, passes_letter}
use Rattle.window_numbers.proofs.cursor.Cursor.letter.Goals as goal

pub returns : goal.returns
returns c =
    let small : c.args.self.line < 2 ^ 64 = search in
    passes_letter c.args.bytes.now c.args.self c.in-Some.word
    (rw (all_after c.args.self.at c.args.bytes.now) at c.in-Some.ensures) small c.requires
