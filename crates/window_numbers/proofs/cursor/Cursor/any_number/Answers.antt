use Rattle.qbf_tokens.proofs.Cited.{◌^◌, ◌<◌}
use Rattle.window_numbers.proofs.PassedNumbers.{all_after, passes_number}
use Rattle.window_numbers.proofs.cursor.Cursor.any_number.Goals as goal

pub returns : goal.returns
returns c =
    let small : c.args.self.line < 2 ^ 64 = search in
    rw (c.pass.ensures.token, c.pass.ensures.next) (passes_number c.args.bytes.now c.args.self _ _ _ _
    (rw (all_after c.args.self.at c.args.bytes.now) at c.in-Some.ensures) small c.requires)
