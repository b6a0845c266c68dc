use Rattle.qbf_tokens.proofs.Cited.{◌≡◌, ◌+◌, arith}
use Rattle.std.proofs.Common.{◌%◌}
use Rattle.window_numbers.specs.Numbers.{place}
use Rattle.window_numbers.proofs.HeldNumbers.{front_from}
use Rattle.window_numbers.proofs.numbers.Numbers.pass.Goals as goal

pub returns-then-from-bytes : goal.returns-then-from-bytes
returns-then-from-bytes c =
    let n = c.args.self.now in
    let there = (n.first + c.args.count) % 18446744073709551616 in
    let same : place n n.first + c.args.bytes ≡ place n there =
    omega (arith, c.from.ensures, c.from-then-there-self.ensures, c.if-from-bytes.true) in
    record { held = λ front f. front_from n there c.args.bytes c.zero_from-self.result c.if-here-there.true c.if-there-self.true same front f }
