use Rattle.qbf_tokens.proofs.Cited.{◌≡◌, ◌+◌, refl, arith}
use Rattle.window_numbers.proofs.tails.FourTails.put_tails.Goals as goal

pub returns-then-not-put_tail-2-clause-fills : goal.returns-then-not-put_tail-2-clause-fills
returns-then-not-put_tail-2-clause-fills c = λ start runs few f.
    let none : c.args.self.first + 0 ≡ c.args.self.first = omega arith in
    let one = c.if-not-put_tail.ensures.fills refl start runs few (rw none f) in
    rw (c.if-not-put_tail-2.ensures.none refl) one

pub returns-then-not-put_tail-3-clause-fills : goal.returns-then-not-put_tail-3-clause-fills
returns-then-not-put_tail-3-clause-fills c = λ start runs few f.
    let none : c.args.self.first + 0 ≡ c.args.self.first = omega arith in
    let one = c.if-not-put_tail.ensures.fills refl start runs few (rw none f) in
    let two = c.if-not-put_tail-2.ensures.fills refl start runs few one in
    rw (c.if-not-put_tail-3.ensures.none refl) two

pub returns-then-not-put_tail-4-clause-fills : goal.returns-then-not-put_tail-4-clause-fills
returns-then-not-put_tail-4-clause-fills c = λ start runs few f.
    let none : c.args.self.first + 0 ≡ c.args.self.first = omega arith in
    let one = c.if-not-put_tail.ensures.fills refl start runs few (rw none f) in
    let two = c.if-not-put_tail-2.ensures.fills refl start runs few one in
    let three = c.if-not-put_tail-3.ensures.fills refl start runs few two in
    rw (c.if-not-put_tail-4.ensures.none refl) three

pub returns-clause-fills : goal.returns-clause-fills
returns-clause-fills c = λ start runs few f.
    let none : c.args.self.first + 0 ≡ c.args.self.first = omega arith in
    let one = c.if-not-put_tail.ensures.fills refl start runs few (rw none f) in
    let two = c.if-not-put_tail-2.ensures.fills refl start runs few one in
    let three = c.if-not-put_tail-3.ensures.fills refl start runs few two in
    c.if-not-put_tail-4.ensures.fills refl start runs few three
