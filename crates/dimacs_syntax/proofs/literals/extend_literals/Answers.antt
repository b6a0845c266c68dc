use Rattle.std.proofs.Common.{arith, sym}
use Rattle.dimacs_syntax.proofs.WrittenNumbers.{written_short}
use Rattle.dimacs_syntax.proofs.literals.extend_literals.Goals as goal

pub returns-clause-extended : goal.returns-clause-extended
returns-clause-extended c = λ added.
    let written = c.in_ok-is_added.ensures.written added in
    let same = c.short.ensures (written_short c.args.last _ (omega (arith, c.requires.last)) written) in
    rw (sym same) (c.in_ok-is_added.ensures.extended added)

pub returns-clause-written : goal.returns-clause-written
returns-clause-written c = λ added.
    let written = c.in_ok-is_added.ensures.written added in
    let same = c.short.ensures (written_short c.args.last _ (omega (arith, c.requires.last)) written) in
    rw (sym same) written
