use Rattle.std.proofs.Common.{arith, List, subst}
use Rattle.qcir_tokens.specs.Tokens.{BeginsWithout, Token}
use Rattle.qcir_tokens.proofs.Spelled.{no_mark_at}
use Rattle.qcir_tokens.proofs.line.Line.take.Goals as goal

pub returns-then-not-is_mark-clause-other : goal.returns-then-not-is_mark-clause-other
returns-then-not-is_mark-clause-other c = λ _.
    let bytes = c.self.inside.rest.now in
    let mark = c.args.mark in
    let P : List Token → Type 0 = λ ts. BeginsWithout mark ts in
    subst P c.self.view_is (no_mark_at bytes mark c.self.invariant (omega arith) (c.is_mark.ensures.other c.if-not-is_mark.true))
