use Rattle.std.proofs.Common.{arith, ◌<◌, length, ◌∙◌}
use Rattle.std.proofs.lemmas.Bool.Decides.{nat_tests}
use Rattle.qcir_tokens.proofs.Spelled.{some_tokens}
use Rattle.qcir_tokens.proofs.line.Line.is_done.Goals as goal

pub returns-clause-more : goal.returns-clause-more
returns-clause-more c = λ more none.
    let bytes = c.self.inside.rest.now in
    let some : 0 < length bytes = grind (arith, nat_tests, c.is_empty.ensures) in
    some_tokens bytes c.self.invariant some (c.self.view_is ∙ none)
