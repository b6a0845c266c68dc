use Rattle.qbf_tokens.proofs.Cited.{◌+◌, ◌<◌, length, arith}
use Rattle.window_numbers.specs.Values.{held, numbers_of}
use Rattle.qbf_text.proofs.LeadingNumbers.{part_taken}
use Rattle.qbf_text.proofs.grammar.take_known.Goals as goal

pub returns-clause-takes : goal.returns-clause-takes
returns-clause-takes g c =
    let all = c.args.numbers.now in
    let few : c.in_ok-count.count < length (numbers_of c.values-values.result) + 1 = omega (arith, c.in_ok-count.ensures.within) in
    part_taken g.G.Grammar.row_of (held all) (numbers_of c.values-values.result) all.first (length (numbers_of c.values-values.result))
    c.values-values.ensures.part _ _ c.in_ok-count.count (all.first + c.in_ok-count.count) c.in_ok-count.answer few (omega arith)
    c.in_ok-count.ensures.takes
