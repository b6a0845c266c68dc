use Rattle.qbf_tokens.proofs.Cited.{ap, arith, length}
use Rattle.qbf_text.proofs.ReadTexts.{follows_then}
use Rattle.qbf_text.proofs.grammar.read_text.Goals as goal

pub returns-clause-follows : goal.returns-clause-follows
returns-clause-follows g c =
    let none = ap length c.new-scanner.ensures.pending in
    follows_then g.G.Grammar.row_of _ _ _ _ _ c.read_by.result (λ less. omega (arith, less, none))
    (λ ended. ended (c.new-scanner.ensures.open.1, λ end. absurd (c.new-scanner.ensures.open.0 end))) c.read_by.ensures.follows
