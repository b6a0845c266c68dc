use Rattle.std.proofs.Common.{arith, List, ◌∷◌, sym, ap, take, ◌∙◌}
use Rattle.std.proofs.lemmas.List.{take_rest}
use Rattle.qcir_tokens.specs.Tokens.{Token, Word}
use Rattle.qcir_tokens.proofs.Spelled.{word_front}
use Rattle.qcir_tokens.proofs.line.Line.word.Goals as goal

pub returns-clause-some : goal.returns-clause-some
returns-clause-some c =
    let bytes = c.self.inside.rest.now in
    let len = c.word_len-len.result in
    let said = c.word_len-len.ensures in
    let left = rw take_rest at c.after_blanks-self-inside.ensures.tokens in
    sym c.self.view_is
    ∙ (word_front bytes len (omega arith) said.within said.word said.end
    ∙ ap (λ (ts : List Token). Word (take len bytes) ∷ ts) (sym left))
