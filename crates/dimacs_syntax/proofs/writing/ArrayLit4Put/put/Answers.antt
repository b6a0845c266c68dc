use Rattle.std.proofs.Common.{◌∙◌, ◌++◌, [], ◌∷◌, arith, false, refl, subst, sym}
use Rattle.qbf_text.specs.Written.{IsPut, spaced_text}
use Rattle.qbf_text.proofs.SentParts.{four_texts}
use Rattle.dimacs_syntax.specs.Texts.{literal_text}
use Rattle.dimacs_syntax.proofs.writing.ArrayLit4Put.put.Goals as goal

pub returns : goal.returns
returns g c =
    let four = c.signed.result ∷ c.signed-2.result ∷ c.signed-3.result ∷ c.signed-4.result ∷ [] in
    subst (λ text. IsPut g.K.Sink.written g.K.Sink.failures g.K.Sink.failed_last c.args.sink.now c.push_four.new.self text c.push_four.result)
    (sym (four_texts spaced_text four (false, 0) (false, 0) (false, 0) (false, 0) refl)
    ∙ (λ i. c.signed.ensures i ++ (c.signed-2.ensures i ++ (c.signed-3.ensures i ++ c.signed-4.ensures i)))
    ∙ four_texts literal_text c.args.self.now _ _ _ _ (omega arith))
    c.push_four.ensures.put
