use Rattle.std.proofs.Common.{◌∙◌, sym, ap, refl, List, ℕ, ◌∷◌, [], inl, inr, string_bytes}
use Rattle.qrp_cli.proofs.WordByWord.{two_words, no_two_words}
use Rattle.qrp_gates.proofs.words.request.Goals as goal

pub returns-in-len2-clause-row : goal.returns-in-len2-clause-row
returns-in-len2-clause-row c =
    let two = two_words (λ w. string_bytes w) c.args.words.now c.command-item.result c.in-len2.len_at_least c.in-len2.len_below in
    inr (inr (inr (
      two.0,
      two.1
          ∙ ap (λ (k : List ℕ). k ∷ two.0 ∷ []) (ap (λ w. string_bytes w) (sym c.command-item.is) ∙ c.is_word.ensures.0 c.if-is_word.true),
      refl,
    )))

pub returns-in_default-words-3-clause-none : goal.returns-in_default-words-3-clause-none
returns-in_default-words-3-clause-none c = λ r. elim [
  | inl (t, has, is) ↦ c.in_default.ensures.none t has
  | inr (inl (t, has, is)) ↦ c.in_default-binary_texts.ensures.none t has
  | inr (inr (inl (t, has, other, is))) ↦ c.in_default-texts.ensures.none t has
  | inr (inr (inr (f, words, is))) ↦ no_two_words (λ w. string_bytes w) c.args.words.now _ f c.in_default-words.len_at_least words
]
