use Rattle.std.proofs.Common.{◌≡◌, ◌∙◌, sym, ap, List, ℕ, ◌∷◌, [], inl, inr, codes, true≢false, string_bytes}
use Rattle.qrp_rules.specs.declared.rules.Rules.{Rules}
use Rattle.qrp_cli.specs.Words.{Texts}
use Rattle.qrp_cli.proofs.WordByWord.{three_words, first_same, flag_second, flag_fourth}
use Rattle.qrp_cli.proofs.words.texts.Goals.{then-is_word-2+else-is_word-3, else-is_word-2}
use Rattle.qrp_cli.proofs.words.texts.Goals as goal

pub returns-in-len3-clause-row : goal.returns-in-len3-clause-row
returns-in-len3-clause-row c =
    let command = c.first-item in
    let three = three_words (λ w. string_bytes w) c.args.words.now command.result c.in-len3.len_at_least c.in-len3.len_below in
    inl (
      three.0,
      three.1,
      three.2 ∙ ap (λ (k : List ℕ). k ∷ three.0 ∷ three.1 ∷ [])
          (ap (λ w. string_bytes w) (sym command.is) ∙ c.is_word.ensures.0 c.if-is_word.true),
      ap (λ (r : Rules). let texts : Texts = record { rules = r; formula = 1; trace = 2 } in texts) c.plain.ensures,
    )

pub returns-in-len4-clause-row : goal.returns-in-len4-clause-row
returns-in-len4-clause-row c =
    let row = flag_second (λ w. string_bytes w) c.args.words.now c.first-item-then-words-lt5.result c.flag-item.result c.args.command.now
    (codes "--qu") c.in-len4.len_at_least c.in-len4.len_below
    c.first-item-then-words-lt5.is (c.is_word-then-words-lt5.ensures.0 c.if-is_word-2.true) c.flag-item.is
    (c.is_word-then-is_word-2.ensures.0 c.if-is_word-3.true) in
    inr (inl (
      row.0,
      row.1,
      row.2,
      ap (λ (r : Rules). let texts : Texts = record { rules = r; formula = 2; trace = 3 } in texts) c.any_pivot.ensures,
    ))

pub returns-in-len4-2-clause-row : goal.returns-in-len4-2-clause-row
returns-in-len4-2-clause-row c =
    let first = c.first-item-then-words-lt5-2 in
    let command = c.is_word-then-words-lt5-2.ensures.0 c.if-is_word-4.true in
    let same = first_same c.args.words.now c.first-item-then-words-lt5.result first.result c.in-len4.len_at_least
    c.first-item-then-words-lt5.is first.is in
    let other : string_bytes c.flag-item.result ≡ codes "--qu" → ⊥ = λ flag. elim c.if-is_word-2.branch [
      | then-is_word-2+else-is_word-3 w ↦ true≢false (sym (w.is_word-then-is_word-2.ensures.1 flag) ∙ w.if-is_word-3.false)
      | else-is_word-2 w ↦ true≢false
          (sym (c.is_word-then-words-lt5.ensures.1 (ap (λ w. string_bytes w) same ∙ command)) ∙ w.if-is_word-2.false)
    ] in
    let row = flag_fourth (λ w. string_bytes w) c.args.words.now first.result c.flag-item.result c.flag-item-then-words-lt5.result
    c.args.command.now (codes "--qu") c.in-len4.len_at_least c.in-len4.len_below
    first.is command c.flag-item.is other c.flag-item-then-words-lt5.is (c.is_word-then-is_word-4.ensures.0 c.if-is_word-5.true) in
    inr (inr (
      row.0,
      row.1,
      row.2,
      row.3,
      ap (λ (r : Rules). let texts : Texts = record { rules = r; formula = 1; trace = 2 } in texts) c.any_pivot-in-len4-2.ensures,
    ))
