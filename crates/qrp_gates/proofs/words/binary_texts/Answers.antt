use Rattle.std.proofs.Common.{ap, inl, inr, codes, string_bytes}
use Rattle.qrp_rules.specs.declared.rules.Rules.{Rules}
use Rattle.qrp_cli.specs.Words.{Texts}
use Rattle.qrp_cli.proofs.WordByWord.{flag_second}
use Rattle.qrp_gates.proofs.StrategyWords.{three_first}
use Rattle.qrp_gates.proofs.words.binary_texts.Goals as goal

pub returns-in-len4-clause-row : goal.returns-in-len4-clause-row
returns-in-len4-clause-row c =
    let row = flag_second (λ w. string_bytes w) c.args.words.now c.command-item.result c.flag-item.result (codes "strategy") (codes "--binary")
    c.in-len4.len_at_least c.in-len4.len_below c.command-item.is (c.is_word.ensures.0 c.if-is_word.true) c.flag-item.is
    (c.is_word-then-is_word.ensures.0 c.if-is_word-2.true) in (
      row.0,
      row.1,
      inl (row.2, ap (λ (r : Rules). let texts : Texts = record { rules = r; formula = 2; trace = 3 } in texts) c.plain.ensures),
    )

pub returns-in-len5-clause-row : goal.returns-in-len5-clause-row
returns-in-len5-clause-row c =
    let command = c.is_word-then-words-lt6.ensures.0 c.if-is_word-3.true in
    let is = ap (λ (r : Rules). let texts : Texts = record { rules = r; formula = 3; trace = 4 } in texts) c.any_pivot.ensures in
    elim (c.are_both_flags.ensures.0 c.if-are_both_flags.true) [
      | inl (qu, binary) ↦
          let row = three_first (λ w. string_bytes w) c.args.words.now c.command-item-then-words-lt6.result c.first-item.result c.second-item.result
          (codes "strategy") (codes "--qu") (codes "--binary") c.in-len5.len_at_least c.in-len5.len_below
          c.command-item-then-words-lt6.is c.first-item.is c.second-item.is command qu binary in
          (row.0, row.1, inr (inl (row.2, is)))
      | inr (binary, qu) ↦
          let row = three_first (λ w. string_bytes w) c.args.words.now c.command-item-then-words-lt6.result c.first-item.result c.second-item.result
          (codes "strategy") (codes "--binary") (codes "--qu") c.in-len5.len_at_least c.in-len5.len_below
          c.command-item-then-words-lt6.is c.first-item.is c.second-item.is command binary qu in
          (row.0, row.1, inr (inr (row.2, is)))
    ]
