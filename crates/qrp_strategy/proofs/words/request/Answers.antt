use Rattle.std.proofs.Common.{true, false, ap, ◌≡◌, ◌∙◌, inl, inr, codes, string_bytes}
use Rattle.qrp_program.specs.Words.{Request, any_pivot}
use Rattle.qrp_strategy.specs.Words.{files_at}
use Rattle.qrp_strategy.specs.declared.task.Task.{Task}
use Rattle.qrp_strategy.proofs.FirstWords.{file_first, flag_first, flags_first}
use Rattle.qrp_strategy.proofs.words.request.Goals as goal

pub returns-in-len2-clause-row : goal.returns-in-len2-clause-row
returns-in-len2-clause-row c =
    let first = c.first-item in
    let two = file_first (λ w. string_bytes w) c.args.words.now first.result c.in-len2.len_at_least c.in-len2.len_below first.is in
    (string_bytes first.result, two.0, inl (two.1, c.is_file.ensures.0 c.if-is_file.true, c.asked.ensures ∙ ap (λ r. files_at r false 0) c.plain.ensures))

pub returns-in-len3-clause-row : goal.returns-in-len3-clause-row
returns-in-len3-clause-row c =
    let three = flag_first (λ w. string_bytes w) c.args.words.now c.flag-item.result (codes "--qu") c.in-len3.len_at_least c.in-len3.len_below
    c.flag-item.is (c.is_word.ensures.0 c.if-is_word.true) in
    (three.0, three.1, inr (inl (three.2, c.asked-in-len3.ensures ∙ ap (λ r. files_at r false 1) c.any_pivot.ensures)))

pub returns-in-len3-2-clause-row : goal.returns-in-len3-2-clause-row
returns-in-len3-2-clause-row c =
    let flag = c.flag-item-then-words-lt4 in
    let three = flag_first (λ w. string_bytes w) c.args.words.now flag.result (codes "--binary") c.in-len3.len_at_least c.in-len3.len_below
    flag.is (c.is_word-then-words-lt4.ensures.0 c.if-is_word-2.true) in
    (three.0, three.1, inr (inr (inl (three.2, c.asked-in-len3-2.ensures ∙ ap (λ r. files_at r true 1) c.plain-in-len3-2.ensures))))

pub returns-in-len4-clause-row : goal.returns-in-len4-clause-row
returns-in-len4-clause-row c =
    let is : ◌≡◌ {A = Request Task} _ (files_at any_pivot true 2) = c.asked-in-len4.ensures ∙ ap (λ r. files_at r true 2) c.any_pivot-in-len4.ensures in
    elim (c.are_both_flags.ensures.0 c.if-are_both_flags.true) [
      | inl (qu, binary) ↦
          let four = flags_first (λ w. string_bytes w) c.args.words.now c.first-item-then-words-lt5.result c.second-item.result (codes "--qu") (codes "--binary")
          c.in-len4.len_at_least c.in-len4.len_below c.first-item-then-words-lt5.is c.second-item.is qu binary in
          (four.0, four.1, inr (inr (inr (inl (four.2, is)))))
      | inr (binary, qu) ↦
          let four = flags_first (λ w. string_bytes w) c.args.words.now c.first-item-then-words-lt5.result c.second-item.result (codes "--binary") (codes "--qu")
          c.in-len4.len_at_least c.in-len4.len_below c.first-item-then-words-lt5.is c.second-item.is binary qu in
          (four.0, four.1, inr (inr (inr (inr (four.2, is)))))
    ]
