use Rattle.std.proofs.lemmas.Grind.{common_steps}
use Rattle.std.proofs.Common.{true≢false, inl, inr, false, sym, ap, subst, ◌∙◌, ◌≡◌, ◌+◌, ◌-◌, ◌*◌, ◌^◌, ◌≤◌, length, take, drop, get_or, arith}
use Rattle.std.specs.Char.{is_ascii_digit}
use Rattle.std.proofs.lemmas.List.{get_or-drop, length-drop, take_all}
use Rattle.decimal.proofs.number.by_digit.Goals as goal
use Rattle.decimal.proofs.number.by_digit.Goals.{then-loop-i-test+then-i-rest+else-is_ascii_digit, then-loop-i-test+else-i-rest}
use Rattle.decimal.proofs.number.by_digit.Goals.{else-loop-i-test, then-loop-i-test+then-i-rest+then-is_ascii_digit+then-not-fits}

pub returns : goal.returns
returns c = record {
  within = grind (arith, common_steps);
  digits = grind (arith, common_steps);
  value = grind (arith, common_steps);
  longest = λ within digit.
      let r = take (length c.args.bytes.now - c.args.from) (drop c.args.from c.args.bytes.now) in
      let all : length (drop c.args.from c.args.bytes.now) ≤ length c.args.bytes.now - c.args.from =
      omega (arith, length-drop c.args.from c.args.bytes.now) in
      let same : get_or r c.loop-i.i 0 ≡ get_or c.args.bytes.now (c.args.from + c.loop-i.i) 0 =
      ap (λ l. get_or l c.loop-i.i 0) (take_all (length c.args.bytes.now - c.args.from) (drop c.args.from c.args.bytes.now) all)
      ∙ get_or-drop c.args.from c.args.bytes.now c.loop-i.i 0 in
      elim c.loop-i-test.branch [
        | then-loop-i-test+then-i-rest+else-is_ascii_digit w ↦
            let stop : is_ascii_digit (get_or r c.loop-i.i 0) ≡ false = sym w.is_ascii_digit.ensures.value ∙ w.if-is_ascii_digit.false in
            absurd (true≢false (sym digit ∙ subst (λ b. is_ascii_digit b ≡ false) same stop))
        | then-loop-i-test+else-i-rest w ↦ absurd (omega (arith, w.if-i-rest.false))
        | else-loop-i-test w ↦ inl (omega (arith, w.loop-i-test.false, c.loop-i.invariant.most))
        | then-loop-i-test+then-i-rest+then-is_ascii_digit+then-not-fits w ↦
            inr (subst (λ b. 2 ^ 64 ≤ c.loop-i.value * 10 + (b - 48)) same
            (omega (arith, w.from-digit.ensures, w.fits.ensures.no w.if-not-fits.true)))
      ];
}
