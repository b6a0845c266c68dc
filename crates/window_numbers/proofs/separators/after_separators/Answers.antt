use Rattle.qbf_tokens.proofs.Cited.{sym, ◌∙◌, arith}
use Rattle.window_numbers.proofs.Gaps.{gap_one}
use Rattle.window_numbers.proofs.separators.after_separators.Goals as goal

pub loop-at-preserved : goal.loop-at-preserved
loop-at-preserved c = record {
  gap = gap_one c.args.bytes.now c.args.from c.loop-at.at (omega (arith, c.loop-at-test.true)) (sym c.is_separator.ensures ∙ c.if-is_separator.true)
      c.loop-at.invariant.gap;
  within = omega (arith, c.loop-at-test.true);
}
