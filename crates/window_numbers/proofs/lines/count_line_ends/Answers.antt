use Rattle.qbf_tokens.proofs.Cited.{ap, sym, ◌+◌, ◌∙◌, ◌≡◌, arith, count_by, is_line_end}
use Rattle.window_numbers.proofs.Cited.{take}
use Rattle.window_numbers.proofs.LineEnds.{more, few_among, all_counted}
use Rattle.window_numbers.proofs.PassedNumbers.{all_after}
use Rattle.window_numbers.proofs.lines.count_line_ends.Goals as goal

pub loop-i-preserved : goal.loop-i-preserved
loop-i-preserved c =
    let bytes = c.args.bytes.now in
    let i = c.loop-i.i in
    let here = rw (all_after i bytes) at c.count_in_block-count.ensures.counted in
    let next : c.loop-i.count + c.count_in_block-count.result ≡ count_by is_line_end (take (i + 16) bytes) =
    ap (λ n. n + c.count_in_block-count.result) c.loop-i.invariant.counted
    ∙ ap (λ n. count_by is_line_end (take i bytes) + n) here ∙ sym (more bytes i 16) in
    record {
      within = omega (arith, c.loop-i-test.true, c.loop-i.invariant.within);
      counted = next;
      few = omega (arith, next, few_among bytes (i + 16));
    }

pub returns : goal.returns
returns c =
    let bytes = c.args.bytes.now in
    let i = c.loop-i.i in
    ap (λ n. n + c.count_few-rest.result) c.loop-i.invariant.counted
    ∙ ap (λ n. count_by is_line_end (take i bytes) + n) (rw (all_after i bytes) at c.count_few-rest.ensures)
    ∙ all_counted bytes i c.args.len c.loop-i.invariant.within
