use Rattle.std.proofs.Common.{arith, ◌≡◌, true, length, Ok, Result, ap, sym, ◌∙◌}
use Rattle.qcir_tokens.specs.Tokens.{tokens}
use Rattle.qcir.specs.Reading.{Question, is_header, lines_left, on_line, result_at}
use Rattle.qcir.specs.declared.fault.QuestionFault.{QuestionFault}
use Rattle.qcir.proofs.Sound.{reads_well_formed}
use Rattle.qcir.proofs.TextLines.{begun, fewer, next_line}
use Rattle.qcir.proofs.text.read_question.Goals as goal

pub lines-init : goal.lines-init
lines-init c =
    let split = c.split_line-more in
    let header : is_header (tokens split.result.0.now) ≡ true =
    ap is_header (sym c.new.ensures) ∙ (sym c.is_header.ensures ∙ c.if-not-is_header.false) in
    let left = fewer split.result.2 (length split.result.1.now) (length c.args.text.now) split.ensures.shorter split.ensures.last in
    record {
      read = begun c.args.text.now split.result.0.now (lines_left split.result.2 split.result.1.now) c.new-reader.result split.ensures.lines header
          c.new-reader.ensures;
      few = omega (arith, left);
    }

pub lines-smaller : goal.lines-smaller
lines-smaller c =
    let split = c.split_line-again in
    let left = fewer split.result.2 (length split.result.1.now) (length c.lines.rest.now) split.ensures.shorter split.ensures.last in
    rw c.lines-test.true (omega (arith, left))

pub lines-preserved : goal.lines-preserved
lines-preserved c =
    let split = c.split_line-again in
    let lines = rw c.lines-test.true at c.lines.invariant.read in
    let few = rw c.lines-test.true at c.lines.invariant.few in
    let left = fewer split.result.2 (length split.result.1.now) (length c.lines.rest.now) split.ensures.shorter split.ensures.last in
    record {
      read = lines ∙ next_line c.lines.reader c.take_line.new.self c.lines.line c.lines.rest.now split.result.0.now
          (lines_left split.result.2 split.result.1.now) split.ensures.lines c.in-Ok.ensures;
      few = omega (arith, few, left);
    }

pub returns-in-Ok-finish-clause-sound : goal.returns-in-Ok-finish-clause-sound
returns-in-Ok-finish-clause-sound c =
    let lines = rw c.lines-test.false at c.lines.invariant.read in
    let is : result_at c.lines.reader ≡ Ok c.in-Ok-finish.question = sym c.finish.ensures ∙ c.in-Ok-finish.is in
    let whole = lines ∙ ap (λ (r : Result Question QuestionFault). on_line c.lines.line r) is in
    reads_well_formed c.args.text.now c.in-Ok-finish.question whole
