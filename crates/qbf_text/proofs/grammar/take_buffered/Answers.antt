use Rattle.qbf_tokens.proofs.Cited.{refl, sym, ◌∙◌, arith}
use Rattle.qbf_text.proofs.Cited.{ahead, subst, tokens_next}
use Rattle.qbf_text.specs.Passing.{LeadsBetween}
use Rattle.qbf_text.proofs.CommentLines.{comment_leads, ends_on, leads_on}
use Rattle.qbf_text.proofs.Stops.{so_far_none}
use Rattle.qbf_text.proofs.grammar.take_buffered.Goals as goal

pub lines-init : goal.lines-init
lines-init g c = record {
  leads = λ remaining. (
    so_far_none g.G.Grammar.row_of (g.G.Grammar.state c.args.grammar.now) (tokens_next c.args.scanner.now)
        (ahead c.args.scanner.now.pending remaining),
    refl,
  );
  status = refl;
  no_more = omega arith;
  kept = refl;
}

pub returns-in-Some-clause-reads : goal.returns-in-Some-clause-reads
returns-in-Some-clause-reads g c = λ remaining.
    let last = rw c.in-Some.is at c.in_ok-output.ensures.reads remaining in
    ends_on g.G.Grammar.row_of _ _ _ c.in-Some.output _ c.lines.scanner _ remaining (c.lines.invariant.leads remaining)
    c.lines.invariant.no_more last

pub returns-then-not-pass_comment-clause-reads : goal.returns-then-not-pass_comment-clause-reads
returns-then-not-pass_comment-clause-reads g c = λ remaining.
    let more = rw c.in-None.is at c.in_ok-output.ensures.reads remaining in
    rw (c.pass_comment.ensures.same c.if-not-pass_comment.true)
    (leads_on g.G.Grammar.row_of _ _ _ _ c.lines.scanner _ remaining (c.lines.invariant.leads remaining) more)

pub lines-preserved : goal.lines-preserved
lines-preserved g c =
    let row = g.G.Grammar.row_of in
    let state = g.G.Grammar.state c.take_front.new.grammar in
    let front = c.take_front.new.scanner in
    let next = c.pass_comment.new.self in
    record {
      leads = λ remaining.
          let more = rw c.in-None.is at c.in_ok-output.ensures.reads remaining in
          let taken = leads_on row _ _ _ _ c.lines.scanner front remaining (c.lines.invariant.leads remaining) more in
          let passed = comment_leads row state front next remaining c.pass_comment.ensures.status (c.pass_comment.ensures.open c.if-not-pass_comment.false) (c.pass_comment.ensures.skips remaining) in
          leads_on row _ _ _ _ front next remaining taken passed;
      status = c.pass_comment.ensures.status ∙ c.in_ok-output.ensures.status ∙ c.lines.invariant.status;
      no_more = omega (arith, c.pass_comment.ensures.less c.if-not-pass_comment.false, c.in_ok-output.ensures.no_more, c.lines.invariant.no_more);
      kept = c.in_ok-output.ensures.kept ∙ c.lines.invariant.kept;
    }
