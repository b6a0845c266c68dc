use Rattle.qbf_tokens.proofs.Cited.{common_steps, ◌≡◌, true, false, arith, sym, ◌∙◌}
use Rattle.qbf_text.proofs.Cited.{left, reads_from}
use Rattle.qbf_text.proofs.OneToken.{leads_same, leads_then, goes, ends, stops, same_status, ready_still, unfailed}
use Rattle.qbf_text.proofs.Stops.{so_far_none, known_so_far, so_far_goes, stops_after}
use Rattle.qbf_text.proofs.grammar.read_by.Goals as goal

pub tokens-init : goal.tokens-init
tokens-init g c = grind (arith, common_steps, leads_same, stops, so_far_none)

pub tokens-preserved : goal.tokens-preserved
tokens-preserved g c =
    let row = g.G.Grammar.row_of in
    let first = g.G.Grammar.state c.args.grammar.now in
    let remaining = g.S.Source.remaining c.tokens.source in
    let whole = reads_from row first (left c.args.scanner.now (g.S.Source.remaining c.args.source.now)) in
    let h = c.in_ok-handed.ensures in
    let s = c.take_buffered.new.scanner in
    let none = rw c.in-None.is at h.reads remaining in
    let so_far = leads_then whole _ _ c.tokens.invariant.so_far none.1 in
    let read = known_so_far row first _ _ _ _ _ _ _ _ c.tokens.invariant.stops none.0 in
    let ready = same_status c.tokens.scanner s h.status c.tokens.invariant.ready in
    record {
      so_far = goes row _ _ whole _ _ _ so_far c.in_ok-token.ensures.token
          (rw c.in-Ok-More.field-0-is at c.in-Ok-More.ensures.row) (rw c.in-Ok-More.field-0-is at c.in-Ok-More.ensures.more);
      stops = so_far_goes row first _ _ _ _ _ (c.in_ok-token.token, c.in_ok-token.line) _ _ _
          (rw c.in-Ok-More.field-0-is at c.in-Ok-More.ensures.row) read
          (c.in_ok-token.ensures.takes (rw c.in-Ok-More.field-0-is at c.in-Ok-More.ensures.more));
      ready = unfailed s c.next_token.new.self remaining (g.S.Source.remaining c.next_token.new.source) ready c.in_ok-token.ensures.ready
          (λ h. (c.next_token.ensures.ended h).1);
      remains = λ r. c.in_ok-token.ensures.ready (ready_still c.tokens.scanner s remaining h.status (c.tokens.invariant.remains r));
      kept = c.in-Ok-More.ensures.kept ∙ h.kept ∙ c.tokens.invariant.kept;
      counts = c.in_ok-token.ensures.ok ∙ c.tokens.invariant.counts;
      bound = omega (arith, c.in_ok-token.ensures.no_more, h.no_more, c.tokens.invariant.bound);
    }

pub returns-in-Ok-Done-clause-reads : goal.returns-in-Ok-Done-clause-reads
returns-in-Ok-Done-clause-reads g c =
    let none = rw c.in-None.is at c.in_ok-handed.ensures.reads (g.S.Source.remaining c.tokens.source) in
    ends g.G.Grammar.row_of _ _ _ _ _ _ _ (leads_then _ _ _ c.tokens.invariant.so_far none.1) c.in_ok-token.ensures.token
    (rw c.in-Ok-Done.field-0-is at c.in-Ok-Done.ensures.row)

pub returns-in-Err-Text-clause-reads : goal.returns-in-Err-Text-clause-reads
returns-in-Err-Text-clause-reads g c =
    let none = rw c.in-None.is at c.in_ok-handed.ensures.reads (g.S.Source.remaining c.tokens.source) in
    stops g.G.Grammar.row_of _ _ _ _ _ (c.in_ok-token.token, c.in_ok-token.line) (leads_then _ _ _ c.tokens.invariant.so_far none.1)
    c.in_ok-token.ensures.token (rw c.in-Err-Text.field-0-is at c.in-Err-Text.ensures.row)

pub returns-in-Ok-Done-clause-stops : goal.returns-in-Ok-Done-clause-stops
returns-in-Ok-Done-clause-stops g c =
    let row = g.G.Grammar.row_of in
    let first = g.G.Grammar.state c.args.grammar.now in
    let remaining = g.S.Source.remaining c.tokens.source in
    let none = rw c.in-None.is at c.in_ok-handed.ensures.reads remaining in
    let h = c.take_buffered.new in
    let ends_so = rw c.in-Ok-Done.field-0-is at c.in-Ok-Done.ensures.row in
    let read = known_so_far row first _ _ _ _ _ _ _ _ c.tokens.invariant.stops none.0 in (
      g.G.Grammar.state h.grammar,
      c.in_ok-token.token,
      ends_so,
      λ open_. (
        stops_after row first _ _ c.in-Ok-Done.output _ _ _ _ _ _ _ ends_so open_ read (c.in_ok-token.ensures.takes open_),
        c.in_ok-token.ensures.few open_,
      ),
    )

pub returns-in-Some-clause-reads : goal.returns-in-Some-clause-reads
returns-in-Some-clause-reads g c =
    let row = g.G.Grammar.row_of in
    let remaining = g.S.Source.remaining c.tokens.source in
    let last = rw c.in-Some.is at c.in_ok-handed.ensures.reads remaining in
    let whole = reads_from row (g.G.Grammar.state c.args.grammar.now) (left c.args.scanner.now (g.S.Source.remaining c.args.source.now)) in
    let so_far = leads_then whole _ _ c.tokens.invariant.so_far last.leads.1 in
    ends row _ _ _ whole _ _ _ so_far last.gives last.ends

pub returns-in-Some-clause-follows : goal.returns-in-Some-clause-follows
returns-in-Some-clause-follows g c =
    let last = rw c.in-Some.is at c.in_ok-handed.ensures.reads (g.S.Source.remaining c.tokens.source) in (
      last.last,
      last.token.0,
      last.ends,
      λ open_. omega (arith, last.less, c.tokens.invariant.bound),
      λ end. absurd (let never : false ≡ true = sym last.no_end ∙ end in cc never),
    )

pub returns-in-Some-clause-stops : goal.returns-in-Some-clause-stops
returns-in-Some-clause-stops g c =
    let row = g.G.Grammar.row_of in
    let first = g.G.Grammar.state c.args.grammar.now in
    let remaining = g.S.Source.remaining c.tokens.source in
    let last = rw c.in-Some.is at c.in_ok-handed.ensures.reads remaining in
    let read = known_so_far row first _ _ _ _ _ _ _ _ c.tokens.invariant.stops last.leads.0 in (
      last.last,
      last.token.0,
      last.ends,
      λ open_. (
        stops_after row first _ _ c.in-Some.output _ _ _ last.token _ _ _ last.ends open_ read last.takes,
        last.few,
      ),
    )
