use Rattle.qbf_tokens.proofs.Cited.{◌≡◌, ◌<◌, ◌^◌, refl, sym, ap, arith}
use Rattle.qbf_text.proofs.Cited.{subst, ahead, tokens_next}
use Rattle.qbf_text.specs.Passing.{PassesAll}
use Rattle.qbf_text.specs.Reading.{IsOpen}
use Rattle.qbf_text.proofs.HandedNumbers.{handed}
use Rattle.window_numbers.proofs.HeldNumbers.{rises, cursor_within, len_within}
use Rattle.qbf_text.proofs.HandedNumbers.{takes_passes}
use Rattle.qbf_text.proofs.Stops.{so_far_none}
use Rattle.qbf_text.proofs.grammar.take_front.Goals as goal

pub returns-then-not-is_open-clause-reads : goal.returns-then-not-is_open-clause-reads
returns-then-not-is_open-clause-reads g c = λ remaining. (
  so_far_none g.G.Grammar.row_of (g.G.Grammar.state c.args.grammar.now) (tokens_next c.args.scanner.now)
      (ahead c.args.scanner.now.pending remaining),
  refl,
)

pub returns-then-is_empty-clause-reads : goal.returns-then-is_empty-clause-reads
returns-then-is_empty-clause-reads g c = λ remaining. rw c.prepare.ensures (
  so_far_none g.G.Grammar.row_of (g.G.Grammar.state c.args.grammar.now) (tokens_next c.args.scanner.now)
      (ahead c.args.scanner.now.pending remaining),
  refl,
)

pub cursor_after-here-requires-clause-few : goal.cursor_after-here-requires-clause-few
cursor_after-here-requires-clause-few g c = λ some. omega (arith, c.in_ok-count.ensures.within some, c.numbers-numbers.ensures.held.few)

pub cursor_after-here-requires-clause-further : goal.cursor_after-here-requires-clause-further
cursor_after-here-requires-clause-further g c = λ some.
    let up = rises c.numbers-numbers.result.now c.numbers-numbers.ensures.whole
    c.numbers-numbers.ensures.start c.numbers-numbers.ensures.held c.in_ok-count.count (c.in_ok-count.ensures.within some) in
    omega (arith, up, some)

pub cursor_after-here-requires-clause-within : goal.cursor_after-here-requires-clause-within
cursor_after-here-requires-clause-within g c = λ some.
    rw c.bytes.ensures (len_within c.numbers-numbers.result.now c.prepare.new.self.pending c.numbers-numbers.ensures c.in_ok-count.count
    some (c.in_ok-count.ensures.within some))

pub go_to-requires : goal.go_to-requires
go_to-requires g c =
    let from = c.cursor.result in
    let small : from.line < 2 ^ 64 = search in
    let front : from.at ≡ 0 = ap (λ k. k.at) c.cursor.ensures in
    rw (c.cursor_after-here.ensures, c.bytes.ensures) (
    cursor_within c.numbers-numbers.result.now c.prepare.new.self.pending c.numbers-numbers.ensures from front small
    c.in_ok-count.count c.in_ok-count.ensures.within)

pub returns-clause-reads : goal.returns-clause-reads
returns-clause-reads g c =
    let row = g.G.Grammar.row_of in
    let r = c.prepare.new.self in
    let from = c.cursor.result in
    let small : from.line < 2 ^ 64 = search in
    let front : from.at ≡ 0 = ap (λ k. k.at) c.cursor.ensures in
    let passes = takes_passes c.numbers-numbers.result.now r.pending c.numbers-numbers.ensures from front small row
    (g.G.Grammar.state c.args.grammar.now) (g.G.Grammar.state c.take_known.new.grammar) c.in_ok-count.count c.in_ok-count.answer
    c.in_ok-count.ensures.within c.in_ok-count.ensures.takes in
    let first = g.G.Grammar.state c.args.grammar.now in
    let next = g.G.Grammar.state c.take_known.new.grammar in
    let there = subst (λ to. PassesAll row first next r.pending from to c.in_ok-count.answer) (sym (rw c.bytes.ensures at c.cursor_after-here.ensures)) passes in
    let whole = subst (λ f. PassesAll row first next r.pending f c.cursor_after-here.result c.in_ok-count.answer) c.cursor.ensures there in
    let few = rw c.go_to.ensures.to at c.go_to.ensures.few in
    let open_ = subst IsOpen (sym c.prepare.ensures) (c.is_open.ensures.0 c.if-not-is_open.false) in
    rw (c.go_to.ensures.to, sym c.prepare.ensures) (handed row first next c.in_ok-count.answer r c.cursor_after-here.result open_ few whole)
