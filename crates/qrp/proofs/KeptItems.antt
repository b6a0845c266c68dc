-- A trace is read as a whole, and each item is put after the others.
use Rattle.qrp.proofs.Cited.{arith, common_steps, ◌≡◌, ◌≤◌, ℕ, suc, ◌+◌, List, [], ◌∷◌, ◌++◌, length, Option, Some, Result, Ok, Err}
use Rattle.qrp.proofs.Cited.{append_assoc, zero, refl, ap, sym, ◌∙◌, append-nil, Qrp, Lined, Token, ahead, left, tokens, tokens_next, ReadError}
use Rattle.qrp.proofs.Cited.{fault_of, Read, Reading, Cut, read-one, reads_from, IfKnown, Stops, Leaves, ReadsWhole, TraceFault, P1, P7, P9}
use Rattle.qrp.proofs.Cited.{reads_bytes, Gives, StopsAfterResult, Derivation, with_item, Stays, leads_further, leads_more}
use Rattle.std.specs.Prelude.{ℤ, pos, int_lt, unsigned_abs, slice_index_or, IfOk}
use Rattle.std.proofs.Common.{None, Bool}
use Rattle.dimacs_syntax.proofs.Cited.{read_from}
use Rattle.dimacs_syntax.proofs.Cited.token
use Rattle.qbf_text.specs.TakenNumbers.{LeadsBy, LeadsOver}
use Rattle.qbf_tokens.specs.NumberTokens.{token_of}
use Rattle.qbf_text.specs.Rows as rows
use Rattle.qbf_text.specs.Stopping as text
use Rattle.qbf_text.proofs.OneToken as going
use Rattle.qbf_text.proofs.Stops.{taken_no_end, unread_fault}
use Rattle.trace_items.specs.declared.item.Item.TheVariants as item
use Rattle.trace_items.specs.declared.parts.Parts.{Parts}
use Rattle.qrp.specs.declared.states.State.TheVariants as at
use Rattle.trace_items.specs.declared.parts.Part.TheVariants as part
use Rattle.trace_items.specs.declared.parts.Lists.{Lists}
use Rattle.trace_items.specs.Flat.{kept_of, trace_of, ClosesPart}
use Rattle.qrp.specs.States.{state_at, Arrives}
use Rattle.trace_items.specs.Parts.{item_of, numbers_after}
use Rattle.trace_items.specs.declared.item.Outcome.{Outcome}
use Rattle.trace_items.specs.StepLists.{ListsOfSteps}
use Rattle.trace_items.specs.declared.parts.Part.{Part}
use Rattle.qrp.specs.declared.states.State as states
use Rattle.qrp.specs.Reading.{Fault, State, Row, Between, After, row, items_from, with_items, nothing, read_trace}
use Rattle.qrp.specs.WholeTrace.{TraceRead, made_of, nothing_read, kept_row, trace_at, trace_row}
use Rattle.qrp.proofs.SpelledIsRead.{after, items-one, end_row}

-- ---- the trace that is read by the rows of whole traces is the one that the items make

-- the trace that reading by rows gives
abbrev pub trace_read : Read TraceRead (Unit {0}) TraceFault → Result Derivation Fault
trace_read (rows.Whole u next rest) = made_of next
trace_read (rows.Fault f line) = Err (f, line)
trace_read Cut = Err (P7, 0)

abbrev More : List Lined → Type 0
More ts = (d : Derivation) (p : State) → with_items d (items_from p ts) ≡ trace_read (read_from trace_row (record { made = d; state = p }) ts)

ended : (next : State) (t : Token) (line : ℕ) (ts : List Lined) → More ts → (d : Derivation)
    → with_items d (after (rows.Ends tt next) line ts) ≡ trace_read (going.after trace_row (kept_row d (rows.Ends tt next)) (t, line) ts)
unfolding with_items
ended (After (item.Header h) ns) t line ts more d = more (with_item d (item.Header h)) (Between ns)
ended (After (item.Set s) ns) t line ts more d = more (with_item d (item.Set s)) (Between ns)
ended (After (item.Step s) ns) t line ts more d = more (with_item d (item.Step s)) (Between ns)
ended (After (item.Result o) ns) t line ts more d = refl
ended next t line ts more d = more d next

by_row : (r : Row) (t : Token) (line : ℕ) (ts : List Lined) → More ts → (d : Derivation)
    → with_items d (after r line ts) ≡ trace_read (going.after trace_row (kept_row d r) (t, line) ts)
unfolding with_items
by_row (rows.Goes next) t line ts more d = more d next
by_row (rows.Ends u next) t line ts more d = ended next t line ts more d
by_row (rows.Fails f) t line ts more d = refl

pub read_whole : (ts : List Lined) → More ts
unfolding with_items items_from read_from
read_whole [] = λ d p. refl
read_whole (t ∷ ts) = λ d p.
    ap (with_items d) (items-one p t ts) ∙ by_row (row p t.0) t.0 t.1 ts (read_whole ts) d
    ∙ ap trace_read (sym (read-one trace_row (record { made = d; state = p }) t ts))

-- ---- the last row

no_end : (d : Derivation) (r : Row) → r ≡ rows.Fails P7 → kept_row d r ≡ rows.Fails P7
no_end d r e = ap (kept_row d) e

trace_end_row : (r : TraceRead) → trace_row r token.End ≡ rows.Fails P7
trace_end_row r = no_end r.made (row r.state token.End) (end_row r.state)

-- ---- the result of a call that reads so

module _ (s r : Reading) (begins : (bytes : List ℕ) → left s (Some bytes) ≡ Some (tokens Qrp bytes)) (none : s.pending ≡ [])
    (opens : (bytes : List ℕ) → tokens_next s bytes ≡ tokens Qrp bytes) (next : TraceRead) where
  pub result_given : (before after : Option (List ℕ)) (d : Derivation) → made_of next ≡ Ok d
      → Leaves (reads_from trace_row nothing_read (left s before)) tt next (left r after) → Gives (Ok d) (reads_bytes before)
  result_given before after d is leaves = grind (arith, common_steps, read_whole)

  pub fault_given : (before after : Option (List ℕ)) (e : ReadError TraceFault) (start : TraceRead) → start ≡ nothing_read
      → ReadsWhole (reads_from trace_row start (left s before)) next (left r after) (Err e)
      → Gives (Err (fault_of P1 P9 e)) (reads_bytes before)
  fault_given before after e start is h = grind (arith, common_steps, read_whole)

  read_is : (bytes : List ℕ) → read_trace bytes ≡ trace_read (read_from trace_row nothing_read (tokens_next s bytes))
  read_is bytes = grind (arith, common_steps, read_whole, tokens, nothing, read_from, trace_row, nothing_read)

  -- the bytes held are those after the result word
  after_result : (d : Derivation) (bytes rest : List ℕ) → made_of next ≡ Ok d
      → text.StopsAfter trace_row nothing_read next tt (tokens_next s) (tokens_next r) bytes (r.pending ++ rest)
      → length r.pending ≤ 4096 → StopsAfterResult d bytes rest
  after_result d bytes rest is t few =
      let front = t.before ++ t.word ++ t.separator in
      record {
        before = t.before;
        word = t.word;
        separator = t.separator;
        held = r.pending;
        consumed = t.taken ∙ sym (append_assoc front r.pending rest);
        unbroken = t.unbroken;
        separates = t.separates;
        few = few;
        missing = (t.line, read_is t.before ∙ ap trace_read (unread_fault trace_row trace_end_row t));
        whole =
            read_is front
            ∙ ap (λ l. trace_read (read_from trace_row nothing_read (tokens_next s l))) (sym (append-nil front))
            ∙ ap trace_read (t.whole [] tt)
            ∙ is;
      }

  pub result_stops : (before after : Option (List ℕ)) (d : Derivation) → made_of next ≡ Ok d
      → Stops trace_row nothing_read next (tokens_next s) (tokens_next r) (ahead s.pending before) (ahead r.pending after)
      (length r.pending ≤ 4096) (Ok tt) → IfKnown (StopsAfterResult d) before after
  result_stops before after d is stops =
      let k = stops.3 (taken_no_end trace_row trace_end_row stops.0 next stops.1 tt stops.2) in
      by before after (rw none at k.0) k.1
    where
      by : (before after : Option (List ℕ))
          → IfKnown (text.StopsAfter trace_row nothing_read next tt (tokens_next s) (tokens_next r)) (ahead [] before) (ahead r.pending after)
          → length r.pending ≤ 4096 → IfKnown (StopsAfterResult d) before after
      by None after k few = tt
      by (Some bytes) None k few = absurd k
      by (Some bytes) (Some rest) k few = after_result d bytes rest is k few

-- ---- buffered numbers

-- numbers that lead on in an item do so in the trace
kept_by : (d : Derivation) (first next : State) (values : List ℤ) (from count : ℕ) → LeadsBy row first next values from count
    → LeadsBy trace_row (record { made = d; state = first }) (record { made = d; state = next }) values from count
kept_by d first next values from zero e = ap (λ (p : State). record { made = d; state = p }) e
kept_by d first next values from (suc count) l =
    (record { made = d; state = l.0 }, kept_by d first l.0 values from count l.1, ap (kept_row d) l.2)

kept_leads : (d : Derivation) (first next : State) (values : List ℤ) (from to : ℕ) → LeadsOver row first next values from to
    → LeadsOver trace_row (record { made = d; state = first }) (record { made = d; state = next }) values from to
kept_leads d first next values from to l = grind (arith, common_steps, kept_by)

pub step_leads : {A : Type 0} (lists : A → ListsOfSteps) (p : Parts A) (b : Lists) (first next : State) (values : List ℤ) (from to : ℕ) → Stays p.lists b
    → LeadsOver row first next values from to
    → LeadsOver trace_row (record { made = trace_of (kept_of lists p); state = first })
    (record { made = trace_of (kept_of lists (record p { lists = b })); state = next }) values from to
step_leads lists p b first next values from to stays l = grind (arith, common_steps, kept_leads, trace_of, kept_of)

-- no number is the result
no_result : (state : State) (negative : Bool) (m : ℕ) (o : Outcome) (ns : List ℕ)
    → row state (token.Number negative m) ≡ rows.Ends tt (After (item.Result o) ns) → ⊥
no_result state negative m o ns ends = grind (arith, common_steps)

-- a part that a number completes is kept
kept_end : (d : Derivation) (b : Lists) (p : Part) (state : State) (v : ℤ) → row state (token_of v) ≡ rows.Ends tt (state_at b (at.After p))
    → trace_row (record { made = d; state = state }) (token_of v)
    ≡ rows.Goes (record { made = with_item d (item_of b p); state = Between (numbers_after b p) })
kept_end d b (part.Header h) state v ends = ap (kept_row d) ends
kept_end d b (part.Set q) state v ends = ap (kept_row d) ends
kept_end d b (part.Step n) state v ends = ap (kept_row d) ends
kept_end d b (part.Result o) state v ends = absurd (no_result state (int_lt v (pos 0)) (unsigned_abs v) o b.index ends)

-- a step that a zero completes is kept
pub step_kept : {A : Type 0} (lists : A → ListsOfSteps) (first : TraceRead) (old new : Parts A) (n : ℕ) (values : List ℤ) (from i : ℕ) → slice_index_or values i (pos 0) ≡ pos 0
    → LeadsOver trace_row first (trace_at lists old (at.InAnts n)) values from i → ClosesPart lists old new (part.Step n)
    → LeadsOver trace_row first (trace_at lists new at.Between) values from (i + 1)
step_kept lists first old new n values from i is leads closes =
    grind (arith, common_steps, trace_at, with_item, trace_of, kept_of, item_of, leads_more, trace_row, token_of)

-- a part that numbers complete is kept
pub part_kept : {A : Type 0} (lists : A → ListsOfSteps) (p new : Parts A) (b : Lists) (first : State) (next : states.State) (q : Part)
    (values : List ℤ) (from to : ℕ) → Stays p.lists b → Arrives first b next values from to (Some q)
    → ClosesPart lists (record p { lists = b }) new q
    → LeadsOver trace_row (record { made = trace_of (kept_of lists p); state = first }) (trace_at lists new at.Between) values from to
part_kept lists p new b first next q values from to stays a closes =
    let e = a.1 in
    let d = trace_of (kept_of lists (record p { lists = b })) in
    let ends = kept_end d b q e.last (slice_index_or values e.at (pos 0)) (rw a.0 at e.ends) in
    rw (closes.made, closes.numbers, e.to_is) (leads_more trace_row _ (record { made = d; state = e.last }) _ values from e.at ends
    (step_leads lists p b first e.last values from e.at stays e.leads))

-- numbers lead on, and others after them, unless an allocation fails
pub trace_in_turn : {E : Type 0} (first mid next : TraceRead) (values : List ℤ) (from i : ℕ) (result : Result ℕ E)
    → LeadsOver trace_row first mid values from i → IfOk result (λ to. LeadsOver trace_row mid next values i to)
    → IfOk result (λ to. LeadsOver trace_row first next values from to)
trace_in_turn first mid next values from i (Ok to) l m = leads_further trace_row first mid next values from i to l m
trace_in_turn first mid next values from i (Err e) l m = tt
