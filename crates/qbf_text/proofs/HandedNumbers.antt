-- Numbers that a grammar took are passed among the buffered bytes.
use Rattle.qbf_tokens.proofs.Cited.{◌≡◌, ℕ, ◌+◌, ◌^◌, ◌<◌, ◌≤◌, List, [], ◌∷◌, ◌++◌, length, refl, sym, ap, ◌∙◌}
use Rattle.qbf_tokens.proofs.Cited.{append_assoc, arith, Option, Some, None, tokens_left, Lined, line_number}
use Rattle.qbf_text.proofs.Cited.{drop, subst, zero, suc, Comments, Token, ahead}
use Rattle.qbf_text.proofs.Cited.{known_left, SoFar, Reading, GivesNext, Row, Goes, read_from, reads_from, IfKnown, TakesToken, tokens_next}
use Rattle.std.proofs.Common.{length-drop}
use Rattle.window_numbers.specs.declared.cursor.Cursor.{Cursor}
use Rattle.window_numbers.specs.Cursors.{tokens_from_cursor, is_begun, Passes, PassesToken}
use Rattle.window_numbers.specs.Numbers.{StandInFront, cursor_to}
use Rattle.window_numbers.specs.Values.{held}
use Rattle.window_numbers.specs.declared.numbers.Numbers.{Numbers}
use Rattle.window_numbers.proofs.HeldNumbers.{next_number}
use Rattle.window_numbers.proofs.PassedNumbers.{ComesNext, passes_none, passes_nothing, passes_one, begun_counted}
use Rattle.qbf_tokens.specs.NumberTokens.{token_at}
use Rattle.qbf_text.specs.Passing.{cursor, scanner_at, LeadOn, PassesAll, ReadsBuffered}
use Rattle.qbf_text.specs.TakenNumbers.{LeadsBy, TakesOver}
use Rattle.qbf_text.specs.Reading.{IsOpen, left}
use Rattle.qbf_tokens.proofs.ByteByByte.{left_nothing}
use Rattle.qbf_text.proofs.OneToken.{after, read-one}

-- ---- tokens that lead on

module _ {P A F : Type 0} (row : P → Token → Row P A F) (first mid last : P) where
  pub lead_on_more : (ts : List Lined) (t : Lined) → LeadOn row first mid ts → row mid t.0 ≡ Goes last
      → LeadOn row first last (ts ++ t ∷ [])
  lead_on_more ts t on e us =
      ap (read_from row first) (append_assoc ts (t ∷ []) us)
      ∙ on (t ∷ us)
      ∙ read-one row mid t us
      ∙ ap (λ (r : Row P A F). after row r t us) e

  module _ (bytes : List ℕ) (here there : Cursor) where
    -- one number more leads on
    pub passes_on : (between : Cursor) (token : Token) → row mid token ≡ Goes last → Passes (LeadOn row first mid) bytes here between
        → PassesToken bytes between there token → Passes (LeadOn row first last) bytes here there
    passes_on between token e =
        passes_one bytes (LeadOn row first mid) (LeadOn row first last) here between there token
        (λ ts on. lead_on_more ts (token, between.line) on e)

-- ---- numbers that a grammar took

module _ (n : Numbers) (bytes : List ℕ) (f : StandInFront n bytes) (from : Cursor) (at_front : from.at ≡ 0) (small : from.line < 2 ^ 64)
    {P A F : Type 0} (row : P → Token → Row P A F) (first : P) where
  between : (c : ℕ) → n.first + c < n.known
      → ComesNext bytes (cursor_to n bytes from c) (cursor_to n bytes from (suc c)) (token_at (held n) (n.first + c))
  between c few = next_number n bytes f from at_front small c few

  gapped : (next : P) (c : ℕ) (few : n.first + c < n.known) → Passes (LeadOn row first next) bytes from (cursor_to n bytes from c)
      → Passes (LeadOn row first next) bytes from (between c few).mid
  gapped next c few s = passes_nothing bytes (LeadOn row first next) from (cursor_to n bytes from c) (between c few).mid s (between c few).gap

  passes_by : (next : P) (count : ℕ) → (0 < count → n.first + count ≤ n.known) → LeadsBy row first next (held n) n.first count
      → Passes (LeadOn row first next) bytes from (cursor_to n bytes from count)
  passes_by next zero few e =
      subst (λ s. Passes (LeadOn row first s) bytes from from) e
      (passes_none bytes (LeadOn row first first) from (omega (arith, at_front)) (λ ts. refl))
  passes_by next (suc c) few l =
      let less : n.first + c < n.known = omega (arith, few (omega arith)) in
      passes_on row first l.0 next bytes from (cursor_to n bytes from (suc c)) (between c less).mid (token_at (held n) (n.first + c)) l.2
      (gapped l.0 c less (passes_by l.0 c (λ some. omega (arith, less)) l.1)) (between c less).number

  -- if a grammar took some of the numbers, it passed their bytes
  pub takes_passes : (next : P) (count : ℕ) (answer : Option A) → (0 < count → n.first + count ≤ n.known)
      → TakesOver row first next (held n) n.first (n.first + count) answer
      → PassesAll row first next bytes from (cursor_to n bytes from count) answer
  takes_passes next count None few l =
      let same : l.count ≡ count = omega (arith, l.counted) in
      subst (λ k. Passes (LeadOn row first next) bytes from (cursor_to n bytes from k)) same
      (passes_by next l.count (λ some. omega (arith, few (omega (arith, same, some)), same)) l.leads)
  takes_passes next count (Some a) few t =
      let same : suc t.leads.count ≡ count = omega (arith, t.to_is, t.leads.counted) in
      let less : n.first + t.leads.count < n.known = omega (arith, few (omega (arith, same)), same) in
      subst (λ k. PassesAll row first next bytes from (cursor_to n bytes from k) (Some a)) same (record {
        last = t.last;
        token = token_at (held n) (n.first + t.leads.count);
        here = (between t.leads.count less).mid;
        leads = gapped t.last t.leads.count less (passes_by t.last t.leads.count (λ some. omega (arith, less)) t.leads.leads);
        passes = (between t.leads.count less).number;
        ends = ap (λ k. row t.last (token_at (held n) k)) (sym t.leads.counted) ∙ t.ends;
      })

-- ---- a scanner that goes to where a grammar came

-- the tokens at the first of the buffered bytes
first_tokens : (r : Reading) (bytes : List ℕ)
    → tokens_next r bytes ≡ tokens_from_cursor r.comments (cursor r) bytes
first_tokens r bytes = ap (λ b. tokens_left r.comments b r.line bytes) (sym (begun_counted r.begun))

module _ {P A F : Type 0} (row : P → Token → Row P A F) (first state : P) (r : Reading)
    (here : Cursor) (p : Passes (LeadOn row first state) r.pending (cursor r) here) where
  pub handed_so_far : (remaining : Option (List ℕ))
      → IfKnown (SoFar row first state (tokens_next r) (tokens_next (scanner_at r here))) (ahead r.pending remaining)
      (ahead (drop here.at r.pending) remaining)
  handed_so_far None = tt
  handed_so_far (Some rest) = record {
    front = p.front;
    given = p.given;
    taken = ap (λ l. l ++ rest) p.taken ∙ append_assoc p.front (drop here.at r.pending) rest;
    spelled = λ more _. first_tokens r (p.front ++ more) ∙ p.spelled r.comments more;
    leads = p.are;
  }

  known : (remaining : Option (List ℕ))
      → reads_from row first (known_left r.comments r.begun r.line (ahead r.pending remaining))
      ≡ reads_from row state (known_left r.comments (is_begun here) here.line (ahead (drop here.at r.pending) remaining))
  known None = refl
  known (Some rest) = ap (λ x. Some x) (
      ap (λ l. read_from row first (tokens_left r.comments r.begun r.line l))
      (ap (λ l. l ++ rest) p.taken ∙ append_assoc p.front (drop here.at r.pending) rest)
      ∙ ap (read_from row first) (
      first_tokens r (p.front ++ (drop here.at r.pending ++ rest))
      ∙ p.spelled r.comments (drop here.at r.pending ++ rest))
      ∙ p.are (tokens_left r.comments (is_begun here) here.line (drop here.at r.pending ++ rest)))

  pub handed_leads : IsOpen r → (remaining : Option (List ℕ))
      → reads_from row first (left r remaining) ≡ reads_from row state (left (scanner_at r here) remaining)
  unfolding left
  handed_leads open_ remaining = rw open_ (known remaining)

-- ---- a number in the buffered bytes

pub taken_number : (format : Comments) (bytes : List ℕ) (here to : Cursor) (token : Token) → PassesToken bytes here to token
    → (remaining : Option (List ℕ))
    → IfKnown (TakesToken (tokens_from_cursor format here) (tokens_from_cursor format to) (token, here.line))
    (ahead (drop here.at bytes) remaining) (ahead (drop to.at bytes) remaining)
taken_number format bytes here to token p None = tt
taken_number format bytes here to token p (Some rest) = record {
  skipped = [];
  word = p.word;
  separator = p.separator ∷ [];
  line = line_number here.line;
  taken = ap (λ l. l ++ rest) p.taken ∙ append_assoc (p.word ++ p.separator ∷ []) (drop to.at bytes) rest;
  nothing = left_nothing format (is_begun here) here.line;
  unbroken = p.unbroken;
  separates = p.separates;
  spelled = λ more _. p.spelled format more;
}

given_buffered : (r : Reading) (here to : Cursor) (token : Token) → PassesToken r.pending here to token → IsOpen r
    → (remaining : Option (List ℕ)) → GivesNext (left (scanner_at r here) remaining) (left (scanner_at r to) remaining) (token, here.line)
unfolding left
given_buffered r here to token p open_ None = rw open_ tt
given_buffered r here to token p open_ (Some rest) = rw (open_, p.no_end) (
    ap (λ l. tokens_left r.comments (is_begun here) here.line l)
    (ap (λ l. l ++ rest) p.taken ∙ append_assoc (p.word ++ p.separator ∷ []) (drop to.at r.pending) rest)
    ∙ p.spelled r.comments (drop to.at r.pending ++ rest))

-- the numbers that a grammar took are read
pub handed : {P A F : Type 0} (row : P → Token → Row P A F) (first next : P) (answer : Option A) (r : Reading) (to : Cursor)
    → IsOpen r → length (drop to.at r.pending) ≤ 4096 → PassesAll row first next r.pending (cursor r) to answer → (remaining : Option (List ℕ))
    → ReadsBuffered row first next r (scanner_at r to) remaining answer
handed row first next None r to open_ few p remaining =
    (handed_so_far row first next r to p remaining, handed_leads row first next r to p open_ remaining)
handed row first next (Some a) r to open_ few p remaining = record {
  last = p.last;
  token = (p.token, p.here.line);
  mid = scanner_at r p.here;
  leads = (handed_so_far row first p.last r p.here p.leads remaining, handed_leads row first p.last r p.here p.leads open_ remaining);
  gives = given_buffered r p.here to p.token p.passes open_ remaining;
  takes = taken_number r.comments r.pending p.here to p.token p.passes remaining;
  ends = p.ends;
  no_end = p.passes.no_end;
  less = omega (arith, length-drop to.at r.pending, p.passes.further, p.passes.within);
  few = few;
}
