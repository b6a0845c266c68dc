-- A comment line that was pulled whole has no token.
use Rattle.qbf_tokens.proofs.Cited.{arith, common_steps, rules, nat_tests, ◌≡◌, ℕ, ◌<◌, ◌≤◌, Bool, true, false, List, [], ◌∷◌, ◌++◌, Option, Some, None}
use Rattle.qbf_tokens.proofs.Cited.{length, refl, sym, ap, ◌∙◌, IsWithinLine, EndsLine, is_separator, is_comment_byte, is_line_end}
use Rattle.qbf_text.proofs.Cited.{IfSome, IfKnown, PlaceSkips, SoFar, ahead, drop, first_of, suc, take, zero, tokens_next}
use Rattle.qbf_text.proofs.Cited.{reads_from, Token, Row}
use Rattle.std.specs.Prelude.{slice_index}
use Rattle.qbf_text.specs.declared.scanner.Place.{Place}
use Rattle.qbf_text.specs.Reading.{IsOpen, Reading, left}
use Rattle.qbf_text.specs.Rows.{read_from}
use Rattle.qbf_text.specs.Stopping.{BeginsAs, ScannerSkips}
use Rattle.qbf_text.specs.Passing.{LeadsBetween, ReadsLast}
use Rattle.qbf_text.proofs.BytesAhead.{part}
use Rattle.qbf_text.proofs.Stops.{known_so_far, skips_comment}
use Rattle.qbf_tokens.proofs.ByteByByte.{no_blank, no_line_end}

-- ---- the end of a line

-- the byte that stands there comes first after those before it
pub first_there : (bytes : List ℕ) (n : ℕ) → n < length bytes → Some (slice_index bytes n) ≡ first_of (drop n bytes)
first_there [] n few = absurd (omega (arith, few))
first_there (b ∷ bs) zero few = refl
first_there (b ∷ bs) (suc n) few = first_there bs n (omega (arith, few))

ends_line : (bytes : List ℕ) (remaining : Option (List ℕ)) → Some 10 ≡ first_of bytes → IfSome (ahead bytes remaining) EndsLine
ends_line [] remaining e = search rules
ends_line (b ∷ bs) remaining e = search rules

-- ---- the comment line of a place

module _ (p : Place) (remaining : Option (List ℕ)) (clear : p.begun ≡ false) where
  skips_from : (b : ℕ) (bs : List ℕ) (n : ℕ) → p.window ≡ b ∷ bs → is_separator b ≡ false → is_comment_byte p.comments b ≡ true
      → IsWithinLine (take n bs) → Some 10 ≡ first_of (drop n bs) → PlaceSkips p remaining (record p { window = drop n bs }) remaining
  skips_from b bs n is other comment within end =
      rw is (skips_comment p.comments p.begun p.line b (ahead (b ∷ bs) remaining) (ahead bs remaining) (ahead (drop n bs) remaining) clear
      (part (b ∷ bs) remaining 1) (no_line_end b other) (no_blank b other) comment (take n bs, within, part bs remaining n)
      (ends_line (drop n bs) remaining end))

  -- up to its end, a comment line that begins there has no token
  pub skips_line : (b : ℕ) (n : ℕ) → Some b ≡ first_of p.window → is_separator b ≡ false → is_comment_byte p.comments b ≡ true
      → IsWithinLine (take n p.window) → n < length p.window → slice_index p.window n ≡ 10
      → PlaceSkips p remaining (record p { window = drop n p.window }) remaining
  skips_line b n first other comment within few end = lines p.window n refl first within few end
    where
      lines : (window : List ℕ) (n : ℕ) → p.window ≡ window → Some b ≡ first_of window → IsWithinLine (take n window) → n < length window
          → slice_index window n ≡ 10 → PlaceSkips p remaining (record p { window = drop n window }) remaining
      lines [] n is first within few end = absurd (omega (arith, few))
      lines (c ∷ bs) zero is first within few end = absurd (grind (arith, common_steps, nat_tests, first, other, end))
      lines (c ∷ bs) (suc n) is first within few end =
          skips_from c bs n is (grind (arith, common_steps, first, other)) (grind (arith, common_steps, first, comment)) within.1
          (rw end at (first_there bs n (omega (arith, few))))

-- ---- what was read so far

begins_same : (bytes : List ℕ) → BeginsAs bytes bytes
begins_same bytes = search rules

-- if no token is taken, tokens lead from a state to itself
skips_lead : {P A F : Type 0} (row : P → Token → Row P A F) (state : P) (r s : Reading) (remaining : Option (List ℕ))
    → ScannerSkips r remaining s remaining
    → IfKnown (SoFar row state state (tokens_next r) (tokens_next s)) (ahead r.pending remaining) (ahead s.pending remaining)
skips_lead row state r s None skips = tt
skips_lead row state r s (Some rest) skips =
    record { front = skips.skipped; given = []; taken = skips.taken; spelled = skips.spelled; leads = λ ts. refl }

-- past a comment line, tokens lead from a state to itself
pub comment_leads : {P A F : Type 0} (row : P → Token → Row P A F) (state : P) (r s : Reading) (remaining : Option (List ℕ))
    → s.status ≡ r.status → IsOpen r → ScannerSkips r remaining s remaining → LeadsBetween row state state r s remaining
unfolding left
comment_leads row state r s None same open_ skips = rw (same, open_) (tt, refl)
comment_leads row state r s (Some rest) same open_ skips =
    let spelled = ap (tokens_next r) skips.taken ∙ skips.spelled (s.pending ++ rest) (begins_same (s.pending ++ rest)) in
    rw (same, open_) (skips_lead row state r s (Some rest) skips, ap (λ ts. Some (read_from row state ts)) spelled)

module _ {P A F : Type 0} (row : P → Token → Row P A F) (first state next : P) (r here s : Reading) (remaining : Option (List ℕ))
    (l : LeadsBetween row first state r here remaining) where
  pub leads_on : LeadsBetween row state next here s remaining → LeadsBetween row first next r s remaining
  leads_on m = (
    known_so_far row first state next (tokens_next r) (tokens_next here) (tokens_next s) (ahead r.pending remaining)
        (ahead here.pending remaining) (ahead s.pending remaining) l.0 m.0,
    l.1 ∙ m.1,
  )

-- a result of the numbers after it, too
pub ends_on : {P A F : Type 0} (row : P → Token → Row P A F) (first state next : P) (result : A) (r here s : Reading) (remaining : Option (List ℕ))
    → LeadsBetween row first state r here remaining → length here.pending ≤ length r.pending
    → ReadsLast row state next result here s remaining → ReadsLast row first next result r s remaining
ends_on row first state next result r here s remaining l fewer t = record {
  last = t.last;
  token = t.token;
  mid = t.mid;
  leads = leads_on row first state t.last r here t.mid remaining l t.leads;
  gives = t.gives;
  takes = t.takes;
  ends = t.ends;
  no_end = t.no_end;
  less = omega (arith, t.less, fewer);
  few = t.few;
}
