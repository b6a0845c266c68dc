-- Separators before a number.
use Rattle.qbf_tokens.proofs.Cited.{◌≡◌, ℕ, ◌+◌, ◌-◌, ◌^◌, ◌<◌, ◌≤◌, Bool, true, false, cond, List, [], ◌∷◌, ◌++◌, length, refl, sym, ap}
use Rattle.qbf_tokens.proofs.Cited.{◌∙◌, arith, count_by, is_line_end, is_blank, is_separator, line_number, tokens_left}
use Rattle.window_numbers.proofs.Cited.{zero, suc, take, drop, subst, drop-drop, eqb-true, get_or, Comments}
use Rattle.std.specs.Prelude.{ℤ}
use Rattle.std.proofs.Common.{length-drop, length-append}
use Rattle.std.proofs.lemmas.List.{take-append-drop, length-take-le}
use Rattle.std.proofs.Math.Seq.{take-add, drop-append_seam}
use Rattle.std.proofs.lemmas.List.Sums.{sum_by-cons}
use Rattle.window_numbers.specs.declared.cursor.Cursor.{Cursor}
use Rattle.window_numbers.specs.Numbers.{IsGap, IsGapTo, ComesNumber, BeginsWithValue}
use Rattle.window_numbers.specs.Cursors.{tokens_from_cursor, is_begun, Passes}
use Rattle.qbf_tokens.proofs.CanonicalTokens.{all_appended}
use Rattle.qbf_tokens.proofs.ByteByByte.{left_line_end, left_blank, or_cases, tokens_left-counted}

-- ---- places

pub no_gap : (bytes : List ℕ) (at : ℕ) → IsGapTo bytes at at
no_gap bytes at = (omega arith, (let none : at - at ≡ 0 = omega arith in subst (λ k. IsGap (take k (drop at bytes))) (sym none) tt))

pub gap_on : (bytes : List ℕ) (from mid to : ℕ) → IsGapTo bytes from mid → IsGapTo bytes mid to → IsGapTo bytes from to
gap_on bytes from mid to g h = (omega (arith, g.0, h.0), subst IsGap (sym same) (all_appended _ _ _ g.1 h.1))
  where
    same : take (to - from) (drop from bytes) ≡ take (mid - from) (drop from bytes) ++ take (to - mid) (drop mid bytes)
    same =
        let sum : to - from ≡ mid - from + (to - mid) = omega (arith, g.0, h.0) in
        let place : from + (mid - from) ≡ mid = omega (arith, g.0) in
        ap (λ k. take k (drop from bytes)) sum
        ∙ take-add (mid - from) (to - mid) (drop from bytes)
        ∙ ap (λ l. take (mid - from) (drop from bytes) ++ take (to - mid) l) (drop-drop (mid - from) from bytes ∙ ap (λ k. drop k bytes) place)

first_of_rest : (xs : List ℕ) (i : ℕ) → i < length xs → take 1 (drop i xs) ≡ get_or xs i 0 ∷ []
first_of_rest [] i h = absurd (omega (arith, h))
first_of_rest (x ∷ xs) zero h = refl
first_of_rest (x ∷ xs) (suc i) h = first_of_rest xs i (omega (arith, h))

pub gap_one : (bytes : List ℕ) (from at : ℕ) → at < length bytes → is_separator (get_or bytes at 0) ≡ true → IsGapTo bytes from at
    → IsGapTo bytes from (at + 1)
gap_one bytes from at within sep g = gap_on bytes from at (at + 1) g (omega arith, subst IsGap (sym same) (sep, tt))
  where
    same : take (at + 1 - at) (drop at bytes) ≡ get_or bytes at 0 ∷ []
    same = let one : at + 1 - at ≡ 1 = omega arith in ap (λ k. take k (drop at bytes)) one ∙ first_of_rest bytes at within

-- a number after separators
pub comes : (bytes : List ℕ) (place from next : ℕ) (v : ℤ) → IsGapTo bytes place from → from ≤ length bytes
    → BeginsWithValue (drop from bytes) (next - from) v → ComesNumber (drop place bytes) (next - place) v
comes bytes place from next v g within b =
    let gap = take (from - place) (drop place bytes) in
    let there : place + (from - place) ≡ from = omega (arith, g.0) in
    let long : length gap ≡ from - place = length-take-le (from - place) (drop place bytes) (omega (arith, within, g.0, length-drop place bytes)) in
    let len : next - from ≡ next - place - length gap = omega (arith, long, g.0) in
    record {
      gap = gap;
      rest = drop from bytes;
      is_gap = g.1;
      bytes_are = sym (take-append-drop (from - place) (drop place bytes))
          ∙ ap (λ l. gap ++ l) (drop-drop (from - place) place bytes ∙ ap (λ k. drop k bytes) there);
      number = subst (λ k. BeginsWithValue (drop from bytes) k v) len b;
    }

-- ---- cursors

abbrev pub after_one : Cursor → Bool → Cursor
after_one here true = record { at = here.at + 1; line = line_number (here.line + 1); tokens = 0 }
after_one here false = record { at = here.at + 1; line = here.line; tokens = here.tokens }

-- the cursor after separators
abbrev pub after_gap : Cursor → List ℕ → Cursor
after_gap here [] = here
after_gap here (b ∷ bs) = after_gap (after_one here (is_line_end b)) bs

one_spelled : (f : Comments) (here : Cursor) (b : ℕ) (rest : List ℕ) (e : Bool) → is_line_end b ≡ e → is_separator b ≡ true
    → tokens_from_cursor f here (b ∷ rest) ≡ tokens_from_cursor f (after_one here e) rest
one_spelled f here b rest true e sep =
    let line_end : b ≡ 10 = eqb-true b 10 e in
    ap (λ x. tokens_left f (is_begun here) here.line (x ∷ rest)) line_end
    ∙ left_line_end f (is_begun here) here.line rest
    ∙ tokens_left-counted f false (here.line + 1) (line_number (here.line + 1)) rest (omega arith)
one_spelled f here b rest false e sep = left_blank f (is_begun here) here.line b rest (or_cases (is_blank b) (is_line_end b) e sep)

pub gap_spelled : (f : Comments) (gap : List ℕ) (here : Cursor) (rest : List ℕ) → IsGap gap
    → tokens_from_cursor f here (gap ++ rest) ≡ tokens_from_cursor f (after_gap here gap) rest
gap_spelled f [] here rest h = refl
gap_spelled f (b ∷ bs) here rest h =
    one_spelled f here b (bs ++ rest) (is_line_end b) refl h.0 ∙ gap_spelled f bs (after_one here (is_line_end b)) rest h.1

one_at : (here : Cursor) (e : Bool) → (after_one here e).at ≡ here.at + 1
one_at here true = refl
one_at here false = refl

pub gap_at : (gap : List ℕ) (here : Cursor) → (after_gap here gap).at ≡ here.at + length gap
gap_at [] here = omega arith
gap_at (b ∷ bs) here =
    let on = gap_at bs (after_one here (is_line_end b)) in omega (arith, on, one_at here (is_line_end b))

one_line : (here : Cursor) (e : Bool) → here.line < 2 ^ 64 → (after_one here e).line ≡ line_number (here.line + cond e 1 0)
one_line here true small = refl
one_line here false small = omega (arith, small)

pub line_on : (first a b : ℕ) → line_number (line_number (first + a) + b) ≡ line_number (first + (a + b))
line_on first a b = omega arith

pub gap_line : (gap : List ℕ) (here : Cursor) → here.line < 2 ^ 64
    → (after_gap here gap).line ≡ line_number (here.line + count_by is_line_end gap)
gap_line [] here small = omega (arith, small)
gap_line (b ∷ bs) here small =
    let first = one_line here (is_line_end b) small in
    let fits : (after_one here (is_line_end b)).line < 2 ^ 64 = rw first (omega arith) in
    gap_line bs (after_one here (is_line_end b)) fits
    ∙ ap (λ l. line_number (l + count_by is_line_end bs)) first
    ∙ line_on here.line (cond (is_line_end b) 1 0) (count_by is_line_end bs)
    ∙ ap (λ k. line_number (here.line + k)) (sym (sum_by-cons (λ x. cond (is_line_end x) 1 0) b bs))

-- ---- the bytes after them

module _ (bytes : List ℕ) (here : Cursor) (gap rest : List ℕ) (is : drop here.at bytes ≡ gap ++ rest) (within : here.at ≤ length bytes) where
  pub rest_there : drop (after_gap here gap).at bytes ≡ rest
  rest_there =
      ap (λ k. drop k bytes) (gap_at gap here) ∙ sym (drop-drop (length gap) here.at bytes) ∙ ap (drop (length gap)) is ∙ drop-append_seam gap rest

  pub gap_within : (after_gap here gap).at ≤ length bytes
  gap_within =
      let whole : length bytes - here.at ≡ length gap + length rest = sym (length-drop here.at bytes) ∙ ap length is ∙ length-append gap rest in
      omega (arith, gap_at gap here, whole, within)

  pub gap_passed : IsGap gap → Passes (λ ts. ts ≡ []) bytes here (after_gap here gap)
  gap_passed h = record {
    front = gap;
    given = [];
    forward = omega (arith, gap_at gap here);
    within = gap_within;
    taken = is ∙ ap (λ l. gap ++ l) (sym rest_there);
    spelled = λ format more. gap_spelled format gap here more h;
    are = refl;
  }
