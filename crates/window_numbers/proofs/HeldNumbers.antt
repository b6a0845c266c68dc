-- Numbers that are held of a window, and the cursors between them.
use Rattle.qbf_tokens.proofs.Cited.{◌≡◌, ℕ, ◌+◌, ◌-◌, ◌^◌, ◌<◌, ◌≤◌, Bool, true, false, not, cond, List, [], ◌∷◌, ◌++◌, length, refl, sym}
use Rattle.qbf_tokens.proofs.Cited.{count_by, is_line_end, ap, ◌∙◌, arith, append_assoc, line_number, nat_tests}
use Rattle.window_numbers.proofs.Cited.{zero, suc, take, drop, subst, ◌⊎◌, inl, inr, drop-drop, BeginsWithNumber}
use Rattle.std.specs.Prelude.{nat_lt, ℤ, pos, slice_index_or, unsigned_abs, int_lt, get_or}
use Rattle.std.proofs.Common.{length-drop, length-append}
use Rattle.std.proofs.lemmas.List.{get_or-append-add, get_or-drop, get_or-take, length-take}
use Rattle.window_numbers.specs.declared.cursor.Cursor.{Cursor}
use Rattle.window_numbers.specs.declared.numbers.Numbers.{Numbers}
use Rattle.window_numbers.specs.Cursors.{cursor_after, one_if, PassesToken}
use Rattle.qbf_tokens.specs.NumberTokens.{token_at}
use Rattle.window_numbers.specs.Numbers.{place, len_of, NumberStands, StandFrom, AreHeld, StandInFront}
use Rattle.window_numbers.specs.Numbers.{cursor_to, IsPut, FillsTo, ComesNumber}
use Rattle.window_numbers.specs.Values.{held}
use Rattle.window_numbers.proofs.Gaps.{after_gap, gap_at, gap_line, line_on, rest_there, gap_within, gap_passed}
use Rattle.window_numbers.proofs.LineEnds.{counted, more, one_after}
use Rattle.std.proofs.Math.Seq.{take-append-add}
use Rattle.window_numbers.proofs.PassedNumbers.{ComesNext, passes_number, number_takes}

-- a number takes at least one byte, so that its place comes before the next one
further : (whole places : List ℕ) (k : ℕ) (v : ℤ) → NumberStands whole places k v
    → slice_index_or places k 0 < slice_index_or places (k + 1) 0
further whole places k v s =
    let some : 0 < slice_index_or places (k + 1) 0 - slice_index_or places k 0 - length s.1.gap = number_takes _ _ _ _ _ s.1.number.1 in
    omega (arith, some)

module _ (n : Numbers) (whole : List ℕ) (start : ℕ) (h : AreHeld n whole start) where
  -- places go up
  pub rises : (c : ℕ) → n.first + c ≤ n.known → place n n.first + c ≤ place n (n.first + c)
  rises zero few = let same : n.first + 0 ≡ n.first = omega arith in rw same (omega arith)
  rises (suc c) few =
      let before = rises c (omega (arith, few)) in
      let s = h.stand (n.first + c) (omega arith) (omega (arith, few)) in
      let next : n.first + suc c ≡ n.first + c + 1 = omega arith in
      let more_there = further whole n.places (n.first + c) (slice_index_or (held n) (n.first + c) (pos 0)) s in
      rw next (omega (arith, before, more_there))

-- the numbers from one of them on are held from its place on
pub held_from : (n : Numbers) (there bytes next : ℕ) → n.first ≤ there → there ≤ n.known → place n n.first + bytes ≡ place n there
    → (whole : List ℕ) (start : ℕ) → AreHeld n whole start → AreHeld (record n { first = there; zero = next }) whole (start + bytes)
held_from n there bytes next after before same whole start h = record {
  few = h.few;
  front = λ less. let front = h.front (omega (arith, less, after)) in omega (arith, same, front);
  stand = λ k low high. h.stand k (omega (arith, low, after)) high;
}

-- and at the front of the bytes from its place on
pub front_from : (n : Numbers) (there bytes next : ℕ) → n.first ≤ there → there ≤ n.known → place n n.first + bytes ≡ place n there
    → (front : List ℕ) → StandInFront n front → StandInFront (record n { first = there; zero = next }) (drop bytes front)
front_from n there bytes next after before same front f = record {
  whole = f.whole;
  start = f.start + bytes;
  rest = ap (drop bytes) f.rest ∙ drop-drop bytes f.start f.whole;
  held = held_from n there bytes next after before same f.whole f.start f.held;
}

-- no numbers are held of any bytes
pub none_stand : (n : Numbers) → n.known ≡ 0 → (bytes : List ℕ) → StandInFront n bytes
none_stand n none bytes = record {
  whole = bytes;
  start = 0;
  rest = refl;
  held = record {
    few = omega (arith, none);
    front = λ less. absurd (omega (arith, none, less));
    stand = λ k low high. absurd (omega (arith, none, high));
  };
}

-- lines are counted one by one
line_more : (first d : ℕ) → line_number (line_number (first + d) + 1) ≡ line_number (first + (d + 1))
line_more first d = omega arith

line_none : (first : ℕ) → first < 2 ^ 64 → first ≡ line_number (first + 0)
line_none first small = omega (arith, small)

same_cursor : (a b l m t u : ℕ) → a ≡ b → l ≡ m → t ≡ u
    → (let c : Cursor = record { at = a; line = l; tokens = t } in c) ≡ record { at = b; line = m; tokens = u }
same_cursor a b l m t u e f g = rw (e, f, g) refl

-- the number and its separator, which stand after some bytes
module _ (bytes run : List ℕ) (separator a len : ℕ) (front : take len (drop a bytes) ≡ run ++ separator ∷ [])
    (within : len ≤ length (drop a bytes)) where
  long : len ≡ length run + 1
  long =
      let cut = length-take len (drop a bytes) in
      let whole : length (take len (drop a bytes)) ≡ length run + 1 = ap length front ∙ length-append run (separator ∷ []) in
      omega (arith, cut, whole, within)

  -- the byte before the place after them
  pub last_is : get_or bytes (a + len - 1) 0 ≡ separator
  last_is =
      let at : a + len - 1 ≡ a + (len - 1) = omega (arith, long) in
      let end : len - 1 ≡ length run + 0 = omega (arith, long) in
      ap (λ k. get_or bytes k 0) at
      ∙ sym (get_or-drop a bytes (len - 1) 0)
      ∙ sym (get_or-take len (drop a bytes) (len - 1) 0 (omega (arith, long)))
      ∙ ap (λ l. get_or l (len - 1) 0) front
      ∙ ap (λ k. get_or (run ++ separator ∷ []) k 0) end
      ∙ get_or-append-add run (separator ∷ []) 0 0

module _ (n : Numbers) (bytes : List ℕ) (f : StandInFront n bytes) (from : Cursor) (at_front : from.at ≡ 0) (small : from.line < 2 ^ 64) where
  h : AreHeld n f.whole f.start
  h = f.held

  none_passed : len_of n 0 ≡ 0
  none_passed = let same : n.first + 0 ≡ n.first = omega arith in rw same (omega arith)

  at_of : (c : ℕ) → (cursor_to n bytes from c).at ≡ len_of n c
  at_of zero = at_front ∙ sym none_passed
  at_of (suc c) = refl

  abbrev ends_in : ℕ → ℕ
  ends_in c = count_by is_line_end (take (len_of n c) bytes)

  line_of : (c : ℕ) → (cursor_to n bytes from c).line ≡ line_number (from.line + ends_in c)
  line_of zero =
      let none : ends_in 0 ≡ 0 = ap (λ k. count_by is_line_end (take k bytes)) none_passed in
      rw none (line_none from.line small)
  line_of (suc c) = refl

  bytes_at : (c : ℕ) → n.first + c < n.known → drop (len_of n c) bytes ≡ drop (place n (n.first + c)) f.whole
  bytes_at c few =
      let up = rises n f.whole f.start h c (omega (arith, few)) in
      let front = h.front (omega (arith, few)) in
      ap (λ l. drop (len_of n c) l) f.rest
      ∙ drop-drop (len_of n c) f.start f.whole
      ∙ ap (λ k. drop k f.whole) (omega (arith, front, up))

  module _ (c : ℕ) (few : n.first + c < n.known) where
    abbrev len : ℕ
    len = place n (n.first + c + 1) - place n (n.first + c)

    s : NumberStands f.whole n.places (n.first + c) (slice_index_or (held n) (n.first + c) (pos 0))
    s = h.stand (n.first + c) (omega arith) few

    abbrev t : ComesNumber (drop (place n (n.first + c)) f.whole) len (slice_index_or (held n) (n.first + c) (pos 0))
    t = s.1

    number : BeginsWithNumber t.rest (int_lt (slice_index_or (held n) (n.first + c) (pos 0)) (pos 0))
        (unsigned_abs (slice_index_or (held n) (n.first + c) (pos 0))) (len - length t.gap) t.number.0
    number = t.number.1

    some : 0 < len - length t.gap
    some = number_takes _ _ _ _ _ number

    here_is : drop (len_of n c) bytes ≡ t.gap ++ t.rest
    here_is = bytes_at c few ∙ t.bytes_are

    reaches : len_of n (suc c) ≡ len_of n c + len
    reaches =
        let up = rises n f.whole f.start h c (omega (arith, few)) in
        let more_there = further f.whole n.places (n.first + c) (slice_index_or (held n) (n.first + c) (pos 0)) s in
        let next : n.first + suc c ≡ n.first + c + 1 = omega arith in rw next (omega (arith, up, more_there))

    front : take len (drop (len_of n c) bytes) ≡ t.gap ++ (number.run ++ number.separator ∷ [])
    front =
        let sum : len ≡ length t.gap + (len - length t.gap) = omega (arith, some) in
        ap (take len) here_is
        ∙ ap (λ k. take k (t.gap ++ t.rest)) sum
        ∙ take-append-add t.gap t.rest (len - length t.gap)
        ∙ ap (λ l. t.gap ++ l) number.front

    ends_more : ends_in (suc c) ≡ ends_in c + (count_by is_line_end t.gap + cond (is_line_end number.separator) 1 0)
    ends_more =
        ap (λ k. count_by is_line_end (take k bytes)) reaches
        ∙ more bytes (len_of n c) len
        ∙ ap (λ l. ends_in c + count_by is_line_end l) front
        ∙ ap (λ k. ends_in c + k) (counted t.gap (number.run ++ number.separator ∷ []))
        ∙ ap (λ k. ends_in c + (count_by is_line_end t.gap + k)) (one_after number.run number.separator number.unbroken)

    inside : len ≤ length (drop (len_of n c) bytes)
    inside =
        let whole : length (drop (len_of n c) bytes) ≡ length t.gap + length t.rest = ap length here_is ∙ length-append t.gap t.rest in
        omega (arith, whole, number.within, some)

    last : get_or bytes (len_of n (suc c) - 1) 0 ≡ number.separator
    last = ap (λ k. get_or bytes (k - 1) 0) reaches
        ∙ last_is bytes (t.gap ++ number.run) number.separator (len_of n c) len
        (front ∙ sym (append_assoc t.gap number.run (number.separator ∷ []))) inside

    abbrev here : Cursor
    here = cursor_to n bytes from c

    abbrev mid : Cursor
    mid = after_gap here t.gap

    line_fits : here.line < 2 ^ 64
    line_fits = rw (line_of c) (omega arith)

    mid_at : mid.at + (len - length t.gap) ≡ len_of n (suc c)
    mid_at = omega (arith, gap_at t.gap here, at_of c, reaches, some)

    mid_line : mid.line ≡ line_number (from.line + (ends_in c + count_by is_line_end t.gap))
    mid_line =
        gap_line t.gap here line_fits
        ∙ ap (λ l. line_number (l + count_by is_line_end t.gap)) (line_of c)
        ∙ line_on from.line (ends_in c) (count_by is_line_end t.gap)

    mid_small : mid.line < 2 ^ 64
    mid_small = rw mid_line (omega arith)

    there : drop here.at bytes ≡ t.gap ++ t.rest
    there = ap (λ a. drop a bytes) (at_of c) ∙ here_is

    next_as : (ends : Bool) → ends ≡ is_line_end number.separator
        → cursor_after mid (len - length t.gap) ends ≡ cursor_to n bytes from (suc c)
    next_as true e =
        same_cursor _ _ _ _ _ _ mid_at
        (ap (λ l. line_number (l + 1)) mid_line ∙ line_more from.line (ends_in c + count_by is_line_end t.gap)
        ∙ ap (λ d. line_number (from.line + d))
        (let one : ends_in (suc c) ≡ ends_in c + (count_by is_line_end t.gap + 1) =
        ends_more ∙ ap (λ b. ends_in c + (count_by is_line_end t.gap + cond b 1 0)) (sym e) in omega (arith, one)))
        (sym (ap (λ b. one_if (not (is_line_end b))) last ∙ ap (λ b. one_if (not b)) (sym e)))
    next_as false e =
        same_cursor _ _ _ _ _ _ mid_at
        (mid_line ∙ ap (λ d. line_number (from.line + d))
        (let same : ends_in (suc c) ≡ ends_in c + (count_by is_line_end t.gap + 0) =
        ends_more ∙ ap (λ b. ends_in c + (count_by is_line_end t.gap + cond b 1 0)) (sym e) in omega (arith, same)))
        (sym (ap (λ b. one_if (not (is_line_end b))) last ∙ ap (λ b. one_if (not b)) (sym e)))

    next_is : cursor_after mid (len - length t.gap) t.number.0 ≡ cursor_to n bytes from (suc c)
    next_is = next_as t.number.0 number.ends

  line_small : (c : ℕ) → (cursor_to n bytes from c).line < 2 ^ 64
  line_small c = rw (line_of c) (omega arith)

  within : (c : ℕ) → n.first + c ≤ n.known → (cursor_to n bytes from c).at ≤ length bytes
  within zero few = omega (arith, at_front)
  within (suc c) few =
      let number_there = s c (omega (arith, few)) in
      let more_there = further f.whole n.places (n.first + c) (slice_index_or (held n) (n.first + c) (pos 0)) number_there in
      let next : n.first + suc c ≡ n.first + c + 1 = omega arith in
      let front_there = h.front (omega (arith, few)) in
      let all : length bytes ≡ length f.whole - f.start = ap length f.rest ∙ length-drop f.start f.whole in
      rw next (omega (arith, number_there.0, more_there, front_there, all))

  -- a cursor after some numbers is within the bytes
  pub cursor_within : (c : ℕ) → (0 < c → n.first + c ≤ n.known) → (cursor_to n bytes from c).at ≤ length bytes
  cursor_within zero few = omega (arith, at_front)
  cursor_within (suc c) few = within (suc c) (few (omega arith))

  -- one number more, after separators
  pub next_number : (c : ℕ) → n.first + c < n.known
      → ComesNext bytes (cursor_to n bytes from c) (cursor_to n bytes from (suc c)) (token_at (held n) (n.first + c))
  next_number c few =
      let v = slice_index_or (held n) (n.first + c) (pos 0) in
      let g = t c few in
      let there_to = within c (omega (arith, few)) in
      let from_there = rest_there bytes (here c few) g.gap g.rest (there c few) there_to in
      let stands = subst (λ l. BeginsWithNumber l (int_lt v (pos 0)) (unsigned_abs v) (len c few - length g.gap) g.number.0)
      (sym from_there) (number c few) in
      record {
        mid = mid c few;
        gap = gap_passed bytes (here c few) g.gap g.rest (there c few) there_to g.is_gap;
        number = subst (λ to. PassesToken bytes (mid c few) to (token_at (held n) (n.first + c))) (next_is c few)
            (passes_number bytes (mid c few) _ _ _ g.number.0 stands (mid_small c few)
            (gap_within bytes (here c few) g.gap g.rest (there c few) there_to));
      }

-- the bytes of some numbers are among those that are buffered
pub len_within : (n : Numbers) (bytes : List ℕ) → StandInFront n bytes → (c : ℕ) → 0 < c → n.first + c ≤ n.known
    → len_of n c ≤ length bytes
len_within n bytes f c some few =
    let from : Cursor = record { at = 0; line = 0; tokens = 0 } in
    subst (λ k. k ≤ length bytes) (at_of n bytes f from refl (omega arith) c)
    (cursor_within n bytes f from refl (omega arith) c (λ _. few))

-- ---- filling

before_or_after : (j k : ℕ) → (j < k) ⊎ (k ≤ j)
before_or_after j k = elim (split (nat_lt j k) refl) [
  | inl less ↦ inl (grind (arith, nat_tests, less))
  | inr not_less ↦ inr (grind (arith, nat_tests, not_less))
]
  where
    split : (b : Bool) → nat_lt j k ≡ b → (nat_lt j k ≡ true) ⊎ (nat_lt j k ≡ false)
    split true e = inl e
    split false e = inr e

module _ (n m : Numbers) (whole : List ℕ) (start runs k : ℕ) (values : List ℤ) (f : FillsTo n whole start runs k)
    (some : 0 < length values) (room : k + length values ≤ runs) (stand : StandFrom whole n.places k values)
    (p : IsPut (held n) (held m) values k) where
  each : (j : ℕ) → n.first ≤ j → j < k + length values → NumberStands whole n.places j (slice_index_or (held m) j (pos 0))
  each j low high = elim (before_or_after j k) [
    | inl before ↦ rw (p.before j before) (f.stand j low before)
    | inr after ↦
        let i = j - k in
        let is : j ≡ k + i = omega (arith, after) in
        let few : i < length values = omega (arith, high, after, is) in
        rw is (rw (p.there i few) (stand i few))
  ]

  last_within : place n (k + length values) ≤ length whole
  last_within =
      let last = stand (length values - 1) (omega (arith, some)) in
      let is : k + (length values - 1) + 1 ≡ k + length values = omega (arith, some) in
      subst (λ j. place n j ≤ length whole) is last.0

  fills_with : FillsTo (record n { values = m.values; longs = m.longs }) whole start runs (k + length values)
  fills_with = record {
    values_len = p.same_len ∙ f.values_len;
    few = f.few;
    first = omega (arith, f.first);
    before = room;
    front = f.front;
    within = last_within;
    stand = each;
  }

-- some numbers more
pub fills_more : (n m : Numbers) (whole : List ℕ) (start runs k l : ℕ) (values : List ℤ) → FillsTo n whole start runs k
    → length values ≡ l → 0 < l → k + l ≤ runs → StandFrom whole n.places k values → IsPut (held n) (held m) values k
    → m ≡ record n { values = m.values; longs = m.longs } → FillsTo m whole start runs (k + l)
fills_more n m whole start runs k l values f len some room stand put is =
    let with_them = fills_with n m whole start runs k values f (omega (arith, some, len)) (omega (arith, room, len)) stand put in
    subst (λ (x : Numbers). FillsTo x whole start runs (k + l)) (sym is)
    (subst (λ j. FillsTo (record n { values = m.values; longs = m.longs }) whole start runs (k + j)) len with_them)

-- none of these facts depends on the zeros
pub fills_still : (n m : Numbers) (z : List ℕ) (whole : List ℕ) (start runs k : ℕ) → m ≡ record n { zeros = z }
    → FillsTo n whole start runs k → FillsTo m whole start runs k
fills_still n m z whole start runs k is f = rw is (record {
  values_len = f.values_len;
  few = f.few;
  first = f.first;
  before = f.before;
  front = f.front;
  within = f.within;
  stand = f.stand;
})

-- some numbers are put, and then zeros are noted
pub fills_on : (n p m : Numbers) (whole : List ℕ) (start runs k l : ℕ) (values : List ℤ) → FillsTo n whole start runs k
    → length values ≡ l → 0 < l → k + l ≤ runs → StandFrom whole n.places k values → IsPut (held n) (held p) values k
    → p ≡ record n { values = p.values; longs = p.longs } → m ≡ record p { zeros = m.zeros } → FillsTo m whole start runs (k + l)
fills_on n p m whole start runs k l values f len some room stand put is still =
    fills_still p m m.zeros whole start runs (k + l) still (fills_more n p whole start runs k l values f len some room stand put is)
