-- Texts that go out part by part.
use Rattle.qbf_tokens.proofs.Cited.{arith, ◌≡◌, ℕ, ◌<◌, List, [], ◌∷◌, ◌++◌, Option, refl, sym, ap, ◌∙◌, append_assoc, ◌+◌, Some}
use Rattle.qbf_tokens.proofs.Cited.{AllByRecursion, length, map, false, common_steps, token_text, line_rest}
use Rattle.qbf_text.proofs.Cited.{Ok, Err, take, drop, subst, zero, suc, inl, inr, get_or, flat_map, Result, decimal, err_from_is_err_and}
use Rattle.qbf_text.proofs.Cited.{Token, IsSent}
use Rattle.std.proofs.Common.{slice_get, add-one, drop-cons, IsErrAnd, take-append-drop}
use Rattle.std.proofs.lemmas.Option.{slice_get_within, get_or_from_slice_get, slice_get_cases}
use Rattle.std.specs.List.{filter_map}
use Rattle.std.specs.Fmt.{digits}
use Rattle.qbf_text.specs.Written.{IsPut}
use Rattle.std.specs.Io.KnownBytes.{Appends}
use Rattle.std.proofs.KnownBytes.{Appends-trans}
use Rattle.qbf_tokens.specs.declared.token.Token.TheVariants as token

pub zero_decimal : decimal 0 ≡ 48 ∷ []
unfolding digits
zero_decimal = refl

-- tokens of a list go out one by one
pub line_rest-map : {X : Type 0} (f : X → Token) (xs : List X) (ts : List Token)
    → line_rest (map f xs ++ ts) ≡ flat_map (λ x. 32 ∷ token_text (f x)) xs ++ line_rest ts
line_rest-map f [] ts = refl
line_rest-map f (x ∷ xs) ts = grind (arith, common_steps, token_text, append_assoc, flat_map, line_rest, (line_rest-map f xs ts))

-- a zero closes them
pub zero_rest : (ts : List Token) → line_rest (token.Number false 0 ∷ ts) ≡ 32 ∷ 48 ∷ line_rest ts
zero_rest ts = ap (λ (k : List ℕ). 32 ∷ (k ++ line_rest ts)) zero_decimal

-- the rest of a list, from the item at place i on
pub drop_at : {X : Type 0} (xs : List X) (i : ℕ) (x : X) → slice_get xs i ≡ Some x → drop i xs ≡ x ∷ drop (i + 1) xs
drop_at xs i x at = let lt = slice_get_within xs i x at in let e = get_or_from_slice_get xs i x x at in
    rw (add-one) (drop-cons xs i x lt ∙ ap (λ y. y ∷ drop (suc i) xs) e)

pub part_at : {X : Type 0} (f : X → List ℕ) (xs : List X) (i : ℕ) (x : X) → slice_get xs i ≡ Some x
    → flat_map f (drop i xs) ≡ f x ++ flat_map f (drop (i + 1) xs)
part_at f xs i x at = ap (flat_map f) (drop_at xs i x at)

-- the rest of a list of parts, from place i on
pub parts_next : {X : Type 0} (f : X → List ℕ) (xs : List X) (i : ℕ) (x d : X) → i < length xs → x ≡ get_or xs i d
    → flat_map f (drop i xs) ≡ f x ++ flat_map f (drop (i + 1) xs)
parts_next f xs i x d lt is = grind (arith, common_steps)

module _ {X : Type 0} (f : X → List ℕ) (xs : List X) where
  -- the rest of a list of parts has a first one
  pub part_next : (i : ℕ) → i < length xs
      → (x : X) × (slice_get xs i ≡ Some x) × (flat_map f (drop i xs) ≡ f x ++ flat_map f (drop (i + 1) xs))
  part_next i less = elim (slice_get_cases xs i).1 [
    | inl (x, _, is, _) ↦ (x, is, part_at f xs i x is)
    | inr (past, _) ↦ absurd (omega (arith, less, past))
  ]

  -- and so has the rest of the parts at some places, from the k-th of these on
  pub part_at_next : (places : List ℕ) (k : ℕ) → AllByRecursion (λ i. i < length xs) places → k < length places
      → (x : X) × (slice_get xs (get_or places k 0) ≡ Some x)
      × (flat_map f (filter_map (slice_get xs) (drop k places)) ≡ f x ++ flat_map f (filter_map (slice_get xs) (drop (k + 1) places)))
  part_at_next places k inside less = rw (add-one) (from places k inside less)
    where
      from : (places : List ℕ) (k : ℕ) → AllByRecursion (λ i. i < length xs) places → k < length places
          → (x : X) × (slice_get xs (get_or places k 0) ≡ Some x)
          × (flat_map f (filter_map (slice_get xs) (drop k places)) ≡ f x ++ flat_map f (filter_map (slice_get xs) (drop (suc k) places)))
      from [] k inside less = absurd (omega arith)
      from (p ∷ places) zero inside less = elim (slice_get_cases xs p).1 [
        | inl (x, _, is, _) ↦ (x, is, rw is refl)
        | inr (past, _) ↦ absurd (let below : p < length xs = inside.0 in omega (arith, below, past))
      ]
      from (p ∷ places) (suc k) inside less = from places k inside.1 (omega arith)

-- as many items stand at some places as there are places
pub length_at : {X : Type 0} (xs : List X) (places : List ℕ) → AllByRecursion (λ i. i < length xs) places
    → length (filter_map (slice_get xs) places) ≡ length places
length_at xs [] inside = refl
length_at xs (p ∷ places) inside = grind (arith, common_steps, slice_get_cases, length_at xs places inside.1)

-- the texts of four items
pub four_texts : {X : Type 0} (f : X → List ℕ) (four : List X) (p q r s : X) → length four ≡ 4
    → f (get_or four 0 p) ++ (f (get_or four 1 q) ++ (f (get_or four 2 r) ++ f (get_or four 3 s))) ≡ flat_map f four
four_texts f [] p q r s count = absurd (omega (arith, count))
four_texts f (a ∷ []) p q r s count = absurd (omega (arith, count))
four_texts f (a ∷ b ∷ []) p q r s count = absurd (omega (arith, count))
four_texts f (a ∷ b ∷ c ∷ []) p q r s count = absurd (omega (arith, count))
four_texts f (a ∷ b ∷ c ∷ d ∷ []) p q r s count = grind (arith, common_steps, flat_map)
four_texts f (a ∷ b ∷ c ∷ d ∷ e ∷ four) p q r s count = absurd (omega (arith, count))

module _ {S : Type 0} {written : S → Option (List ℕ)} {failures : S → ℕ} where
  sent_step : (a b c : S) (whole rest part more : List ℕ) → IsSent written failures a b whole rest → rest ≡ part ++ more
      → Appends (written b) (written c) part → failures c ≡ failures b → IsSent written failures a c whole more
  sent_step a b c whole rest part more s e p works = grind (arith, common_steps, append_assoc, Appends-trans)

  -- one push more, of n bytes
  pub sent_more : {a b c : S} {whole rest : List ℕ} (n : ℕ) → IsSent written failures a b whole rest
      → Appends (written b) (written c) (take n rest) → failures c ≡ failures b → IsSent written failures a c whole (drop n rest)
  sent_more {rest = rest} n s p works = sent_step _ _ _ _ rest (take n rest) (drop n rest) s (sym (take-append-drop n rest)) p works

  module _ {failed_last : S → Type 0} {T U E F : Type 0} where
    -- a part that fails, and with it the whole
    pub put_fails : {a b : S} {whole part : List ℕ} {e : E} {f : F} {r : Result U F} (more : List ℕ) → whole ≡ part ++ more → r ≡ Err f
        → IsPut {T = T} written failures failed_last a b part (Err e) → IsPut written failures failed_last a b whole r
    put_fails more is fails p = grind (arith, common_steps)

    then_by : (a b c : S) (whole part more : List ℕ) (u : T) (r : Result U F) → whole ≡ part ++ more
        → IsPut {E = E} written failures failed_last a b part (Ok u) → IsPut written failures failed_last b c more r → IsPut written failures failed_last a c whole r
    then_by a b c whole part more u r is p q = grind (arith, common_steps)

    -- a part that goes out, and then the rest
    pub put_then : {a b c : S} {whole part : List ℕ} {u : T} {r : Result U F} (more : List ℕ) → whole ≡ part ++ more
        → IsPut {E = E} written failures failed_last a b part (Ok u) → IsPut written failures failed_last b c more r → IsPut written failures failed_last a c whole r
    put_then more is p q = then_by _ _ _ _ _ more _ _ is p q

  module _ {failed_last : S → Type 0} {T E : Type 0} where
    -- the part of the whole that went out before a call that sends the rest
    pub sent_put : {a b c : S} {whole rest : List ℕ} {r : Result T E} → IsSent written failures a b whole rest
        → IsPut written failures failed_last b c rest r → IsPut written failures failed_last a c whole r
    sent_put = grind (arith, common_steps)

    -- the part of the whole that went out before a call that sends one part more
    pub sent_part : {a b c : S} {whole rest part : List ℕ} {u : T} (more : List ℕ) → IsSent written failures a b whole rest
        → rest ≡ part ++ more → IsPut {E = E} written failures failed_last b c part (Ok u) → IsSent written failures a c whole more
    sent_part more s is p = sent_step _ _ _ _ _ _ more s is p.ok p.failures_ok

    -- the rest, if the call sends it under another name
    pub sent_last : {a b c : S} {whole rest part : List ℕ} {r : Result T E} → IsSent written failures a b whole rest → rest ≡ part
        → IsPut written failures failed_last b c part r → IsPut written failures failed_last a c whole r
    sent_last {b = b} {c = c} {r = r} s is q = sent_put s (subst (λ k. IsPut written failures failed_last b c k r) (sym is) q)

  module _ {failed_last : S → Type 0} {T U E F : Type 0} where
    -- a part that fails at the exit of a `?`
    pub part_fails : {a b : S} {part : List ℕ} {e : E} {r : Result U F} (Q : F → Type 0) (more : List ℕ) → IsErrAnd r Q
        → IsPut {T = T} written failures failed_last a b part (Err e) → IsPut written failures failed_last a b (part ++ more) r
    part_fails {r = r} Q more is p = put_fails more refl (err_from_is_err_and r is).1 p

    pub part_then : {a b c : S} {part more : List ℕ} {u : T} {r : Result U F} → IsPut {E = E} written failures failed_last a b part (Ok u)
        → IsPut written failures failed_last b c more r → IsPut written failures failed_last a c (part ++ more) r
    part_then {more = more} p q = put_then more refl p q

  module _ {failed_last : S → Type 0} {T U E F : Type 0} where
    -- if the rest of a text is sent and the device fails, a beginning of the whole text went out
    pub sent_fails : {a b c : S} {whole rest part : List ℕ} {e : E} {r : Result U F} (Q : F → Type 0) (more : List ℕ)
        → IsSent written failures a b whole rest → rest ≡ part ++ more → IsErrAnd r Q → IsPut {T = T} written failures failed_last b c part (Err e)
        → IsPut written failures failed_last a c whole r
    sent_fails {r = r} Q more s is fails p = sent_put s (put_fails more is (err_from_is_err_and r fails).1 p)

  -- ---- the parts of a list

  module _ {failed_last : S → Type 0} {X : Type 0} (f : X → List ℕ) (xs : List X) (i : ℕ) (x d : X) {T E : Type 0} where
    -- one more goes out
    pub sent_next : {a b c : S} {whole : List ℕ} {u : T} → IsSent written failures a b whole (flat_map f (drop i xs)) → i < length xs
        → x ≡ get_or xs i d → IsPut {E = E} written failures failed_last b c (f x) (Ok u)
        → IsSent written failures a c whole (flat_map f (drop (i + 1) xs))
    sent_next s lt is p = sent_part _ s (parts_next f xs i x d lt is) p

    -- the next fails
    pub next_fails : {U F : Type 0} {a b c : S} {whole : List ℕ} {e : E} {r : Result U F} (Q : F → Type 0)
        → IsSent written failures a b whole (flat_map f (drop i xs)) → i < length xs → x ≡ get_or xs i d → IsErrAnd r Q
        → IsPut {T = T} written failures failed_last b c (f x) (Err e) → IsPut written failures failed_last a c whole r
    next_fails Q s lt is fails p = sent_fails Q _ s (parts_next f xs i x d lt is) fails p
