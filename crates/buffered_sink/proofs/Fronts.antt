-- A text after bytes before it, and the bytes before a number.
use Rattle.std.proofs.Common.{◌≡◌, ℕ, ◌+◌, ◌≤◌, ◌<◌, List, [], ◌∷◌, ◌++◌, length, take, drop, sym, ap, ◌∙◌, arith, take-append-drop, Bool, true, false, suc, decimal}
use Rattle.std.proofs.lemmas.Grind.{common_steps}
use Rattle.std.proofs.Math.Seq.{drop-append-add}
use Rattle.std.proofs.lemmas.List.{drop-drop, take-set, take-set-le, take_more_set, drop-set, drop-set-lt, set_split}
use Rattle.std.specs.Prelude.{set}
use Rattle.decimal.specs.Digits.{IsPutFrom}
use Rattle.qbf_tokens.specs.Canonical.{token_text}
use Rattle.qbf_tokens.specs.declared.token.Token.TheVariants.{Number}
use mir.Val.{bool_byte}

pub at_most_one : (negative : Bool) → bool_byte negative ≤ 1
at_most_one negative = grind (arith, common_steps)

-- some bytes are put from a place on, and then a text behind them
pub put_behind : (old mid new front text : List ℕ) (at behind end : ℕ) → at ≤ length old → behind ≡ at + length front
    → take behind mid ≡ take at old ++ front → drop end mid ≡ drop end old → IsPutFrom mid new behind end text
    → IsPutFrom old new at end (front ++ text)
put_behind old mid new front text at behind end inside place fronts same put =
    let whole : new ≡ take at old ++ (front ++ (text ++ drop end old)) =
    sym (take-append-drop behind new) ∙ (λ i. (put.before ∙ fronts) i ++ (put.written ∙ ap (λ (l : List ℕ). text ++ l) same) i)
    ∙ grind (arith, common_steps) in
    record {
      end_is = grind (arith, common_steps, put.end_is, place);
      written = rw whole (grind (arith, common_steps, inside));
      before = rw whole (grind (arith, common_steps, inside));
    }

-- what stands behind a text that is put from a place on
left_behind : (old mid first : List ℕ) (at behind k : ℕ) → IsPutFrom old mid at behind first → drop (behind + k) mid ≡ drop (behind + k) old
left_behind old mid first at behind k one =
    ap (λ n. drop (n + k) mid) one.end_is ∙ sym (drop-drop (length first + k) at mid ∙ ap (λ n. drop n mid) (omega arith))
    ∙ ap (drop (length first + k)) one.written ∙ drop-append-add first (drop behind old) k ∙ drop-drop k behind old

-- a text is put from a place on, and then another one behind it
pub put_both : (old mid new first text : List ℕ) (at behind end : ℕ) → at ≤ length old → IsPutFrom old mid at behind first
    → IsPutFrom mid new behind end text → IsPutFrom old new at end (first ++ text)
put_both old mid new first text at behind end inside one other =
    let whole : mid ≡ take at old ++ (first ++ drop behind old) =
    sym (take-append-drop at mid) ∙ (λ i. one.before i ++ one.written i) in
    put_behind old mid new first text at behind end inside one.end_is
    (rw whole (grind (arith, common_steps, inside, one.end_is)))
    (rw other.end_is (left_behind old mid first at behind (length text) one)) other

-- a blank is put over a minus
blank_front : (old : List ℕ) (at last : ℕ) → last ≡ at → at < length old
    → take (last + 1) (set (set old last 45) at 32) ≡ take at old ++ 32 ∷ []
blank_front old at last same inside = rw same (grind (arith, common_steps, take_more_set, take-set))

-- two lists before others
first_two : (xs ys zs : List ℕ) (n : ℕ) → n ≡ length xs + length ys → take n (xs ++ (ys ++ zs)) ≡ xs ++ ys
first_two xs ys zs n count = grind (arith, common_steps, count)

-- a blank is put before a minus
minus_front : (old : List ℕ) (at last : ℕ) → last ≡ suc at → last < length old
    → take (last + 1) (set (set old last 45) at 32) ≡ take at old ++ 32 ∷ 45 ∷ []
minus_front old at last next inside =
    let whole : set (set old last 45) at 32 ≡ take at old ++ 32 ∷ 45 ∷ drop (last + 1) old =
    set_split (set old last 45) at 32 (grind (arith, common_steps, inside, next))
    ∙ (λ i. take-set-le at old last 45 (omega (arith, next)) i
    ++ 32 ∷ (ap (λ k. drop k (set old last 45)) (sym next) ∙ drop-set old last 45 inside) i) in
    let count : length (take at old) ≡ at = grind (arith, common_steps, inside, next) in
    rw whole (first_two (take at old) (32 ∷ 45 ∷ []) (drop (last + 1) old) (last + 1) (omega (arith, count, next)))

-- what a number's blank and minus leave as it is
after_front : (old : List ℕ) (at last end : ℕ) → at ≤ last → last < end → drop end (set (set old last 45) at 32) ≡ drop end old
after_front old at last end order after =
    drop-set-lt end (set old last 45) at 32 (omega (arith, order, after)) ∙ drop-set-lt end old last 45 after

-- a number is put behind a blank and its minus
pub put_number : (negative : Bool) (n : ℕ) (old new : List ℕ) (at last end : ℕ) → last ≡ at + bool_byte negative → at + 22 ≤ length old
    → IsPutFrom (set (set old last 45) at 32) new (last + 1) end (decimal n)
    → IsPutFrom old new at end (32 ∷ token_text (Number negative n))
put_number false n old new at last end place inside put =
    let same : last ≡ at = omega (arith, place) in
    put_behind old (set (set old last 45) at 32) new (32 ∷ []) (decimal n) at (last + 1) end (omega (arith, inside)) (omega (arith, same))
    (blank_front old at last same (omega (arith, inside)))
    (after_front old at last end (omega (arith, same)) (omega (arith, put.end_is))) put
put_number true n old new at last end place inside put =
    let next : last ≡ suc at = omega (arith, place) in
    put_behind old (set (set old last 45) at 32) new (32 ∷ 45 ∷ []) (decimal n) at (last + 1) end (omega (arith, inside)) (omega (arith, next))
    (minus_front old at last next (omega (arith, inside, next)))
    (after_front old at last end (omega (arith, next)) (omega (arith, put.end_is))) put
