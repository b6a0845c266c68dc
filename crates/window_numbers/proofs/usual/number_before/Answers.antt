use Rattle.qbf_tokens.proofs.Cited.{◌≡◌, ℕ, List, ◌∙◌, ◌+◌, ◌-◌, ◌<◌, ◌≤◌, ◌^◌, ◌&&◌, Bool, true, false, sym, arith, ap}
use Rattle.window_numbers.proofs.Cited.{bool_byte, digits_value, take, drop, nat_eq, get_or}
use Rattle.std.proofs.Common.{◌%◌, SFits, w32}
use Rattle.std.proofs.lemmas.Int.{to_z-of_z}
use Rattle.window_numbers.proofs.BufferedNumber.{found, one_at_most}
use Rattle.window_numbers.proofs.usual.number_before.Goals as goal

-- less than eleven bytes from the second one on
inside_longest : (end : ℕ) → end < 2 ^ 64 → (end + (2 ^ 64 - 1)) % 2 ^ 64 < 11 → (0 < end) × (end ≤ 16)
inside_longest end fits few = (omega (arith, fits, few), omega (arith, fits, few))

no_digits : (bytes : List ℕ) (start end value : ℕ) → value ≡ digits_value 10 (take (end - start) (drop start bytes)) → end ≡ start → value ≡ 0
no_digits bytes start end value is e =
    let none : end - start ≡ 0 = omega (arith, e) in is ∙ ap (λ n. digits_value 10 (take n (drop start bytes))) none

-- a minus without digits would be a minus before 0
some_digits : (negative : Bool) (bytes : List ℕ) (start end value : ℕ) → start ≡ bool_byte negative → 0 < end
    → value ≡ digits_value 10 (take (end - start) (drop start bytes)) → (negative && nat_eq value 0) ≡ false → end ≡ start → ⊥
some_digits true bytes start end value front some is nonzero e =
    let zero : value ≡ 0 = no_digits bytes start end value is e in
    let never : true ≡ false = ap (λ v. nat_eq v 0) (sym zero) ∙ nonzero in cc never
some_digits false bytes start end value front some is nonzero e = omega (arith, front, some, e)

pub returns-clause-begins : goal.returns-clause-begins
returns-clause-begins c =
    let d = c.in_ok-magnitude.ensures in
    let negative = c.begins_with_minus-negative.result in
    let bytes = c.args.bytes.now in
    let fits : c.in_ok-magnitude.magnitude < 2 ^ 64 = search in
    let inside : (0 < c.args.end) × (c.args.end ≤ 16) = inside_longest _ c.ranges.end.fits (omega (arith, c.if-end-ge-LONGEST.false)) in
    let one : c.from-start.result ≤ 1 = one_at_most _ _ c.from-start.ensures in
    let after : c.from-start.result ≤ c.args.end = omega (arith, inside.0, one) in
    let nonzero = (c.is_usual.ensures.0 c.if-not-is_usual.false).0 in
    let sep = (c.is_usual.ensures.0 c.if-not-is_usual.false).2 in
    let sign = c.signed.ensures.sign nonzero in
    let stands = found bytes negative c.from-start.result c.in_ok-magnitude.magnitude c.args.end c.begins_with_minus-negative.ensures after fits
    d.digits d.value (some_digits negative bytes _ _ _ c.from-start.ensures inside.0 d.value nonzero)
    (omega (arith, c.if-end-bytes.false)) nonzero sep c.from-start.ensures in
    let fits_signed : SFits w32 c.signed.result = search in
    (nat_eq (get_or bytes c.args.end 0) 10, rw (to_z-of_z w32 c.signed.result fits_signed, sign, c.signed.ensures.magnitude) stands)
