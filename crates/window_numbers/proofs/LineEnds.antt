-- Line ends, counted among bytes.
use Rattle.qbf_tokens.proofs.Cited.{◌≡◌, ℕ, ◌+◌, ◌-◌, ◌^◌, ◌<◌, ◌≤◌, Bool, false, true, cond, List, [], ◌∷◌, ◌++◌, length, refl, sym, ap, ◌∙◌, arith}
use Rattle.qbf_tokens.proofs.Cited.{count_by, map, is_line_end, is_separator, IsUnbroken, rules}
use Rattle.window_numbers.proofs.Cited.{take, drop, zero, suc}
use Rattle.std.specs.Int.RustNames.{count_ones}
use Rattle.std.specs.Simd.Lanes.{mask_l, zip2, top}
use Rattle.std.proofs.Common.{◌*◌, ◌%◌, replicate, w8, eqb}
use Rattle.std.proofs.Math.Seq.{take-add}
use Rattle.std.proofs.Math.Pow.{pow-lt}
use Rattle.std.proofs.Math.Nat.{add-mul, add-mul-mod_self_left, mod-eq_of_lt, two-pow-succ}
use Rattle.std.proofs.lemmas.Simd.{bitmask_splat, mask_l-mod, ones-mask_l}
use Rattle.std.proofs.lemmas.List.{length-take, take-map, take-take}
use Rattle.std.proofs.lemmas.List.Sums.{count_by-le-length, sum_by-append, sum_by-cons}

-- a bit for each of so many bytes, as vectors find it
pub marks_are : (xs : List ℕ) → 16 ≤ length xs
    → mask_l (map (top 7) (zip2 (λ a b. cond (eqb a b) (2 ^ 8 - 1) 0) (take 16 xs) (replicate 16 10))) % 2 ^ 64
    ≡ mask_l (map is_line_end (take 16 xs))
marks_are xs long = bitmask_splat w8 eqb (take 16 xs) 16 10 (omega (arith, long, length-take 16 xs)) (omega arith)

power_more : (n d : ℕ) → 2 ^ suc n * d ≡ 2 ^ n * d + 2 ^ n * d
power_more n d = ap (λ p. p * d) (two-pow-succ n) ∙ add-mul (2 ^ n) (2 ^ n) d

-- the lowest bits are those of the first bytes
mask_parts : (ms : List Bool) (n : ℕ) → mask_l ms ≡ mask_l (take n ms) + 2 ^ n * mask_l (drop n ms)
mask_parts ms zero = omega arith
mask_parts [] (suc n) = omega arith
mask_parts (true ∷ ms) (suc n) = omega (arith, mask_parts ms n, power_more n (mask_l (drop n ms)))
mask_parts (false ∷ ms) (suc n) = omega (arith, mask_parts ms n, power_more n (mask_l (drop n ms)))

low_marks : (xs : List ℕ) (n : ℕ) → n < 16 → mask_l (map is_line_end (take 16 xs)) % 2 ^ n ≡ mask_l (map is_line_end (take n xs))
low_marks xs n few =
    let ms = map is_line_end (take 16 xs) in
    ap (λ m. m % 2 ^ n) (mask_parts ms n) ∙ add-mul-mod_self_left (mask_l (take n ms)) (2 ^ n) (mask_l (drop n ms))
    ∙ mask_l-mod (take n ms) n (omega (arith, length-take n ms))
    ∙ ap mask_l (take-map is_line_end n (take 16 xs) ∙ ap (map is_line_end) (take-take n 16 xs (omega (arith, few))))

-- so many of them are set as there are line ends among these
pub few_marked : (xs : List ℕ) (n marks : ℕ) → n < 16 → marks ≡ mask_l (map is_line_end (take 16 xs))
    → count_ones (marks % (1 * 2 ^ n % 2 ^ 64)) ≡ count_by is_line_end (take n xs)
few_marked xs n marks few are =
    let less = pow-lt {i = n} {j = 64} (omega (arith, few)) in
    let one : 1 * 2 ^ n ≡ 2 ^ n = omega arith in
    let power : 1 * 2 ^ n % 2 ^ 64 ≡ 2 ^ n = ap (λ p. p % 2 ^ 64) one ∙ mod-eq_of_lt less in
    ap (λ p. count_ones (marks % p)) power
    ∙ ap (λ m. count_ones (m % 2 ^ n)) are ∙ ap count_ones (low_marks xs n few) ∙ ones-mask_l is_line_end (take n xs)

-- those of two lists
pub counted : (xs ys : List ℕ) → count_by is_line_end (xs ++ ys) ≡ count_by is_line_end xs + count_by is_line_end ys
counted xs ys = sum_by-append (λ b. cond (is_line_end b) 1 0) xs ys

-- those of the next bytes
pub more : (xs : List ℕ) (i n : ℕ)
    → count_by is_line_end (take (i + n) xs) ≡ count_by is_line_end (take i xs) + count_by is_line_end (take n (drop i xs))
more xs i n = ap (count_by is_line_end) (take-add i n xs) ∙ counted (take i xs) (take n (drop i xs))

no_line_end : (b : ℕ) → is_separator b ≡ false → is_line_end b ≡ false
no_line_end b h = search rules

-- a run has none
pub none_in : (run : List ℕ) → IsUnbroken run → count_by is_line_end run ≡ 0
none_in [] h = refl
none_in (b ∷ bs) h =
    sum_by-cons (λ x. cond (is_line_end x) 1 0) b bs ∙ rw (no_line_end b h.0) (omega (arith, none_in bs h.1))

-- and with the separator after it there is one, or none
pub one_after : (run : List ℕ) (separator : ℕ) → IsUnbroken run
    → count_by is_line_end (run ++ separator ∷ []) ≡ cond (is_line_end separator) 1 0
one_after run separator h = search (rules, sum_by-cons, is_line_end, counted, none_in)

-- no more than there are bytes
pub few_among : (xs : List ℕ) (n : ℕ) → count_by is_line_end (take n xs) ≤ n
few_among xs n = omega (arith, count_by-le-length is_line_end (take n xs), length-take n xs)

-- those of some bytes and of those after them
pub all_counted : (xs : List ℕ) (i n : ℕ) → i ≤ n
    → count_by is_line_end (take i xs) + count_by is_line_end (take (n - i) (drop i xs)) ≡ count_by is_line_end (take n xs)
all_counted xs i n within =
    let all : i + (n - i) ≡ n = omega (arith, within) in
    sym (more xs i (n - i)) ∙ ap (λ k. count_by is_line_end (take k xs)) all
