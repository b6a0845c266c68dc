-- Numbers that write literals, one more at a time.
use Rattle.std.proofs.Common.{◌≡◌, ℕ, ℤ, suc, ◌+◌, ◌<◌, List, [], ◌∷◌, ◌++◌, map, take, length, get_or, sym, ap, ◌∙◌, subst, arith, take-suc}
use Rattle.std.proofs.lemmas.List.{map-append}
use Rattle.std.specs.List.{AllByRecursion}
use Rattle.qbf_core.specs.Literal.{Literal}
use Rattle.qbf_core.specs.WrittenLiterals.{IsWritten, literal_of}

one_more : (xs : List ℤ) (i : ℕ) (d : ℤ) → i < length xs → take (i + 1) xs ≡ take i xs ++ get_or xs i d ∷ []
one_more xs i d h = let more : i + 1 ≡ suc i = omega arith in ap (λ k. take k xs) more ∙ take-suc xs i d h

-- a fact that holds of each item of a list, and of one more
and_last : {X : Type 0} (P : X → Type 0) (xs : List X) (x : X) → AllByRecursion P xs → P x → AllByRecursion P (xs ++ x ∷ [])
and_last P [] x h p = (p, tt)
and_last P (y ∷ xs) x h p = (h.0, and_last P xs x h.1 p)

-- one more number is read
pub next_read : (xs : List ℤ) (i : ℕ) (d : ℤ) → i < length xs → (lits : List Literal) → lits ≡ map literal_of (take i xs)
    → lits ++ literal_of (get_or xs i d) ∷ [] ≡ map literal_of (take (i + 1) xs)
next_read xs i d h lits e =
    ap (λ (ls : List Literal). ls ++ literal_of (get_or xs i d) ∷ []) e
    ∙ sym (map-append literal_of (take i xs) (get_or xs i d ∷ []))
    ∙ ap (λ (zs : List ℤ). map literal_of zs) (sym (one_more xs i d h))

-- what holds of the first numbers, and of the next one
pub next_all : (P : ℤ → Type 0) (xs : List ℤ) (i : ℕ) (d : ℤ) → i < length xs → AllByRecursion P (take i xs) → P (get_or xs i d)
    → AllByRecursion P (take (i + 1) xs)
next_all P xs i d h all p =
    subst (λ (zs : List ℤ). AllByRecursion P zs) (sym (one_more xs i d h)) (and_last P (take i xs) (get_or xs i d) all p)

pub next_written : (xs : List ℤ) (i : ℕ) (d : ℤ) → i < length xs → AllByRecursion (IsWritten 2147483647) (take i xs) → IsWritten 2147483647 (get_or xs i d)
    → AllByRecursion (IsWritten 2147483647) (take (i + 1) xs)
next_written = next_all (IsWritten 2147483647)
