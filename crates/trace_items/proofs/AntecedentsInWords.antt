-- Lists of antecedents, of which the first are kept in words.
use Rattle.std.proofs.Common.{arith, refl, ◌≡◌, ◌<◌, ◌-◌, ◌+◌, ℕ, List, ◌++◌, length, length-append}
use Rattle.std.specs.Prelude.{take, ◌*◌}
use Rattle.std.proofs.Math.Seq.{take-append-add}
use Rattle.std.proofs.lemmas.Nat.{div-mul-add, mod-mul-add}
use Rattle.trace_items.specs.Antecedents.{list_of_two, list_of_word}

-- the last list is one of the later ones, if there are such
pub last_of_later : {X : Type 0} (xs ys : List X) → (length ys ≡ 0 → ⊥)
    → take (length (xs ++ ys) - 1) (xs ++ ys) ≡ xs ++ take (length ys - 1) ys
last_of_later xs ys some =
    let at : length (xs ++ ys) - 1 ≡ length xs + (length ys - 1) = omega (arith, length-append xs ys, some) in
    rw at (take-append-add xs ys (length ys - 1))

-- a word holds two numbers
pub word_list : (first second : ℕ) → first < 4294967296 → list_of_word (second * 4294967296 + first) ≡ list_of_two first second
word_list first second less =
    rw (mod-mul-add second 4294967296 first less, div-mul-add second 4294967296 first less) refl
