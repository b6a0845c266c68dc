-- The table of which bytes separate tokens.
use Rattle.qbf_tokens.proofs.Cited.{◌≡◌, ℕ, ◌<◌, List, ◌∷◌, ◌++◌, refl, is_separator}
use Rattle.window_numbers.proofs.Cited.{nat_eq, get_or}
use Rattle.std.specs.Prelude.{replicate}
use Rattle.std.proofs.lemmas.Bool.{agree_below_at}

abbrev pub table : List ℕ
table = replicate 9 1 ++ 0 ∷ 0 ∷ 1 ∷ 1 ∷ 0 ∷ replicate 18 1 ++ 0 ∷ replicate 223 1

pub separates : (b : ℕ) → b < 256 → nat_eq (get_or table b 0) 0 ≡ is_separator b
separates b fits = agree_below_at (λ x. nat_eq (get_or table x 0) 0) is_separator 256 b refl fits
