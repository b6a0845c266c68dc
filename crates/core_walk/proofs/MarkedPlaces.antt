-- Marks that were read.
use Rattle.core_walk.proofs.Cited.{◌≡◌, ℕ, ◌<◌, Bool, true, false, List, Some, sym, ap, ◌∙◌, length, get_or, slice_get-get_or}
use Rattle.core_walk.proofs.Cited.{get_or_from_slice_get, IsMarked}

-- a mark that was read says whether the position is marked
pub is_marked : (marks : List Bool) (i : ℕ) → i < length marks → get_or marks i false ≡ true → IsMarked marks i
is_marked marks i less is = slice_get-get_or marks i false less ∙ ap Some is

pub is_unmarked : (marks : List Bool) (i : ℕ) → get_or marks i false ≡ false → IsMarked marks i → ⊥
is_unmarked marks i clear m = let f : true ≡ false = sym (get_or_from_slice_get marks i true false m) ∙ clear in cc f
