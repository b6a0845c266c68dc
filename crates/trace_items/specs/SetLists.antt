-- Quantifier sets whose variables lie in a flat buffer.
use Rattle.std.specs.Prelude.{ℕ, List, [], ◌∷◌}
use Rattle.std.specs.List.{AllByRecursion}
use Rattle.qbf_core.specs.Blocks.{Block, IsVariable}
use Rattle.qbf_core.specs.declared.quantifier.Quantifier.{Quantifier}

-- the sets of these quantifiers and variables
abbrev pub sets_of : List Quantifier → List (List ℕ) → List Block
sets_of [] vars = []
sets_of (q ∷ qs) [] = []
sets_of (q ∷ qs) (vs ∷ vars) = record { quantifier = q; vars = vs } ∷ sets_of qs vars

-- sets as the grammar has them: their variables are in range
abbrev pub AreSets : List Block → Type 0
AreSets sets = AllByRecursion (λ s. AllByRecursion IsVariable s.vars) sets
