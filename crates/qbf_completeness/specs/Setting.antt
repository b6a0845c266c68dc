-- Which literals are set to true, of those in a list.
use Rattle.std.specs.Prelude.{Bool, true, false, if◌then◌else◌, List, [], ◌∷◌}
use Rattle.qbf_core.specs.Literal.{Literal, literal_eq}

-- whether the literal l is set
abbrev pub is_set : Literal → List Literal → Bool
is_set l [] = false
is_set l (m ∷ s) = if literal_eq l m then true else is_set l s

-- whether all of these literals are set
abbrev pub are_set : List Literal → List Literal → Bool
are_set [] s = true
are_set (l ∷ ls) s = if is_set l s then are_set ls s else false
