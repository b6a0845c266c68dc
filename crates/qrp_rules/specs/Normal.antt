-- Literals as they are written, or the set that was made of them.
use Rattle.std.specs.Prelude.{List, Option, Some, None}
use Rattle.qbf_core.specs.Literal.{Literal}

-- the members of a set, or the literals themselves if no set was made of them
abbrev pub normal_form : Option (List Literal) → List Literal → List Literal
normal_form None lits = lits
normal_form (Some set) lits = set
