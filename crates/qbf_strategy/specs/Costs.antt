-- How many gates decisions take at most.
use Rattle.std.specs.Prelude.{ℕ, suc, ◌+◌, ◌==◌, Bool, true, false, if◌then◌else◌, List, [], ◌∷◌, get_or, length}
use Rattle.qbf_core.specs.Literal.{Literal}
use Rattle.qbf_strategy.specs.Chains.{Sayings}

-- for a literal that the decision k sets: one gate, and one for each literal that the decision sees
abbrev pub cost : List (List Literal) → ℕ → ℕ
cost kept k = suc (length (get_or kept k []))

-- whether v is one of some variables
abbrev pub is_among : ℕ → List ℕ → Bool
is_among v [] = false
is_among v (u ∷ us) = if v == u then true else is_among v us

-- for the literals of some variables that decisions set
abbrev pub cost_among : List (List Literal) → List ℕ → Sayings → ℕ
cost_among kept vs [] = 0
cost_among kept vs ((k, l) ∷ said) = (if is_among l.var vs then cost kept k else 0) + cost_among kept vs said

-- for all literals that decisions set
abbrev pub cost_all : List (List Literal) → Sayings → ℕ
cost_all kept [] = 0
cost_all kept ((k, l) ∷ said) = cost kept k + cost_all kept said
