-- The antecedents of a step: none, one or two.
use Rattle.std.specs.Prelude.{ℕ, zero, suc, ◌/◌, ◌%◌, ◌≤◌, List, [], ◌∷◌}
use Rattle.std.specs.List.{AllByRecursion}
use Rattle.trace_items.specs.declared.antecedents.AntecedentPair.{AntecedentPair}
use Rattle.trace_items.specs.declared.antecedents.Antecedents.{Antecedents}
use Rattle.trace_items.specs.declared.antecedents.Antecedents.TheVariants.{Empty, One, Two}

-- their numbers, in order
abbrev pub listed : Antecedents → List ℕ
listed Empty = []
listed (One n) = n ∷ []
listed (Two n m) = n ∷ m ∷ []

-- two numbers, of which 0 stands for none
abbrev pub list_of_two : ℕ → ℕ → List ℕ
list_of_two n (suc m) = n ∷ suc m ∷ []
list_of_two (suc n) zero = suc n ∷ []
list_of_two zero zero = []

-- those of a pair
abbrev pub list_of_pair : AntecedentPair → List ℕ
list_of_pair p = list_of_two p.first p.second

-- those of a word that holds two, the first in its lower half
abbrev pub list_of_word : ℕ → List ℕ
list_of_word w = list_of_two (w % 4294967296) (w / 4294967296)

-- none of these numbers is 0
abbrev pub AreNumbers : List ℕ → Type 0
AreNumbers ants = AllByRecursion (λ n. 1 ≤ n) ants
