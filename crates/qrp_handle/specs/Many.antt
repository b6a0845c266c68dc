-- Many clauses that are written in one list.
use Rattle.std.specs.Prelude.{◌≡◌, ℕ, ℤ, List, [], ◌∷◌, ◌++◌, if◌then◌else◌, get_or, map, nat_eq, take, unsigned_abs}
use Rattle.qbf_core.specs.WrittenLiterals.{literal_of}
use Rattle.qrp_handle.specs.declared.proof.Proof.{Proof}

-- the number comes first in the first clause
abbrev pub with_first : ℤ → List (List ℤ) → List (List ℤ)
with_first z [] = (z ∷ []) ∷ []
with_first z (c ∷ cs) = (z ∷ c) ∷ cs

-- the clauses of a list: each ends with a 0, which the last may lack
abbrev pub clauses_of : List ℤ → List (List ℤ)
clauses_of [] = []
clauses_of (z ∷ zs) = if nat_eq (unsigned_abs z) 0 then [] ∷ clauses_of zs else with_first z (clauses_of zs)

-- the clause that comes after so many
abbrev pub clause_after : ℕ → List ℤ → List ℤ
clause_after count zs = get_or (clauses_of zs) count []

-- so many of the clauses are added, from the first on, and nothing else is changed
abbrev pub AreAdded : ℕ → List ℤ → Proof → Proof → Type 0
AreAdded count zs p q =
    q ≡ record p { formula = record p.formula { clauses = p.formula.clauses ++ map (map literal_of) (take count (clauses_of zs)) } }
