-- Lists without literals that come after some block, and steps that follow from the whole lists if they follow from these.
use Rattle.std.specs.Prelude.{◌≡◌, ℕ, ◌⊎◌, List}
use Rattle.qbf_core.specs.declared.quantifier.Quantifier.{Quantifier}
use Rattle.qbf_core.specs.Literal.{Literal}
use Rattle.qbf_core.specs.Members.{◌∈◌, ◌⊆◌}
use Rattle.qbf_core.specs.Blocks.{Block}
use Rattle.qbf_core.specs.Rules.{Side, IsReducible, reduced_quantifier}
use Rattle.qrp_rules.specs.Conditions.{AllHold, reduct_conditions, resolvent_conditions}
use Rattle.qrp_rules.specs.declared.rules.Rules.{Rules}
use Rattle.qrp_rules.specs.Walks.{StandsAfter}
use Rattle.written_steps.specs.declared.parts.Part.{Part}
use Rattle.written_steps.specs.declared.parts.Parts.{Parts}

-- a list without some literals that have the quantifier q and come after so many blocks
pub record IsPart (blocks : List Block) (q : Quantifier) (reach : ℕ) (whole part : List Literal) : Type 0 where
  pub within : part ⊆ whole
  pub each : (l : Literal) → l ∈ whole → (l ∈ part) ⊎ StandsAfter blocks q reach l.var

-- the literals that a reduction takes out and that come after so many blocks are reducible in `to`, or they are in the part
abbrev pub AreReducibleAfter : Side → List Block → ℕ → List Literal → List Literal → Type 0
AreReducibleAfter side blocks reach to part =
    ((l : Literal) → StandsAfter blocks (reduced_quantifier side) reach l.var → IsReducible side blocks to l)
    ⊎ ((l : Literal) → StandsAfter blocks (reduced_quantifier side) reach l.var → IsReducible side blocks part l)

-- a reduct of the part is one of the whole list
abbrev pub ReducesWhole : Side → List Block → ℕ → List Literal → List Literal → Type 0
ReducesWhole side blocks reach part to =
    (whole : List Literal) → IsPart blocks (reduced_quantifier side) reach whole part → AllHold (reduct_conditions side blocks part to)
    → AllHold (reduct_conditions side blocks whole to)

-- a resolvent of the part and another list is one of the whole list and that, in either order
abbrev pub IsSameResolvent : Rules → Side → List Block → List Literal → List Literal → List Literal → List Literal → Type 0
IsSameResolvent rules side blocks part whole other to =
    (AllHold (resolvent_conditions rules side blocks part other to) → AllHold (resolvent_conditions rules side blocks whole other to))
    × (AllHold (resolvent_conditions rules side blocks other part to) → AllHold (resolvent_conditions rules side blocks other whole to))

-- the same of each list that has this part
abbrev pub ResolvesWhole : Side → List Block → ℕ → List Literal → List Literal → List Literal → Type 0
ResolvesWhole side blocks reach part other to =
    (rules : Rules) (whole : List Literal) → IsPart blocks (reduced_quantifier side) reach whole part
    → IsSameResolvent rules side blocks part whole other to

-- each part that is kept under the number n is one of the list
abbrev pub AreParts : Side → List Block → Parts → ℕ → List Literal → Type 0
AreParts side blocks kept n whole =
    (part : Part) → part ∈ kept.parts.items → part.number ≡ n → IsPart blocks (reduced_quantifier side) part.reach whole part.lits.items
