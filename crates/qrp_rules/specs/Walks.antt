-- The results of walks over ordered sets: clashes, and innermost blocks.
use Rattle.std.specs.Prelude.{◌≡◌, ℕ, ◌<◌, ◌≤◌, ◌↔◌, ◌⊎◌, List, Option, Some, None}
use Rattle.qbf_core.specs.declared.quantifier.Quantifier.{Quantifier}
use Rattle.qbf_core.specs.Literal.{Literal}
use Rattle.qbf_core.specs.Members.{◌∈◌, ◌⊆◌}
use Rattle.qbf_core.specs.Blocks.{Block, Binds, block_in}
use Rattle.qbf_core.specs.Rules.{Side, Clashes, IsOnlyClash, IsReducible, resolvent}
use Rattle.qbf_core.specs.Sets.{IsOrdered}
use Rattle.qrp_rules.specs.Conditions.{IsReducibleInParents}
use Rattle.qrp_rules.specs.declared.blocks.Reducible.{Reducible}
use Rattle.qrp_rules.specs.declared.resolvent.Clash.{Clash}
use Rattle.qrp_rules.specs.declared.resolvent.Clash.TheVariants.{Nothing, One, More}

-- the rest of an ordered list from a variable on, and maybe some literals before it
pub record IsRestFrom (lits : List Literal) (v : ℕ) (rest : List Literal) : Type 0 where
  pub ordered : IsOrdered rest
  pub within : rest ⊆ lits
  pub kept : (l : Literal) → l ∈ lits → v ≤ l.var → l ∈ rest

-- in how many variables two sets clash
abbrev pub IsClashOf : List Literal → List Literal → Clash → Type 0
IsClashOf a b Nothing = (x : ℕ) → Clashes a b x → ⊥
IsClashOf a b (One x) = IsOnlyClash a b x
IsClashOf a b More = (x : ℕ) × (y : ℕ) × Clashes a b x × Clashes a b y × (x ≡ y → ⊥)

-- v is the pivot, if there is one
abbrev pub IsThePivot : Option ℕ → ℕ → Type 0
IsThePivot None v = ⊥
IsThePivot (Some x) v = v ≡ x

-- the block of v is before k, if v has the quantifier q and is not the pivot
abbrev pub IsHeldBefore : List Block → Quantifier → Option ℕ → ℕ → ℕ → Type 0
IsHeldBefore blocks q pivot v k =
    (IsThePivot pivot v → ⊥) → Binds blocks q v → (i : ℕ) → block_in v blocks ≡ Some i → i < k

-- the number of blocks up to the innermost one of the literals that have the quantifier q and not the pivot, or 0 if there are none
abbrev pub IsInnermost : List Block → Quantifier → Option ℕ → List Literal → ℕ → Type 0
IsInnermost blocks q pivot lits reach =
    (k : ℕ) → reach ≤ k ↔ ((l : Literal) → l ∈ lits → IsHeldBefore blocks q pivot l.var k)

-- v has the quantifier q, and its block comes after so many blocks
abbrev pub StandsAfter : List Block → Quantifier → ℕ → ℕ → Type 0
StandsAfter blocks q reach v = Binds blocks q v × ((k : ℕ) → block_in v blocks ≡ Some k → reach ≤ k)

-- a reduction may take out the literals of v
abbrev pub TakesOut : Reducible → ℕ → Type 0
TakesOut reducible v = StandsAfter reducible.prefix.now reducible.quantifier reducible.reach v

-- a literal of v may be missing: v is the pivot, or a reduction may take the literal out
abbrev pub MayOmit : Option Reducible → Option ℕ → ℕ → Type 0
MayOmit None pivot v = IsThePivot pivot v
MayOmit (Some reducible) pivot v = IsThePivot pivot v ⊎ TakesOut reducible v

-- each literal of `from` is in `to`, or may be missing there
abbrev pub Covers : Option Reducible → Option ℕ → List Literal → List Literal → Type 0
Covers reducible pivot from to = (l : Literal) → l ∈ from → (l ∈ to) ⊎ MayOmit reducible pivot l.var

-- each literal of the resolvent is in `to`, or reducible in the resolvent or in the antecedents
abbrev pub Accounts : Side → List Block → List Literal → List Literal → List Literal → ℕ → Type 0
Accounts side blocks a b to x = (l : Literal) → l ∈ resolvent a b x
    → (l ∈ to) ⊎ (IsReducible side blocks (resolvent a b x) l ⊎ IsReducibleInParents side blocks a b l)
