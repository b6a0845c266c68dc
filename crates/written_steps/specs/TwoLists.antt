-- The results of a walk over two lists and a third one, whatever the order of their literals.
use Rattle.std.specs.Prelude.{◌≡◌, ℕ, ◌+◌, ◌≤◌, ◌⊎◌, List, Some, take, length, slice_get}
use Rattle.qbf_core.specs.Literal.{Literal, negated}
use Rattle.qbf_core.specs.Members.{◌∈◌, ◌⊆◌}
use Rattle.written_steps.specs.declared.two_lists.Cursors.{Cursors}
use Rattle.written_steps.specs.Seen.{Has, Members}

-- the position after a literal that stands at a position, or the position itself
abbrev pub IsNext : List Literal → ℕ → Literal → ℕ → Type 0
IsNext lits i l next = ((next ≡ i + 1) × (slice_get lits i ≡ Some l)) ⊎ (next ≡ i)

-- the beginning of `to` has just the members of the beginnings of a and b
pub record IsMergeSoFar (a b to : List Literal) (i j k : ℕ) : Type 0 where
  pub in_a : i ≤ length a
  pub in_b : j ≤ length b
  pub from : (l : Literal) → l ∈ take k to → (l ∈ take i a) ⊎ (l ∈ take j b)
  pub left : take i a ⊆ take k to
  pub right : take j b ⊆ take k to

-- how far three lists were walked over
pub record IsMerged (a b to : List Literal) (cursors : Cursors) : Type 0 where
  pub in_to : cursors.to ≤ length to
  pub merge : IsMergeSoFar a b to cursors.a cursors.b cursors.to

-- each literal of `to` is in a or b, and each of a and b is in `to` or in what is left
pub record IsMergeBut (a b to rest_a rest_b : List Literal) : Type 0 where
  pub from : (l : Literal) → l ∈ to → (l ∈ a) ⊎ (l ∈ b)
  pub left : (l : Literal) → l ∈ a → (l ∈ to) ⊎ (l ∈ rest_a)
  pub right : (l : Literal) → l ∈ b → (l ∈ to) ⊎ (l ∈ rest_b)

-- each literal of `to` is in a or b; each of a and b is in `to`, is left, or has the variable of x, which is in a and negated in b
pub record IsResolvedBut (a b to rest_a rest_b : List Literal) (x : Literal) : Type 0 where
  pub in_a : x ∈ a
  pub in_b : negated x ∈ b
  pub from : (l : Literal) → l ∈ to → (l ∈ a) ⊎ (l ∈ b)
  pub left : (l : Literal) → l ∈ a → (l.var ≡ x.var) ⊎ ((l ∈ to) ⊎ (l ∈ rest_a))
  pub right : (l : Literal) → l ∈ b → (l.var ≡ x.var) ⊎ ((l ∈ to) ⊎ (l ∈ rest_b))

-- a set only grows, by literals of which this holds, and if it had no clash before, it has none after
pub record IsPutBy (old new : Members) (May : Literal → Type 0) : Type 0 where
  pub kept : (l : Literal) → Has old l → Has new l
  pub only : (l : Literal) → Has new l → Has old l ⊎ May l
  pub clean : ((l : Literal) → Has old l → Has old (negated l) → ⊥) → (l : Literal) → Has new l → Has new (negated l) → ⊥

-- no literal has the variable v
abbrev pub IsApart : List Literal → ℕ → Type 0
IsApart lits v = (l : Literal) → l ∈ lits → l.var ≡ v → ⊥
