-- How the clauses of a formula are watched while initial cubes are looked at.
use Rattle.std.specs.Prelude.{◌≡◌, ℕ, suc, ◌<◌, ◌≤◌, Bool, List, ◌⊎◌, Contains, Some, slice_get, length, true, false}
use Rattle.qbf_core.specs.Literal.{Literal}
use Rattle.qbf_core.specs.Members.{◌∈◌}
use Rattle.qbf_core.specs.Qbf.{Qbf}
use Rattle.qbf_core.specs.Rules.{IsTautology}
use Rattle.written_steps.specs.declared.initial_cubes.Watch.{Watch}
use Rattle.written_steps.specs.declared.initial_cubes.InitialCubes.{InitialCubes}
use Rattle.written_steps.specs.Seen.{Has, Members}

-- the clause at position i is among those that l watches, whose list is at position k
pub record IsWatchedBy (lists : List Watch) (k : ℕ) (l : Literal) (i : ℕ) : Type 0 where
  pub watch : Watch
  pub here : slice_get lists k ≡ Some watch
  pub by : watch.lit ≡ l
  pub listed : Contains watch.clauses.items i

-- each clause that was watched still is, by its old list
pub record KeepsWatches (old new : List Watch) : Type 0 where
  pub watched : (k : ℕ) (l : Literal) (i : ℕ) → IsWatchedBy old k l i → IsWatchedBy new k l i
  pub longer : length old ≤ length new

-- the clause at position i, if there is one, is a tautology, or is watched by a literal that it has
abbrev pub IsWatched : Qbf → List Watch → ℕ → Type 0
IsWatched f lists i =
    (clause : List Literal) → slice_get f.clauses i ≡ Some clause
    → IsTautology clause ⊎ ((l : Literal) × (l ∈ clause) × (k : ℕ) × IsWatchedBy lists k l i)

-- the clause at position i, if there is one, is a tautology, or is watched by a literal that it has, and this was seen or its list is
-- before n
abbrev pub IsMet : ℕ → Qbf → Members → List Watch → ℕ → Type 0
IsMet n f seen lists i =
    (clause : List Literal) → slice_get f.clauses i ≡ Some clause
    → IsTautology clause ⊎ ((l : Literal) × (l ∈ clause) × (k : ℕ) × IsWatchedBy lists k l i × ((k < n) ⊎ Has seen l))

-- each clause that was watched still is, or is in `taken`; if its list was at position n or before, it is now before n
abbrev pub IsTakenOut : List Watch → ℕ → List ℕ → List Watch → Type 0
IsTakenOut old n taken new =
    (k : ℕ) (l : Literal) (i : ℕ) → IsWatchedBy old k l i
    → Contains taken i ⊎ ((j : ℕ) × IsWatchedBy new j l i × (k < suc n → j < n))

-- each clause is watched, if the flag is set
abbrev pub IsWatchedIf : Bool → Qbf → List Watch → Type 0
IsWatchedIf true f lists = (i : ℕ) → IsWatched f lists i
IsWatchedIf false f lists = Unit {0}

-- each clause is watched, if `is_watching` says so
abbrev pub IsWatching : Qbf → InitialCubes → Type 0
IsWatching f cubes = IsWatchedIf cubes.is_watching f cubes.lists.items
