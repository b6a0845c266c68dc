-- How far the sets of a trace agree.
use Rattle.std.specs.Prelude.{◌≡◌, ℕ, ◌≤◌, ◌↔◌, List, ◌++◌, Some}
use Rattle.qbf_core.specs.declared.quantifier.Quantifier.{Quantifier}
use Rattle.qbf_core.specs.Members.{◌∈◌}
use Rattle.qbf_core.specs.Blocks.{Block, block_in}
use Rattle.trace_check.specs.declared.fault.CheckFault.{CheckFault}
use Rattle.trace_check.specs.Sets.{PairsAgree, IsPairFault}

-- these pairs agree, and `highest` is the greatest of their blocks, or 0 if there are no pairs
pub record IsPassed (blocks : List Block) (ps : List (Quantifier × ℕ)) (highest : ℕ) : Type 0 where
  pub agree : PairsAgree blocks ps
  pub low : (k : ℕ) → (highest ≤ k) ↔ ((p : Quantifier × ℕ) → p ∈ ps → (i : ℕ) → block_in p.1 blocks ≡ Some i → i ≤ k)

-- after any pairs that are passed with `highest`, these are passed too, with `next`
abbrev pub Passes : List Block → ℕ → List (Quantifier × ℕ) → ℕ → Type 0
Passes blocks highest ps next = (before : List (Quantifier × ℕ)) → IsPassed blocks before highest → IsPassed blocks (before ++ ps) next

-- after any pairs that are passed, the first fault is this one, among these pairs, whatever comes after them
abbrev pub FailsIn : List Block → ℕ → List (Quantifier × ℕ) → CheckFault → Type 0
FailsIn blocks highest ps fault =
    (before rest : List (Quantifier × ℕ)) → IsPassed blocks before highest → IsPairFault blocks (before ++ (ps ++ rest)) fault
