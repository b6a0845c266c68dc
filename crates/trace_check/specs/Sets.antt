-- When the quantifier sets of a trace agree with the prefix of the formula.
use Rattle.std.specs.Prelude.{◌≡◌, ℕ, ◌<◌, ◌≤◌, List, [], ◌∷◌, take, slice_get, Some}
use Rattle.qbf_core.specs.declared.quantifier.Quantifier.{Quantifier}
use Rattle.qbf_core.specs.Members.{◌∈◌}
use Rattle.qbf_core.specs.Blocks.{Block, pairs, block_in, IsBound, Binds}
use Rattle.trace_check.specs.declared.fault.CheckFault.{CheckFault}
use Rattle.trace_check.specs.declared.fault.CheckFault.TheVariants.{C1, C2, C3}
use Rattle.qrp_rules.specs.Conditions.{Condition, AllHold, IsFirstFailure}

-- the block of v is no greater than that of w
abbrev pub IsNotAfter : List Block → ℕ → ℕ → Type 0
IsNotAfter blocks v w = (i j : ℕ) → block_in v blocks ≡ Some i → block_in w blocks ≡ Some j → i ≤ j

-- a set variable is bound, with this quantifier, and in no smaller block than the variables named before it
abbrev pub set_conditions : List Block → List (Quantifier × ℕ) → Quantifier × ℕ → List (Condition CheckFault)
set_conditions blocks before p =
    (C1 p.1, IsBound blocks p.1)
    ∷ (C2 p.1, Binds blocks p.0 p.1)
    ∷ (C3 p.1, ((q : Quantifier × ℕ) → q ∈ before → IsNotAfter blocks q.1 p.1))
    ∷ []

-- the pairs of the sets in file order: each meets its conditions
abbrev pub PairsAgree : List Block → List (Quantifier × ℕ) → Type 0
PairsAgree blocks ps = (i : ℕ) (p : Quantifier × ℕ) → slice_get ps i ≡ Some p → AllHold (set_conditions blocks (take i ps) p)

-- the sets agree with the prefix
abbrev pub SetsAgree : List Block → List Block → Type 0
SetsAgree blocks sets = PairsAgree blocks (pairs sets)

-- the first of the pairs that does not agree, and its first fault
pub record IsPairFault (blocks : List Block) (ps : List (Quantifier × ℕ)) (fault : CheckFault) : Type 0 where
  pub position : ℕ
  pub pair : Quantifier × ℕ
  pub here : slice_get ps position ≡ Some pair
  pub first : IsFirstFailure (set_conditions blocks (take position ps) pair) fault
  pub earlier : (j : ℕ) (p : Quantifier × ℕ) → j < position → slice_get ps j ≡ Some p → AllHold (set_conditions blocks (take j ps) p)

-- the first fault of the set variables in file order
abbrev pub IsSetFault : List Block → List Block → CheckFault → Type 0
IsSetFault blocks sets fault = IsPairFault blocks (pairs sets) fault
