-- When sets of literals follow by the rules: by Q-resolution (Kleine Buening, Karpinski, Floegel 1995), by term resolution
-- (Giunchiglia, Narizzano, Tacchella 2006), or by either with pivots of both quantifiers (Van Gelder 2012). The conditions of
-- a rule have an order, and each has the name of the fault for its failure. A set follows if all hold; if not, its fault is
-- that of the first that fails.
use Rattle.std.specs.Prelude.{◌≡◌, ℕ, IsTrue, List, [], ◌∷◌, ◌⊎◌, Option, Some, None}
use Rattle.qbf_core.specs.Literal.{Literal}
use Rattle.qbf_core.specs.Members.{◌∈◌, ◌⊆◌}
use Rattle.qbf_core.specs.Blocks.{Block, Binds}
use Rattle.qbf_core.specs.Qbf.{Qbf}
use Rattle.qbf_core.specs.Rules.{Side, Clauses, Cubes, deciding_quantifier, IsReducible, Clashes, resolvent, IsInitial}
use Rattle.qrp_rules.specs.declared.rules.Rules.{Rules}
use Rattle.qrp_rules.specs.declared.fault.RuleFault.{RuleFault}
use Rattle.qrp_rules.specs.declared.fault.RuleFault.TheVariants.{S4, S5, S6, S7, S8, S9, S10, S11, S12}

-- a condition, under the name of the fault for its failure
abbrev pub Condition : Type 0 → Type 1
Condition Fault = Fault × Type 0

-- every condition holds
abbrev pub AllHold : {Fault : Type 0} → List (Condition Fault) → Type 0
AllHold [] = Unit {0}
AllHold ((_, holds) ∷ conditions) = holds × AllHold conditions

-- the first condition that fails has this name
abbrev pub IsFirstFailure : {Fault : Type 0} → List (Condition Fault) → Fault → Type 0
IsFirstFailure [] fault = ⊥
IsFirstFailure ((name, holds) ∷ conditions) fault =
    ((holds → ⊥) × (fault ≡ name)) ⊎ (holds × IsFirstFailure conditions fault)

-- the fault of some conditions: none if all hold, and otherwise that of the first that fails
abbrev pub IsFaultOf : {Fault : Type 0} → List (Condition Fault) → Option Fault → Type 0
IsFaultOf conditions None = AllHold conditions
IsFaultOf conditions (Some fault) = IsFirstFailure conditions fault

-- `to` is a reduct of `from`
abbrev pub reduct_conditions : Side → List Block → List Literal → List Literal → List (Condition RuleFault)
reduct_conditions side blocks from to =
    (S6, to ⊆ from)
    ∷ (S7, ((l : Literal) → l ∈ from → (l ∈ to) ⊎ IsReducible side blocks from l))
    ∷ []

-- x may be resolved on: it has the deciding quantifier, or the rules allow any pivot (QU-resolution, Van Gelder 2012, and its dual)
abbrev pub AllowsPivot : Rules → Side → List Block → ℕ → Type 0
AllowsPivot rules side blocks x = IsTrue rules.any_pivot ⊎ Binds blocks (deciding_quantifier side) x

-- l is reducible in each of a and b that has it
abbrev pub IsReducibleInParents : Side → List Block → List Literal → List Literal → Literal → Type 0
IsReducibleInParents side blocks a b l = (l ∈ a → IsReducible side blocks a l) × (l ∈ b → IsReducible side blocks b l)

-- a and b clash in one variable, which may be resolved on; `to` is within their resolvent, and what it leaves out may be left out
abbrev pub resolution_conditions : Rules → Side → List Block → List Literal → List Literal → List Literal
    → (List Literal → Literal → Type 0) → List (Condition RuleFault)
resolution_conditions rules side blocks a b to may_omit =
    (S8, ((x : ℕ) × Clashes a b x))
    ∷ (S9, ((x y : ℕ) → Clashes a b x → Clashes a b y → x ≡ y))
    ∷ (S10, ((x : ℕ) → Clashes a b x → AllowsPivot rules side blocks x))
    ∷ (S11, ((x : ℕ) → Clashes a b x → to ⊆ resolvent a b x))
    ∷ (S12, ((x : ℕ) → Clashes a b x → (l : Literal) → l ∈ resolvent a b x → (l ∈ to) ⊎ may_omit (resolvent a b x) l))
    ∷ []

-- the conditions of a resolvent without some literals, each of which is reducible in it or in the parents
abbrev pub resolvent_conditions : Rules → Side → List Block → List Literal → List Literal → List Literal → List (Condition RuleFault)
resolvent_conditions rules side blocks a b to =
    resolution_conditions rules side blocks a b to (λ whole l. IsReducible side blocks whole l ⊎ IsReducibleInParents side blocks a b l)

-- the literals are those of an initial step
abbrev pub initial_condition : Side → Qbf → List Literal → Condition RuleFault
initial_condition Clauses f lits = (S4, IsInitial Clauses f lits)
initial_condition Cubes f lits = (S5, IsInitial Cubes f lits)
