-- The truth of a formula of gates: both values of each variable are tried, from outermost to innermost, and then the gates are evaluated in
-- their order.
use Rattle.std.specs.Prelude.{ℕ, Bool, not, if◌then◌else◌, List, [], ◌∷◌}
use Rattle.std.specs.List.{list_all, list_any}
use Rattle.qbf_core.specs.Literal.{Literal}
use Rattle.qbf_core.specs.Members.{◌∈◌}
use Rattle.qbf_core.specs.Blocks.{pairs}
use Rattle.qbf_core.specs.Truth.{IsTrueFrom}
use Rattle.qbf_completeness.specs.Setting.{is_set}
use Rattle.qbf_completeness.specs.Strategies.{literal_of}
use Rattle.qbf_gates.specs.Gates.{Gate, And, Or, Xor, Ite, GateFormula}

-- the value of a gate, by the literals that are set to true
abbrev pub gate_value : Gate → List Literal → Bool
gate_value (And ls) s = list_all (λ l. is_set l s) ls
gate_value (Or ls) s = list_any (λ l. is_set l s) ls
gate_value (Xor a b) s = if is_set a s then not (is_set b s) else is_set b s
gate_value (Ite a b c) s = if is_set a s then is_set b s else is_set c s

-- the literals that are set once each gate has its value
abbrev pub with_gates : List (ℕ × Gate) → List Literal → List Literal
with_gates [] s = s
with_gates (g ∷ gates) s = with_gates gates (literal_of g.0 (gate_value g.1 s) ∷ s)

-- the output is true, once the variables are set
abbrev pub OutputHolds : GateFormula → List Literal → Type 0
OutputHolds q s = q.output ∈ with_gates q.gates s

-- a formula is true if its whole prefix is, with nothing set at first: when each variable is set, the output must be true
abbrev pub IsTrueGates : GateFormula → Type 0
IsTrueGates q = IsTrueFrom (pairs q.blocks) (OutputHolds q) []
