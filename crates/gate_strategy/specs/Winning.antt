-- Circuits that win a formula of gates as a game of two players.
use Rattle.std.specs.Prelude.{List, length, take}
use Rattle.qbf_core.specs.declared.quantifier.Quantifier.{Quantifier}
use Rattle.qbf_core.specs.declared.quantifier.Quantifier.TheVariants.{All, Exists}
use Rattle.qbf_core.specs.Literal.{Literal}
use Rattle.qbf_core.specs.Blocks.{pairs}
use Rattle.aiger.specs.Circuits.{Circuit}
use Rattle.qbf_strategy.specs.Winning.{Wins, variables_of}
use Rattle.qbf_gates.specs.Gates.{GateFormula}
use Rattle.qbf_gates.specs.Truth.{OutputHolds}
use Rattle.aiger.specs.Cutting.{with_inputs}

-- The player of a quantifier has won if these literals of variables are set in the end: with the values of the gates, the output is false
-- for the universal player, and true for the existential player. No player sets a gate.
abbrev pub IsWon : Quantifier → GateFormula → List Literal → Type 0
IsWon All q s = OutputHolds q s → ⊥
IsWon Exists q s = OutputHolds q s

-- a formula of gates is won as a formula in clauses is
abbrev pub IsWinningCircuit : Quantifier → GateFormula → Circuit → Type 0
IsWinningCircuit mine q c = Wins mine q.blocks (IsWon mine q) c

-- the circuit without gates: the outputs of the existential variables alone, or the inputs of them alone
abbrev pub without_gates : Quantifier → GateFormula → Circuit → Circuit
without_gates Exists q c = record c { outputs = take (length (variables_of Exists (pairs q.blocks))) c.outputs }
without_gates All q c = with_inputs (length (variables_of Exists (pairs q.blocks))) c
