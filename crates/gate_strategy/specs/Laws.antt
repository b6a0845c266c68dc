-- Who wins the formula in clauses wins the formula of gates.
use Rattle.std.specs.Prelude.{ℕ, Bool}
use Rattle.qbf_core.specs.declared.quantifier.Quantifier.{Quantifier}
use Rattle.qbf_core.specs.declared.quantifier.Quantifier.TheVariants.{All, Exists}
use Rattle.qbf_core.specs.Blocks.{pairs}
use Rattle.aiger.specs.Circuits.{Circuit, IsRun}
use Rattle.qbf_strategy.specs.Winning as clauses
use Rattle.qbf_strategy.specs.Winning.{set_in_run, variables_of}
use Rattle.qbf_gates.specs.Gates.{IsWellFormed, GateFormula}
use Rattle.gate_clauses.specs.Encoding.{encoding}
use Rattle.gate_strategy.specs.Winning.{IsWinningCircuit, IsWon, without_gates}

-- A circuit by which a player wins the formula in clauses wins the formula of gates for the same player. Gates are computed and not chosen:
-- the existential player's outputs of gates are cut off, and the universal player's inputs of gates are always false.
abbrev pub WinnersWinTheGates : Type 0
WinnersWinTheGates = (mine : Quantifier) (q : GateFormula) (top : ℕ) (c : Circuit) → IsWellFormed q
    → clauses.IsWinningCircuit mine (encoding top q) c → IsWinningCircuit mine q (without_gates mine q c)

-- In each run of a circuit by which the universal player wins the formula in clauses, whatever its inputs of gates are, the output is false,
-- if gates are computed from the bound variables.
abbrev pub InputsOfGatesAreFree : Type 0
InputsOfGatesAreFree = (q : GateFormula) (top : ℕ) (c : Circuit) → IsWellFormed q → clauses.IsWinningCircuit All (encoding top q) c
    → (run : ℕ → Bool) → IsRun c run
    → IsWon All q (set_in_run (record c { inputs = variables_of Exists (pairs q.blocks) }) run)
