-- The decisions of a proof win, and so does a circuit that computes them.
use Rattle.std.specs.Prelude.{ℕ, Bool, List, []}
use Rattle.qbf_core.specs.Blocks.{Block, pairs}
use Rattle.qbf_core.specs.Qbf.{Qbf, IsClosed}
use Rattle.qbf_core.specs.Rules.{reduced_quantifier}
use Rattle.aiger.specs.Circuits.{Circuit}
use Rattle.qbf_strategy.specs.Computing.{Computes, SeesBefore}
use Rattle.qbf_strategy.specs.Decisions.{Decision, play_by}
use Rattle.qbf_strategy.specs.Winning.{IsWinningCircuit, IsWon}
use Rattle.trace_items.specs.Inferences.{Inference}
use Rattle.trace_items.specs.declared.item.Outcome.{Outcome}
use Rattle.core_walk.specs.Core.{ListsCore}
use Rattle.trace_check.specs.Proof.{side_of, Proves}
use Rattle.qrp_rules.specs.declared.rules.Rules.{Rules}
use Rattle.proof_decisions.specs.ProofDecisions.{AreDecisionsOf}

-- a player who keeps to the decisions of a proof wins, whatever the other player does, and whatever value a variable has on which nothing is
-- decided
abbrev pub DecisionsWin : Type 0
DecisionsWin = (rules : Rules) (f : Qbf) (sets : List Block) (steps : List Inference) (result : Outcome) (core : List ℕ) (ds : List Decision)
    → IsClosed f → Proves rules f sets steps result → ListsCore steps core → AreDecisionsOf (side_of result) f steps core ds
    → (otherwise values : ℕ → Bool)
    → IsWon (reduced_quantifier (side_of result)) f
    (play_by (reduced_quantifier (side_of result)) (pairs f.blocks) otherwise ds values [])

-- each decision of a proof sees variables that stand before those that it sets, in the order of the prefix
abbrev pub DecisionsSeeBefore : Type 0
DecisionsSeeBefore = (rules : Rules) (f : Qbf) (sets : List Block) (steps : List Inference) (result : Outcome) (core : List ℕ)
    (ds : List Decision) → IsClosed f → Proves rules f sets steps result → ListsCore steps core
    → AreDecisionsOf (side_of result) f steps core ds → SeesBefore (pairs f.blocks) ds

-- a circuit that computes the decisions of a proof is a strategy by which the player wins
abbrev pub CircuitsWin : Type 0
CircuitsWin = (rules : Rules) (f : Qbf) (sets : List Block) (steps : List Inference) (result : Outcome) (core : List ℕ) (ds : List Decision)
    (c : Circuit) → IsClosed f → Proves rules f sets steps result → ListsCore steps core → AreDecisionsOf (side_of result) f steps core ds
    → Computes (reduced_quantifier (side_of result)) (pairs f.blocks) ds c → IsWinningCircuit (reduced_quantifier (side_of result)) f c
