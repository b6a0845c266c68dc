-- The results for a caller in C of the winner's strategy, which is written as the text of a circuit.
use Rattle.std.specs.Prelude.{◌≡◌, ◌≢◌, ℕ, Bool, List, [], Some, IfOk, Result, Ok, Err}
use Rattle.aiger.specs.Formats.{circuit_text}
use Rattle.qrp_rules.specs.declared.rules.Rules.{Rules}
use Rattle.trace_check.specs.declared.verified.Verified.{Verified}
use Rattle.qrp_check.specs.declared.verdict.Fault.{Fault}
use Rattle.qrp_check.specs.Checked.{IsChecked}
use Rattle.qrp_winner.specs.Strategies.{Follows, HasReason, IsOfWinner}
use Rattle.qrp_winner.specs.declared.fault.StrategyFault.{StrategyFault}
use Rattle.qrp_winner.specs.declared.fault.StrategyFault.TheVariants.{NoMemory}
use Rattle.qrp_winner.specs.declared.strategy.Strategy.{Strategy}
use Rattle.qrp_bytes.specs.declared.verdict.QrpVerdict.{QrpVerdict}
use Rattle.qrp_bytes.specs.Buffers.{IsWritten}
use Rattle.qrp_bytes.specs.Encoding.{IsEncoded, encoded_truth}
use Rattle.qrp_bytes.specs.Texts.{lent_bytes}

-- The verdict on the bytes, and the strategy that follows it, by which the winner wins; a circuit that is not made has a reason. Out of memory
-- is a fault of the check.
pub record IsFound (rules : Rules) (formula trace : List ℕ) (verdict : Result Verified Fault) (found : Result Strategy StrategyFault)
    : Type 0 where
  pub checked : IsChecked rules (lent_bytes formula) (lent_bytes trace) verdict
  pub follows : Follows verdict found
  pub reason : HasReason (Some formula) (Some trace) found
  pub wins : IfOk found (IsOfWinner formula trace)
  pub memory : found ≢ Err NoMemory

-- the text of a strategy's circuit; it is empty if there is none
abbrev pub strategy_text : (binary : Bool) → Result Strategy StrategyFault → List ℕ
strategy_text binary (Ok s) = circuit_text binary s.circuit
strategy_text binary (Err e) = []

-- The struct has the truth that a proof shows, or the fault as for a check. The buffer holds the text of a circuit by which the winner wins;
-- if none is made, the text is empty.
pub record StrategyReturns (rules : Rules) (binary : Bool) (formula trace old new : List ℕ) (out : QrpVerdict) (returned : ℕ) : Type 0 where
  pub verdict : Result Verified Fault
  pub found : Result Strategy StrategyFault
  pub is : IsFound rules formula trace verdict found
  pub encoded : IsEncoded verdict out
  pub written : IsWritten (strategy_text binary found) old new returned

-- The struct says that the formula is verified, and the buffer holds the text of a circuit by which the winner wins, if it has room for it.
abbrev pub HoldsWinner : (binary : Bool) → List ℕ → List ℕ → List ℕ → List ℕ → QrpVerdict → ℕ → Type 0
HoldsWinner binary formula trace old new out returned = (s : Strategy) × IsOfWinner formula trace s × (out ≡ encoded_truth s.truth)
    × IsWritten (circuit_text binary s.circuit) old new returned
