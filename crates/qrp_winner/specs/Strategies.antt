-- The headline, over the bytes of a formula and a trace: if they are verified, the circuit that is returned is a strategy of the winner, which
-- is the existential player of a true formula, and the universal player of a false one. Else the refusal is that of the check.
use Rattle.std.specs.Prelude.{◌≡◌, ◌⊎◌, ℕ, Bool, true, false, List, Option, Result, Ok, Err, IfOk, IfSome}
use Rattle.std.specs.Result.{IsErrOf}
use Rattle.qbf_core.specs.declared.quantifier.Quantifier.{Quantifier}
use Rattle.qbf_core.specs.declared.quantifier.Quantifier.TheVariants.{All, Exists}
use Rattle.qbf_core.specs.Qbf.{Qbf}
use Rattle.qbf_strategy.specs.Winning.{IsWinningCircuit}
use Rattle.trace_items.specs.Derivations.{Derivation}
use Rattle.qrp_check.specs.Checked.{SourceCall, IsChecked, IsCheckedOf, StopsOnceRead, WasReadFrom}
use Rattle.qrp_check.specs.Headline.{Spell}
use Rattle.trace_check.specs.Proof.{is_sat}
use Rattle.qrp_check.specs.declared.verdict.Fault.{Fault}
use Rattle.trace_check.specs.declared.verified.Verified.{Verified}
use Rattle.qrp_rules.specs.declared.rules.Rules.{Rules}
use Rattle.proof_decisions.specs.Sizes.{IsTooLong}
use Rattle.qrp_winner.specs.declared.fault.StrategyFault.{StrategyFault}
use Rattle.qrp_winner.specs.declared.fault.StrategyFault.TheVariants.{Check, NoCircuit, NoMemory}
use Rattle.qrp_winner.specs.declared.strategy.Strategy.{Strategy}

-- the player who wins, by the truth of the formula
abbrev pub winner : Bool → Quantifier
winner true = Exists
winner false = All

-- The bytes spell a formula and a trace, the truth is that which the trace shows, and the circuit is a strategy by which the winner wins.
abbrev pub IsOfWinner : List ℕ → List ℕ → Strategy → Type 0
IsOfWinner formula trace s = (f : Qbf) × (d : Derivation) × Spell formula trace f d × (s.truth ≡ is_sat d.result)
    × IsWinningCircuit (winner s.truth) f s.circuit

-- the bytes spell a formula and a trace, and AIGER may not have enough numbers for the gates
abbrev pub AreTooLong : List ℕ → List ℕ → Type 0
AreTooLong formula trace = (f : Qbf) × (d : Derivation) × Spell formula trace f d × IsTooLong f d

-- The result that follows a verdict: its truth with a circuit, or no circuit is made; a refusal stays.
abbrev pub Follows : Result Verified Fault → Result Strategy StrategyFault → Type 0
Follows (Ok v) (Ok s) = s.truth ≡ v.truth
Follows (Ok v) (Err e) = (e ≡ NoMemory) ⊎ (e ≡ NoCircuit)
Follows (Err fault) result = result ≡ Err (Check fault)

-- a circuit that is not made has a reason, if the bytes of both texts are known
abbrev pub HasReason : Option (List ℕ) → Option (List ℕ) → Result Strategy StrategyFault → Type 0
HasReason formula trace result = IfSome formula (λ a. IfSome trace (λ b. IsErrOf result NoCircuit → AreTooLong a b))

-- the circuit of a result is a strategy by which the winner wins, if the bytes of both texts are known
abbrev pub HasWinner : Option (List ℕ) → Option (List ℕ) → Result Strategy StrategyFault → Type 0
HasWinner formula trace result = IfSome formula (λ a. IfSome trace (λ b. IfOk result (IsOfWinner a b)))

-- The result follows a verdict on both texts, and its circuit wins. Once a trace was read, nothing is taken past its result word but what is
-- held.
abbrev pub IsOfVerdict : Rules → SourceCall → SourceCall → Result Strategy StrategyFault → Type 0
IsOfVerdict rules formula trace result = (verdict : Result Verified Fault) × IsChecked rules formula trace verdict
    × StopsOnceRead trace.bytes trace.rest verdict × Follows verdict result × HasReason formula.bytes trace.bytes result
    × HasWinner formula.bytes trace.bytes result

-- the result for a formula that was read
pub record IsStrategyOf (rules : Rules) (f : Qbf) (trace : SourceCall) (result : Result Strategy StrategyFault) : Type 0 where
  pub verdict : Result Verified Fault
  pub checked : IsCheckedOf rules f trace verdict
  pub stops : StopsOnceRead trace.bytes trace.rest verdict
  pub follows : Follows verdict result
  pub wins : IfOk result (λ s. (d : Derivation) × WasReadFrom trace.bytes d × (s.truth ≡ is_sat d.result)
      × IsWinningCircuit (winner s.truth) f s.circuit)
  pub long : IsErrOf result NoCircuit → (d : Derivation) × WasReadFrom trace.bytes d × IsTooLong f d
