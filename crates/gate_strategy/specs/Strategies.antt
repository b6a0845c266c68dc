-- The headline, over the bytes of a formula of gates and of a trace: if they are verified, the circuit that is returned is a strategy of
-- the winner, who is the existential player of a true formula, and the universal player of a false one. Else the refusal is that of the
-- check.
use Rattle.std.specs.Prelude.{◌≡◌, ◌⊎◌, ℕ, Bool, List, None, Some, Option, Result, Ok, Err, IfOk, IfSome}
use Rattle.std.specs.Result.{IsErrOf}
use Rattle.trace_items.specs.Derivations.{Derivation}
use Rattle.qcir.specs.Reading.{Question}
use Rattle.qrp_rules.specs.declared.rules.Rules.{Rules}
use Rattle.qrp_check.specs.Checked.{SourceCall}
use Rattle.trace_check.specs.Proof.{is_sat}
use Rattle.proof_decisions.specs.Sizes.{IsTooLong}
use Rattle.qrp_winner.specs.Strategies.{winner}
use Rattle.qrp_winner.specs.declared.fault.StrategyFault.{StrategyFault}
use Rattle.qrp_winner.specs.declared.fault.StrategyFault.TheVariants as clauses
use Rattle.qrp_winner.specs.declared.strategy.Strategy.{Strategy}
use Rattle.gate_verify.specs.Checked.{IsChecked, StopsOnceRead}
use Rattle.gate_verify.specs.Headline.{Spell}
use Rattle.gate_verify.specs.Laws.{in_clauses}
use Rattle.gate_verify.specs.declared.fault.Unverified.{Unverified}
use Rattle.gate_verify.specs.declared.fault.Unverified.TheVariants.{Proof}
use Rattle.gate_strategy.specs.Winning.{IsWinningCircuit}
use Rattle.gate_strategy.specs.declared.fault.GateStrategyFault.{GateStrategyFault}
use Rattle.gate_strategy.specs.declared.fault.GateStrategyFault.TheVariants.{Check, NoCircuit, NoMemory}

-- The bytes spell this formula of gates and a trace, the truth is that which the trace shows, and the circuit is one by which the winner
-- wins the formula of gates.
abbrev pub IsOfWinner : List ℕ → List ℕ → Question × Strategy → Type 0
IsOfWinner question trace r = (d : Derivation) × Spell question trace r.0 d × (r.1.truth ≡ is_sat d.result)
    × IsWinningCircuit (winner r.1.truth) r.0.formula r.1.circuit

-- the bytes spell a formula of gates and a trace, and AIGER may not have enough numbers for a circuit that wins the clauses
abbrev pub AreTooLong : List ℕ → List ℕ → Type 0
AreTooLong question trace = (q : Question) × (d : Derivation) × Spell question trace q d × IsTooLong (in_clauses q.formula) d

-- the fault of a strategy for the clauses, as one for the formula of gates
abbrev pub fault_of : StrategyFault → GateStrategyFault
fault_of (clauses.Check found) = Check (Proof found)
fault_of clauses.NoMemory = NoMemory
fault_of clauses.NoCircuit = NoCircuit

-- The result that follows a verdict: its truth with a circuit, or no circuit is made; a refusal stays.
abbrev pub Follows : Result Bool Unverified → Result (Question × Strategy) GateStrategyFault → Type 0
Follows (Ok truth) (Ok r) = r.1.truth ≡ truth
Follows (Ok truth) (Err e) = (e ≡ NoMemory) ⊎ (e ≡ NoCircuit)
Follows (Err fault) result = result ≡ Err (Check fault)

-- a circuit that is not made has a reason, if the bytes of both texts are known
abbrev pub HasReason : Option (List ℕ) → Option (List ℕ) → Result (Question × Strategy) GateStrategyFault → Type 0
HasReason question trace result = IfSome question (λ a. IfSome trace (λ b. IsErrOf result NoCircuit → AreTooLong a b))

-- the circuit of a result is a strategy by which the winner wins, if the bytes of both texts are known
abbrev pub HasWinner : Option (List ℕ) → Option (List ℕ) → Result (Question × Strategy) GateStrategyFault → Type 0
HasWinner question trace result = IfSome question (λ a. IfSome trace (λ b. IfOk result (IsOfWinner a b)))

-- The result follows a verdict on both texts, and its circuit wins. Once a trace was read, nothing is taken past its result word but what
-- is held.
abbrev pub IsOfVerdict : Rules → SourceCall → SourceCall → Result (Question × Strategy) GateStrategyFault → Type 0
IsOfVerdict rules question trace result = (verdict : Result Bool Unverified) × IsChecked rules question trace verdict
    × StopsOnceRead trace.bytes trace.rest verdict × Follows verdict result × HasReason question.bytes trace.bytes result
    × HasWinner question.bytes trace.bytes result

-- a text in memory, as a source that gave its bytes
abbrev pub text_call : List ℕ → SourceCall
text_call text = record { bytes = Some text; rest = None; before = 0; after = 0; unpulled = Unit {0} }
