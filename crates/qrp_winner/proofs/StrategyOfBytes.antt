-- From the strategy for a formula that was read to the headline over the bytes.
use Rattle.trace_check.proofs.Cited.{◌≡◌, List, Option, Some, None, ℕ, Result, Ok, Err, IfOk, IfSome, Qbf, Derivation}
use Rattle.qbf_strategy.specs.Winning.{IsWinningCircuit}
use Rattle.qdimacs.specs.Reading as formulas
use Rattle.qrp_check.proofs.HeadlineOfVerdict.{formula_spelled, trace_spelled}
use Rattle.qrp_check.specs.Checked.{WasReadFrom}
use Rattle.trace_check.specs.Proof.{is_sat}
use Rattle.qrp_check.specs.declared.verdict.Fault.{Fault}
use Rattle.std.proofs.Common.{IsErrOf}
use Rattle.proof_decisions.specs.Sizes.{IsTooLong}
use Rattle.qrp_winner.specs.Strategies.{HasReason, HasWinner, winner}
use Rattle.qrp_winner.specs.declared.fault.StrategyFault.{StrategyFault}
use Rattle.qrp_winner.specs.declared.fault.StrategyFault.TheVariants.{Check, NoCircuit}
use Rattle.qrp_winner.specs.declared.strategy.Strategy.{Strategy}

pub of_winner : (formula trace : Option (List ℕ)) (f : Qbf) (result : Result Strategy StrategyFault)
    → IfSome (formulas.reads_bytes formula) (λ r. r ≡ Ok f)
    → IfOk result (λ s. (d : Derivation) × WasReadFrom trace d × (s.truth ≡ is_sat d.result) × IsWinningCircuit (winner s.truth) f s.circuit)
    → HasWinner formula trace result
of_winner None trace f result reads wins = tt
of_winner (Some a) None f result reads wins = tt
of_winner (Some a) (Some b) f (Err e) reads wins = tt
of_winner (Some a) (Some b) f (Ok s) reads (d, (formed, read), claim, wins) =
    (f, d, record { formula_spelled = formula_spelled a f reads; trace_spelled = trace_spelled b d read }, claim, wins)

pub are_too_long : (formula trace : Option (List ℕ)) (f : Qbf) (result : Result Strategy StrategyFault)
    → IfSome (formulas.reads_bytes formula) (λ r. r ≡ Ok f)
    → (IsErrOf result NoCircuit → (d : Derivation) × WasReadFrom trace d × IsTooLong f d)
    → HasReason formula trace result
are_too_long None trace f result reads long = tt
are_too_long (Some a) None f result reads long = tt
are_too_long (Some a) (Some b) f result reads long = λ is.
    let (d, (formed, read), too_long) = long is in
    (f, d, record { formula_spelled = formula_spelled a f reads; trace_spelled = trace_spelled b d read }, too_long)

pub not_too_long : (formula trace : Option (List ℕ)) (e : Fault) → HasReason formula trace (Err (Check e))
not_too_long None trace e = tt
not_too_long (Some a) None e = tt
not_too_long (Some a) (Some b) e = λ is. absurd (cc is)

pub no_winner : (formula trace : Option (List ℕ)) (e : Fault) → HasWinner formula trace (Err (Check e))
no_winner None trace e = tt
no_winner (Some a) None e = tt
no_winner (Some a) (Some b) e = tt
