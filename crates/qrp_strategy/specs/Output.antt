-- The report of a run: the text of a circuit, or a refusal.
use Rattle.std.specs.Prelude.{◌≡◌, ℕ, Bool, List, Result, Ok, Err}
use Rattle.std.specs.Io.KnownBytes.{Appends}
use Rattle.aiger.specs.Formats.{circuit_text}
use Rattle.circuit_cli.specs.Output.{no_circuit}
use Rattle.qbf_text.specs.declared.sink.Sink.{Ghosts}
use Rattle.qrp_check.specs.Checked.{SourceCall}
use Rattle.trace_check.specs.declared.fault.CheckFault.TheVariants.{C5}
use Rattle.qrp_check.specs.declared.verdict.Fault.TheVariants as fault
use Rattle.qrp_program.specs.Output.{Report, refusal, success}
use Rattle.qrp_program.specs.declared.stream.Stream.TheVariants.{Errors}
use Rattle.qrp_strategy.specs.declared.task.Task.{Task}
use Rattle.qrp_winner.specs.Strategies.{IsOfVerdict, IsOfWinner}
use Rattle.qrp_winner.specs.declared.fault.StrategyFault.{StrategyFault}
use Rattle.qrp_winner.specs.declared.fault.StrategyFault.TheVariants.{Check, NoCircuit, NoMemory}
use Rattle.qrp_winner.specs.declared.strategy.Strategy.{Strategy}

-- the text of the circuit, or why there is none; out of memory is reported as that of a check
abbrev pub strategy_report : (binary : Bool) → Result Strategy StrategyFault → Report
strategy_report binary (Ok s) = success (circuit_text binary s.circuit)
strategy_report binary (Err (Check e)) = refusal Errors e
strategy_report binary (Err NoMemory) = refusal Errors (fault.Check C5)
strategy_report binary (Err NoCircuit) = no_circuit

-- the report on two texts
abbrev pub IsOutput : Task → SourceCall → SourceCall → Report → Type 0
IsOutput task formula trace r =
    (result : Result Strategy StrategyFault) × IsOfVerdict task.rules formula trace result × (r ≡ strategy_report task.binary result)

-- the text of a circuit went out to a sink, and the circuit is a strategy of the winner
abbrev pub WritesWinner : {S : Type 0} → Ghosts S → S → S → (binary : Bool) → List ℕ → List ℕ → Type 0
WritesWinner sink old new binary formula trace =
    (s : Strategy) × IsOfWinner formula trace s × Appends (sink.written old) (sink.written new) (circuit_text binary s.circuit)
