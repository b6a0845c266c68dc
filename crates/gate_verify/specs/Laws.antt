-- A proof of the clauses shows the truth of the gates.
use Rattle.std.specs.Prelude.{◌↔◌, ℕ, IsTrue, List}
use Rattle.qbf_core.specs.Qbf.{Qbf}
use Rattle.trace_items.specs.Derivations.{Derivation}
use Rattle.qrp_rules.specs.declared.rules.Rules.{Rules}
use Rattle.trace_check.specs.Proof.{IsProof, is_sat}
use Rattle.qbf_gates.specs.Gates.{GateFormula, IsWellFormed, names}
use Rattle.qbf_gates.specs.Truth.{IsTrueGates}
use Rattle.gate_clauses.specs.Begun.{greatest}
use Rattle.gate_clauses.specs.Encoding.{encoding}

-- the formula in clauses of a formula of gates; its header names the greatest variable
abbrev pub in_clauses : GateFormula → Qbf
in_clauses q = encoding (greatest (names q)) q

-- a trace that proves its result of the clauses states the truth of the formula of gates
abbrev pub ProofsShowTheGates : Type 0
ProofsShowTheGates = (rules : Rules) (q : GateFormula) (d : Derivation) → IsWellFormed q → IsProof rules (in_clauses q) d
    → IsTrue (is_sat d.result) ↔ IsTrueGates q
