-- The formula in clauses is the question.
use Rattle.std.specs.Prelude.{◌≡◌, ◌↔◌, ℕ, List, [], ◌∷◌, ◌++◌}
use Rattle.qbf_core.specs.Blocks.{Block, IsPrefix, pairs, variables}
use Rattle.qbf_core.specs.Qbf.{IsClosed}
use Rattle.qbf_core.specs.Truth.{IsTrueFormula}
use Rattle.qbf_gates.specs.Gates.{IsWellFormed, GateFormula, names}
use Rattle.qbf_gates.specs.Truth.{IsTrueGates}
use Rattle.gate_clauses.specs.Begun.{greatest}
use Rattle.gate_clauses.specs.Encoding.{encoding, gate_clauses, gate_pairs}

-- a formula of gates is true exactly if its formula in clauses is
abbrev pub EncodingKeepsTheTruth : Type 0
EncodingKeepsTheTruth = (q : GateFormula) (top : ℕ) → IsWellFormed q → IsTrueGates q ↔ IsTrueFormula (encoding top q)

-- which is closed
abbrev pub EncodingIsClosed : Type 0
EncodingIsClosed = (q : GateFormula) (top : ℕ) → IsWellFormed q → IsClosed (encoding top q)

-- a prefix of its variables and gates, the clauses of these, and that of the output are the formula in clauses
abbrev pub StepsMakeTheEncoding : Type 0
StepsMakeTheEncoding = (q : GateFormula) (bs : List Block) → IsPrefix bs → pairs bs ≡ pairs q.blocks ++ gate_pairs q.gates
    → record {
      max_var = greatest (variables (pairs bs));
      blocks = bs;
      clauses = gate_clauses q.gates ++ (q.output ∷ []) ∷ [];
    } ≡ encoding (greatest (names q)) q
