-- The formula and the trace that are written of what was handed over.
use Rattle.std.specs.Prelude.{ℕ, max, List, [], ◌∷◌}
use Rattle.qbf_core.specs.Blocks.{pairs, variables}
use Rattle.qbf_core.specs.Qbf.{Qbf}
use Rattle.trace_items.specs.Derivations.{Derivation}
use Rattle.qrp.specs.Framed.{framed}
use Rattle.trace_items.specs.Inferences.{Inference}
use Rattle.trace_items.specs.declared.item.Outcome.{Outcome}

-- the greatest of these numbers, or 0
abbrev pub greatest : List ℕ → ℕ
greatest [] = 0
greatest (n ∷ ns) = max n (greatest ns)

-- the formula; its header names the greatest variable that is bound
abbrev pub formula_written : Qbf → Qbf
formula_written f = record f { max_var = greatest (variables (pairs f.blocks)) }

-- the steps as a trace with this result and no sets; its header has the same number
abbrev pub trace_written : Qbf → List Inference → Outcome → Derivation
trace_written f steps result = framed (record { vars = greatest (variables (pairs f.blocks)); result = result }) steps
