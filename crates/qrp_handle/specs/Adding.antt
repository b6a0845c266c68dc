-- Why a variable, a clause or a step is not added.
use Rattle.std.specs.Prelude.{◌≡◌, ℕ, ℤ, true, ◌<◌, ◌≤◌, List, map, length, ⊤}
use Rattle.std.specs.List.{AllByRecursion}
use Rattle.qbf_core.specs.Blocks.{AreBound, IsBound}
use Rattle.qbf_core.specs.Qbf.{Qbf}
use Rattle.trace_items.specs.Inferences.{Inference, IsNumber, numbers}
use Rattle.step_index.specs.Numbers.{is_used}
use Rattle.qbf_core.specs.WrittenLiterals.{IsWritten, literal_of}
use Rattle.qrp_handle.specs.declared.fault.AddFault.{AddFault}
use Rattle.qrp_handle.specs.declared.fault.AddFault.TheVariants.{NoMemory, Range, Bound, Unbound, Full, Used, Many}

-- this fault of a variable stands; a failed allocation is always possible
abbrev pub IsVariableFault : Qbf → ℕ → AddFault → Type 0
IsVariableFault f v NoMemory = ⊤
IsVariableFault f v Range = 1 ≤ v → v ≤ f.max_var → ⊥
IsVariableFault f v Bound = IsBound f.blocks v
IsVariableFault f v Unbound = ⊥
IsVariableFault f v Full = ⊥
IsVariableFault f v Used = ⊥
IsVariableFault f v Many = ⊥

-- this fault of a clause that is written so stands; a failed allocation is always possible
abbrev pub IsClauseFault : Qbf → List ℤ → AddFault → Type 0
IsClauseFault f written NoMemory = ⊤
IsClauseFault f written Range = AllByRecursion (IsWritten 2147483647) written → ⊥
IsClauseFault f written Bound = ⊥
IsClauseFault f written Unbound = AreBound f.blocks (map literal_of written) → ⊥
IsClauseFault f written Full = 2147483647 ≤ length f.clauses
IsClauseFault f written Used = ⊥
IsClauseFault f written Many = ⊥

-- this fault of a step that is written so stands
abbrev pub IsStepFault : List Inference → ℕ → List ℤ → List ℕ → AddFault → Type 0
IsStepFault steps number written ants NoMemory = ⊤
IsStepFault steps number written ants Range = IsNumber number → AllByRecursion (IsWritten 2147483647) written → AllByRecursion IsNumber ants → ⊥
IsStepFault steps number written ants Bound = ⊥
IsStepFault steps number written ants Unbound = ⊥
IsStepFault steps number written ants Full = ⊥
IsStepFault steps number written ants Used = is_used number (numbers steps) ≡ true
IsStepFault steps number written ants Many = 2 < length ants

-- this fault of literals that are written so stands
abbrev pub IsReadFault : List ℤ → AddFault → Type 0
IsReadFault written NoMemory = ⊤
IsReadFault written Range = AllByRecursion (IsWritten 2147483647) written → ⊥
IsReadFault written Bound = ⊥
IsReadFault written Unbound = ⊥
IsReadFault written Full = ⊥
IsReadFault written Used = ⊥
IsReadFault written Many = ⊥
