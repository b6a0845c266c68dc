-- The lines with which the program ends before its job begins, and the statuses.
use Rattle.std.specs.Prelude.{ℕ, List, codes}
use Rattle.qrp_report.specs.Lines.{line}
use Rattle.qrp_program.specs.declared.start.Start.{Start}
use Rattle.qrp_program.specs.declared.start.Start.TheVariants.{Usage, NoFormula, NoTrace, NoMemory}

-- the line with which the program ends before its job begins
abbrev pub start_line : Start → List ℕ
start_line Usage = line (codes "USAGE")
start_line NoFormula = line (codes "DEVICE formula")
start_line NoTrace = line (codes "DEVICE trace")
start_line NoMemory = line (codes "NO MEMORY")

-- the status with which it ends then
abbrev pub start_status : Start → ℕ
start_status Usage = 5
start_status NoFormula = 3
start_status NoTrace = 3
start_status NoMemory = 4
