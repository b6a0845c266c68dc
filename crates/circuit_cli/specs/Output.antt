-- The report that there is no circuit.
use Rattle.std.specs.Prelude.{codes}
use Rattle.qrp_program.specs.Output.{Report}
use Rattle.qrp_program.specs.declared.stream.Stream.TheVariants.{Errors}
use Rattle.qrp_report.specs.Lines.{line}

-- that no circuit was made, since AIGER has no numbers for so many gates
abbrev pub no_circuit : Report
no_circuit = record { stream = Errors; text = line (codes "NO CIRCUIT"); status = 4; failed = 3 }
