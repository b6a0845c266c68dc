use Rattle.std.proofs.Common.{rules}
use Rattle.aiger.proofs.TrimmedGates.{same_itself, some_has, trimmed_by}
use Rattle.aiger.proofs.trimming.trimmed.Goals as goal

pub returns-in-Some : goal.returns-in-Some
returns-in-Some c =
    trimmed_by c.args.circuit _ c.in_ok-trimming.trimming.first c.in_ok-trimming.trimming.wires.items c.deref-2.result.now
    c.in_ok-trimming.ensures.1 (search rules) (search rules) c.in_ok-trimming.ensures.0
    (some_has _ c.in_ok-outputs.field-0 c.in-Some.outputs c.in-Some.is c.in_ok-outputs.ensures)

pub returns-in-None : goal.returns-in-None
returns-in-None c = same_itself c.args.circuit c.requires
