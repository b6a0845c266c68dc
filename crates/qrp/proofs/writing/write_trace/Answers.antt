use Rattle.qrp.proofs.WrittenParts.{text_parts}
use Rattle.qrp.proofs.writing.write_trace.Goals as goal

pub returns-clause-put : goal.returns-clause-put
returns-clause-put g c = rw (text_parts c.args.trace.now)
    (rw (c.header-vars.ensures.value, c.sets.ensures, c.result.ensures.value) at c.put.ensures)
