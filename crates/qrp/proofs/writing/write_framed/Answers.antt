use Rattle.qrp.proofs.WrittenParts.{text_parts}
use Rattle.qrp.specs.Framed.{framed}
use Rattle.qrp.proofs.writing.write_framed.Goals as goal

pub returns-clause-put : goal.returns-clause-put
returns-clause-put g c = rw (text_parts (framed c.args.frame c.args.trace.now.steps)) (rw (c.framed_header-header.ensures, c.len.ensures.len) at c.put.ensures)
