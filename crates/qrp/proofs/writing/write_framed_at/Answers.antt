use Rattle.std.proofs.Common.{refl}
use Rattle.qrp.proofs.WrittenParts.{text_parts_at}
use Rattle.qrp.specs.Framed.{framed}
use Rattle.qrp.proofs.writing.write_framed_at.Goals as goal

pub returns : goal.returns
returns g c =
    let whole = framed c.args.frame c.args.trace.now.steps in
    rw (text_parts_at whole c.args.positions.now whole.header c.requires refl) (rw c.framed_header-header.ensures at c.put.ensures)
