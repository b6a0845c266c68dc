use Rattle.qdimacs.proofs.WrittenParts.{text_parts}
use Rattle.qdimacs.proofs.writing.write_formula_up_to.Goals as goal

pub returns-clause-put : goal.returns-clause-put
returns-clause-put g c =
    rw (text_parts (record c.args.formula.now { max_var = c.args.max_var }))
    (rw (c.header_line-header.ensures, c.prefix.ensures.value) at c.put.ensures)
