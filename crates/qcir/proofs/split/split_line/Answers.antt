use Rattle.std.proofs.Common.{◌∙◌, sym}
use Rattle.std.proofs.lemmas.List.{take_rest}
use Rattle.qcir.proofs.TextLines.{first_line, last_line}
use Rattle.qcir.proofs.split.split_line.Goals as goal

pub returns-in-None-clause-lines : goal.returns-in-None-clause-lines
returns-in-None-clause-lines c = last_line c.args.text.now (sym c.line_end.ensures ∙ c.in-None.is)

pub returns-in-Some-clause-lines : goal.returns-in-Some-clause-lines
returns-in-Some-clause-lines c = rw take_rest (first_line c.args.text.now c.in-Some.end (sym c.line_end.ensures ∙ c.in-Some.is))
