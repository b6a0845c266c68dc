use Rattle.std.proofs.Common.{sym}
use Rattle.gate_verify.proofs.clauses.clauses_of.Goals as goal

pub returns : goal.returns
returns c = c.formula_clauses.ensures c.args.question.now (sym c.formula.ensures)
