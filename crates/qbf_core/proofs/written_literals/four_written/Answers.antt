use Rattle.qbf_core.proofs.Cited.{rules}
use Rattle.qbf_core.proofs.WrittenLiterals.{four_at}
use Rattle.qbf_core.proofs.written_literals.four_written.Goals as goal

pub returns-then-is_written-clause-literals : goal.returns-then-is_written-clause-literals
returns-then-is_written-clause-literals c = search (rules, four_at)

pub returns-then-is_written-clause-written : goal.returns-then-is_written-clause-written
returns-then-is_written-clause-written c = search (rules, four_at)
