use Rattle.qrp_rules.proofs.Cited.{arith}
use Rattle.written_steps.proofs.WrittenSteps.{clean_all}
use Rattle.written_steps.proofs.seen.set_if_clean.Goals as goal

pub returns-then-begin-lits-clause-clean : goal.returns-then-begin-lits-clause-clean
returns-then-begin-lits-clause-clean c = λ _. clean_all c.args.lits.now c.stamp_clean-begin.result (omega (arith, c.if-begin-lits.true)) c.stamp_clean-begin.ensures.clean
