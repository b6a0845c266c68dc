use Rattle.qrp_rules.proofs.Cited.{clean_from_same}
use Rattle.qrp_rules.proofs.MembersDecide.{same_self}
use Rattle.written_steps.proofs.seen.surely_clean.Goals as goal

pub returns-then-is_ordered : goal.returns-then-is_ordered
returns-then-is_ordered c = λ _. clean_from_same c.args.lits.now c.args.lits.now (c.is_ordered.ensures.0 c.if-is_ordered.true) (same_self c.args.lits.now)
