use Rattle.qrp_rules.proofs.Cited.{clean_from_same}
use Rattle.qrp_rules.proofs.MembersDecide.{same_self}
use Rattle.written_steps.proofs.written_resolvent.surely_clean_without.Goals as goal

pub returns-then-surely_ordered_without : goal.returns-then-surely_ordered_without
returns-then-surely_ordered_without c = λ t. (
  clean_from_same c.args.lits.now c.args.lits.now (c.surely_ordered_without.ensures.ordered c.if-surely_ordered_without.true) (same_self c.args.lits.now),
  c.surely_ordered_without.ensures.apart c.if-surely_ordered_without.true,
)

pub returns : goal.returns
returns c = λ t. (c.surely_distinct.ensures.clean t, c.surely_distinct.ensures.apart t)
