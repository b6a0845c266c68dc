use Rattle.std.proofs.Common.{rules}
use Rattle.qrp_rules.proofs.Reducing.{reducible_after}
use Rattle.qrp_rules.proofs.blocks.reducible_in.Goals as goal

pub returns : goal.returns
returns c = search (rules, reducible_after, c.args.reduced, c.other_quantifier.ensures, c.innermost_reach.ensures)
