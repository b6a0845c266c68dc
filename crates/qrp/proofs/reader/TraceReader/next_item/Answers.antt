use Rattle.qrp.proofs.Cited.{refl, rules}
use Rattle.qrp.proofs.ItemStops.{stands_next}
use Rattle.qrp.specs.NextItem.{items_left}
use Rattle.qrp.proofs.RowsReadTheItem.{left_next}
use Rattle.qrp.proofs.reader.TraceReader.next_item.Goals as goal

pub returns-in-HasResult-clause-gives : goal.returns-in-HasResult-clause-gives
unfolding items_left
returns-in-HasResult-clause-gives g c = rw (← c.self.view_is, c.in-HasResult.is) (refl, refl)

pub returns-in-HasFault-clause-gives : goal.returns-in-HasFault-clause-gives
unfolding items_left
returns-in-HasFault-clause-gives g c = rw (← c.self.view_is, c.in-HasFault.is) (search rules)

pub returns-in-AtHeader-clause-gives : goal.returns-in-AtHeader-clause-gives
unfolding items_left
returns-in-AtHeader-clause-gives g c = rw (
  ← c.self.view_is,
  c.stage_after-self-inside.ensures,
  left_next c.self.inside.stage c.self.inside.grammar _ c.in-AtHeader.is c.self.invariant.0,
) c.read_item-answer.ensures.reads.gives

pub returns-in-AtHeader-clause-stops : goal.returns-in-AtHeader-clause-stops
returns-in-AtHeader-clause-stops g c _ = search (rules, stands_next)
