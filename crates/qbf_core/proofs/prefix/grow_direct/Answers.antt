use Rattle.qbf_core.proofs.Cited.{arith, common_steps}
use Rattle.qbf_core.proofs.TableLaws.{index_grown}
use Rattle.qbf_core.proofs.prefix.grow_direct.Goals as goal

pub returns-in_err-push : goal.returns-in_err-push
returns-in_err-push c = rw c.push.ensures.items (λ es index.
    index_grown c.loop-next.direct.items c.args.far.now.entries _ c.entry_of_number.result
    (rw (← c.loop-next.invariant.next) c.entry_of_number.ensures) es (c.loop-next.invariant.index es index))

pub loop-next-preserved : goal.loop-next-preserved
loop-next-preserved c = record {
  next = grind (arith, common_steps, c.loop-next.invariant.next);
  index = rw c.push.ensures.items (λ es index.
      index_grown c.loop-next.direct.items c.args.far.now.entries _ c.entry_of_number.result
      (rw (← c.loop-next.invariant.next) c.entry_of_number.ensures) es (c.loop-next.invariant.index es index));
}
