use Rattle.qrp.proofs.Cited.{AllByRecursion-push, arith}
use Rattle.qbf_core.specs.Blocks.{IsVariable}
use Rattle.qrp.proofs.BufferedNumbers.{member_more}
use Rattle.qrp.proofs.buffered_numbers.put_members.Goals as goal

pub members-preserved : goal.members-preserved
members-preserved c =
    let i = c.members.invariant in
    let read = rw (c.in-Ok-Some.field-0-is, c.token.ensures) at c.in-Ok-Some.ensures in
    record {
      leads = rw c.in-Ok.ensures.items (member_more _ _ _ _ _ _ c.in-Ok-Some.var read.says i.leads);
      sound = (
        record { index = i.sound.0.index; lits = i.sound.0.lits },
        (
          i.sound.1.0,
          rw c.in-Ok.ensures.items
              (AllByRecursion-push IsVariable c.members.lists.vars.items c.in-Ok-Some.var i.sound.1.1 read.range),
        ),
      );
      within = omega (arith, c.members-test.true);
    }
