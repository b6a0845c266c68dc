use Rattle.qbf_text.proofs.Cited.{subst}
use Rattle.qrp.proofs.Cited.{arith, leads_more, state_at, sym, ◌∙◌, Ok}
use Rattle.window_numbers.specs.Values.{numbers_of}
use Rattle.qrp.specs.Reading.{row}
use Rattle.qrp.specs.States.{Moves}
use Rattle.qrp.proofs.BufferedNumbers.{goes_on}
use Rattle.qrp.proofs.buffered_numbers.take_one_by_one.Goals as goal

pub numbers-preserved : goal.numbers-preserved
numbers-preserved c =
    let was = c.numbers.invariant in
    let here = state_at c.numbers.lists c.numbers.state in
    let read = subst (λ t. Moves (row here t) c.take_at.new.lists (Ok c.in-Ok.next)) c.token.ensures c.in-Ok.ensures.row in
    let stays = c.in-Ok.ensures.sound.0 in
    record {
      leads = leads_more row _ here _ (numbers_of c.args.values) c.args.from c.numbers.i
          (goes_on _ c.take_at.new.lists c.in-Ok.next (sym c.completed.ensures ∙ c.in-None.is) read) was.leads;
      sound = (record { index = stays.index ∙ was.sound.0.index; lits = stays.lits ∙ was.sound.0.lits }, c.in-Ok.ensures.sound.1);
      within = omega (arith, c.numbers-test.true);
    }
