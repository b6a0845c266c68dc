use Rattle.qdimacs.proofs.Cited.{◌≡◌, ◌+◌, subst, refl, arith, leads_more, leads_further, state_at, row, row_to}
use Rattle.window_numbers.specs.Values.{numbers_of}
use Rattle.qbf_text.specs.TakenNumbers.{LeadsOver}
use Rattle.qdimacs.proofs.FormulaParts.{leads_on}
use Rattle.qdimacs.proofs.buffered_numbers.take_rest.Goals as goal

pub numbers-preserved : goal.numbers-preserved
numbers-preserved c =
    let here = state_at c.numbers.parts c.numbers.state in
    let read = subst (λ t. row here t ≡ row_to c.take_at.new.parts c.in-Ok.next) c.token.ensures c.in-Ok.ensures.row in
    record {
      leads = leads_more row _ here _ (numbers_of c.args.values) c.args.from c.numbers.i (leads_on here c.take_at.new.parts c.in-Ok.next _ refl read)
          c.numbers.invariant.leads;
      sound = c.in-Ok.ensures.sound;
      within = omega (arith, c.numbers-test.true);
    }

pub numbers-preserved-in-Ok-reached : goal.numbers-preserved-in-Ok-reached
numbers-preserved-in-Ok-reached c =
    let here = state_at c.numbers.parts c.numbers.state in
    let read = subst (λ t. row here t ≡ row_to c.take_at.new.parts c.in-Ok.next) c.token.ensures c.in-Ok.ensures.row in
    let one = leads_more row _ here _ (numbers_of c.args.values) c.args.from c.numbers.i (leads_on here c.take_at.new.parts c.in-Ok.next _ refl read)
    c.numbers.invariant.leads in
    let clause = subst (λ s. LeadsOver row (state_at c.args.parts.now c.args.here) (state_at c.take_at.new.parts s) (numbers_of c.args.values)
    c.args.from (c.numbers.i + 1)) c.in-InClause.is one in
    let reached = rw c.in-Ok-reached.is at c.take_clause-next.ensures in
    record {
      leads = leads_further row _ _ _ (numbers_of c.args.values) c.args.from (c.numbers.i + 1) c.in-Ok-reached.to clause reached.leads;
      sound = reached.sound;
      within = reached.within;
    }
