use Rattle.qdimacs.proofs.Cited.{state_at, row}
use Rattle.window_numbers.specs.Values.{numbers_of}
use Rattle.qbf_text.proofs.LeadingNumbers.{leads_in_turn}
use Rattle.qdimacs.specs.declared.states.State.TheVariants.{InClause}
use Rattle.qdimacs.proofs.buffered_numbers.take_clause.Goals as goal

pub returns-in-Ok-clause-leads : goal.returns-in-Ok-clause-leads
returns-in-Ok-clause-leads c =
    leads_in_turn row (state_at c.args.parts.now InClause) (state_at c.put_literals.new.parts InClause)
    (state_at c.take_literals.new.parts c.take_literals.result.0) (numbers_of c.args.values) c.args.from c.in-Ok.to c.take_literals.result.1
    c.in-Ok.ensures.leads c.take_literals.ensures.leads
