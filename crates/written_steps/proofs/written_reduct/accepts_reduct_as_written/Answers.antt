use Rattle.qrp_rules.proofs.Cited.{rules, TakesOut}
use Rattle.written_steps.proofs.Merging.{rest_more, rest_within}
use Rattle.written_steps.proofs.written_reduct.accepts_reduct_as_written.Goals as goal

pub loop-lit-preserved : goal.loop-lit-preserved
loop-lit-preserved c =
    rest_more (λ m. TakesOut c.args.reducible m.var) c.args.from.now c.args.to.now c.loop-lit.lit-index c.loop-lit.in_to
    c.advance_if_equal-next.result c.lit-item.result
    c.loop-lit-test.true c.lit-item.is c.advance_if_equal-next.ensures
    (search rules)
    c.loop-lit.invariant

pub returns-clause-within : goal.returns-clause-within
returns-clause-within c = search (rules, rest_within)
