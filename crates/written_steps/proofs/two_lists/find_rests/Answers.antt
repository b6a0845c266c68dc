use Rattle.qrp_rules.proofs.Cited.{◌+◌, ◌∙◌, sym, lit_test}
use Rattle.std.proofs.lemmas.List.{take_rest}
use Rattle.written_steps.proofs.WrittenSteps.{resolved_at, resolved_after}
use Rattle.written_steps.proofs.two_lists.find_rests.Goals as goal

pub returns-then-eq : goal.returns-then-eq
returns-then-eq c =
    resolved_at c.args.a.now c.args.b.now c.args.to.now _ _ _ _ _ c.merge_prefix-before.result.a c.merge_prefix-before.result.b
    c.merge_prefix-before.result.to c.in_ok-pivot.field-0.now c.in_ok-opposite.field-0.now
    c.in_ok-pivot.ensures.lookup.3.0 c.in_ok-pivot.ensures.lookup.1 c.in_ok-opposite.ensures.lookup.3.0 c.in_ok-opposite.ensures.lookup.1
    (lit_test c.in_ok-opposite.field-0.now c.negated.result (sym c.if-eq.ensures) ∙ c.negated.ensures)
    (take_rest c.args.a.now (c.merge_prefix-before.result.a + 1)) (take_rest c.args.b.now (c.merge_prefix-before.result.b + 1))
    (take_rest c.args.to.now c.merge_prefix-before.result.to)
    c.merge_prefix-before.ensures.merge
    c.in_ok-a.ensures

pub returns : goal.returns
returns c =
    resolved_after c.args.a.now c.args.b.now c.args.to.now _ _ c.merge_prefix-before.result.a c.merge_prefix-before.result.b
    c.merge_prefix-before.result.to _ c.if-before-to.false
    (take_rest c.args.a.now c.merge_prefix-before.result.a) (take_rest c.args.b.now c.merge_prefix-before.result.b)
    c.merge_prefix-before.ensures.merge c.in_ok-pivot-2.ensures
