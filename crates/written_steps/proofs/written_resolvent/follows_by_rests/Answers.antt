use Rattle.qrp_rules.proofs.Cited.{sym, ◌∙◌, eqb-true}
use Rattle.written_steps.proofs.WrittenSteps.{exact_follows}
use Rattle.written_steps.proofs.written_resolvent.follows_by_rests.Goals as goal

pub returns-then-branch : goal.returns-then-branch
returns-then-branch g c = λ _ rules allowed.
    let both = c.in_ok-surely_clean_without.ensures c.if-branch.true in
    exact_follows rules g.S.Side.side c.args.prefix.now c.args.step.a.now c.args.step.b.now c.args.step.to.now
    c.args.rests.a.now c.args.rests.b.now c.args.rests.pivot c.requires allowed
    (eqb-true _ _ (sym c.is_empty.ensures ∙ c.if-is_empty.true))
    (eqb-true _ _ (sym c.is_empty-then-is_empty.ensures ∙ c.if-is_empty-2.true))
    both.0 (rw c.var.ensures at both.1)
