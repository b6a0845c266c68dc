use Rattle.qrp_rules.proofs.Cited.{◌∙◌, Literal, each_more, false≢true, in_at, negated, subst, sym}
use Rattle.written_steps.proofs.Cited.{Has}
use Rattle.proof_decisions.proofs.origins.find_clash.Goals as goal

pub returns-then-contains-clause-found : goal.returns-then-contains-clause-found
returns-then-contains-clause-found c = (
  c.lit-item.result,
  in_at c.args.lits.now c.loop-lit.lit-index c.lit-item.result c.loop-lit-test.true c.lit-item.is,
  subst (λ (z : Literal). Has c.args.seen.now z) c.negated.ensures (c.contains.ensures.0 c.if-contains.true),
  cc (c.var.ensures, c.number.ensures.value),
)

pub loop-lit-preserved : goal.loop-lit-preserved
loop-lit-preserved c =
    each_more (λ (m : Literal). Has c.args.seen.now (negated m) → ⊥) c.args.lits.now c.loop-lit.lit-index c.lit-item.result c.loop-lit-test.true
    c.lit-item.is
    (λ h. false≢true (sym c.if-contains.false
    ∙ c.contains.ensures.1 (subst (λ (z : Literal). Has c.args.seen.now z) (sym c.negated.ensures) h))) c.loop-lit.invariant
