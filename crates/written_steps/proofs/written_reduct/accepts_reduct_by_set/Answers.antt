use Rattle.std.proofs.lemmas.Result.{IfOk-weaker}
use Rattle.qrp_rules.proofs.Cited.{bound_within, ◌∙◌, clean_within, TakesOut}
use Rattle.qrp_rules.proofs.Reducing.{reduct_without}
use Rattle.written_steps.proofs.written_reduct.accepts_reduct_by_set.Goals as goal

pub returns : goal.returns
returns g c = IfOk-weaker c.surely_covers.result _ _ (λ _ covers t. record {
  follows = reduct_without g.S.Side.side c.args.prefix.now (λ m. TakesOut c.reducible_in.result m.var) c.args.from.now c.args.to.now
      (c.reducible_in.ensures g.S.Side.side (c.REDUCED.ensures ∙ g.met.S.Side.reduces))
      (c.in_ok-surely_within.ensures c.if-not-branch.false) (covers t);
  clean = clean_within c.args.from.now c.args.to.now c.requires.0 (c.in_ok-surely_within.ensures c.if-not-branch.false);
  bound = bound_within c.args.prefix.now c.args.from.now c.args.to.now c.requires.1 (c.in_ok-surely_within.ensures c.if-not-branch.false);
})
    c.surely_covers.ensures
