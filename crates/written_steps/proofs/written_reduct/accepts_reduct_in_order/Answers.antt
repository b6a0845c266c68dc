use Rattle.qrp_rules.proofs.Cited.{◌∙◌, inl, clean_within, TakesOut, List, subst, Literal, reduct_conditions, bound_within}
use Rattle.qrp_rules.proofs.Reducing.{reduct_without}
use Rattle.std.proofs.lemmas.Slice.Eq.{slice_eq-Decides}
use Rattle.qbf_core.proofs.Members.{lit_decides}
use Rattle.written_steps.specs.Accepted.{IsAcceptedStep}
use Rattle.written_steps.proofs.written_reduct.accepts_reduct_in_order.Goals as goal

pub returns : goal.returns
returns g c = λ t. record {
  follows = reduct_without g.S.Side.side c.args.prefix.now (λ m. TakesOut c.reducible_in.result m.var) c.args.from.now c.args.to.now
      (c.reducible_in.ensures g.S.Side.side (c.REDUCED.ensures ∙ g.met.S.Side.reduces))
      (c.accepts_reduct_as_written.ensures.within t) (c.accepts_reduct_as_written.ensures.each t);
  clean = clean_within c.args.from.now c.args.to.now c.requires.0 (c.accepts_reduct_as_written.ensures.within t);
  bound = bound_within c.args.prefix.now c.args.from.now c.args.to.now c.requires.1 (c.accepts_reduct_as_written.ensures.within t);
}

pub returns-then-eq : goal.returns-then-eq
returns-then-eq g c = λ _.
    subst (λ (to : List Literal). IsAcceptedStep (reduct_conditions g.S.Side.side c.args.prefix.now c.args.from.now to) c.args.prefix.now to)
    ((slice_eq-Decides lit_decides c.args.from.now c.args.to.now c.eq.result c.eq.ensures).0 c.if-eq.true)
    (record { follows = ((λ l h. h), ((λ l h. inl h), tt)); clean = c.requires.0; bound = c.requires.1 })
