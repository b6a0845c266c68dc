use Rattle.qrp_rules.proofs.Cited.{◌≡◌, ◌⊎◌, subst, sym, inl, inr, Literal, in_take_more}
use Rattle.written_steps.proofs.Cited.{Has}
use Rattle.written_steps.proofs.WrittenSteps.{put_then}
use Rattle.written_steps.proofs.written_resolvent.put_each_left_out.Goals as goal

pub returns-then-not-branch-clause-put : goal.returns-then-not-branch-clause-put
returns-then-not-branch-clause-put c = put_then _ _ _ _ c.loop-lit.invariant.put c.put_left_out.ensures.put

pub returns-in_err-put_left_out-clause-put : goal.returns-in_err-put_left_out-clause-put
returns-in_err-put_left_out-clause-put c = put_then _ _ _ _ c.loop-lit.invariant.put c.put_left_out.ensures.put

pub loop-lit-preserved : goal.loop-lit-preserved
loop-lit-preserved c = record {
  put = put_then _ _ _ _ c.loop-lit.invariant.put c.put_left_out.ensures.put;
  each = λ m h. elim (in_take_more c.args.lits.now c.loop-lit.lit-index c.lit-item.result m c.loop-lit-test.true c.lit-item.is h) [
    | inl k ↦ elim (c.loop-lit.invariant.each m k) [ inl e ↦ inl e | inr has ↦ inr (c.put_left_out.ensures.put.kept m has) ]
    | inr e ↦ subst (λ (z : Literal). (z.var ≡ c.args.pivot) ⊎ Has c.put_left_out.new.seen z) (sym e)
        (c.in_ok-put_left_out.ensures.has c.if-not-branch.false)
  ];
}
