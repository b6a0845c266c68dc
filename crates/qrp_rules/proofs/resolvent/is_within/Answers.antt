use Rattle.qrp_rules.proofs.Cited.{◌+◌, ◌∙◌, ℕ, drop, refl, sym, inl, inr, ◌++◌, rules, false≢true, Literal, ◌∈◌, resolvent, in_at}
use Rattle.qrp_rules.proofs.Cited.{in_take_all, in_append, append_left, append_right, each_more, in_without, from_without}
use Rattle.qrp_rules.proofs.Cursors.{Reaches, HasVar, reach_more, reach_in}
use Rattle.qrp_rules.proofs.resolvent.is_within.Goals as goal

pub returns-then-not-is_resolved : goal.returns-then-not-is_resolved
returns-then-not-is_resolved c = (
  λ t. absurd (false≢true t),
  λ all.
      let i : ℕ = c.loop-lit.lit-index in
      let x : Literal = c.lit-item.result in
      let w =
      from_without c.args.pivot (c.args.a.now ++ c.args.b.now) x (all x (in_at c.args.to.now i x c.loop-lit-test.true c.lit-item.is)) in
      c.if-not-is_resolved.ensures.1 (
        elim (in_append c.args.a.now c.args.b.now x w.0) [
          | inl h ↦ search (rules, reach_in)
          | inr h ↦ search (rules, reach_in)
        ],
        (λ e. w.1 (sym c.var.ensures ∙ e)),
      ),
)

pub loop-lit-preserved : goal.loop-lit-preserved
loop-lit-preserved c =
    let i : ℕ = c.loop-lit.lit-index in
    let x : Literal = c.lit-item.result in
    let in_a = c.seek_literal-in_a.ensures in
    let in_b = c.seek_literal-in_b.ensures in
    let left' : Reaches c.args.a.now c.seek_literal-in_a.result.0.now (HasVar (drop (i + 1) c.args.to.now)) =
    reach_more c.args.a.now c.loop-lit.left.now _ c.args.to.now i x.var x c.requires.to c.loop-lit-test.true c.lit-item.is
    c.loop-lit.invariant.left in_a.rest.ordered in_a.rest.within refl in_a.rest.kept in
    let right' : Reaches c.args.b.now c.seek_literal-in_b.result.0.now (HasVar (drop (i + 1) c.args.to.now)) =
    reach_more c.args.b.now c.loop-lit.right.now _ c.args.to.now i x.var x c.requires.to c.loop-lit-test.true c.lit-item.is
    c.loop-lit.invariant.right in_b.rest.ordered in_b.rest.within refl in_b.rest.kept in
    record {
      left = left';
      right = right';
      done = each_more (λ (z : Literal). z ∈ resolvent c.args.a.now c.args.b.now c.args.pivot) c.args.to.now i x c.loop-lit-test.true
          c.lit-item.is (
          let t = c.if-not-is_resolved.ensures.0 refl in
          in_without c.args.pivot (c.args.a.now ++ c.args.b.now) x (elim t.0 [
            | inl k ↦ append_left c.args.a.now c.args.b.now x (c.loop-lit.invariant.left.within x (in_a.found.0 k))
            | inr k ↦ append_right c.args.a.now c.args.b.now x (c.loop-lit.invariant.right.within x (in_b.found.0 k))
          ]) (λ e. t.1 (c.var.ensures ∙ e))) c.loop-lit.invariant.done;
    }

pub returns : goal.returns
returns c = (λ _ l h. c.loop-lit.invariant.done l (in_take_all c.args.to.now c.loop-lit.lit-index l c.loop-lit-test.false h), λ _. refl)
