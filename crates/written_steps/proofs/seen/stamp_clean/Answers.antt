use Rattle.qrp_rules.proofs.Cited.{◌≡◌, ◌+◌, ◌⊎◌, ◌∈◌, ℕ, length, take, subst, ap, arith, inl, inr, Literal, IsClean, in_take_more, take_more_in}
use Rattle.written_steps.proofs.Cited.{code}
use Rattle.written_steps.proofs.WrittenSteps.{clean_with}
use Rattle.written_steps.proofs.Stamps.{code_one}
use Rattle.written_steps.proofs.seen.stamp_clean.Goals as goal

pub loop-position-preserved : goal.loop-position-preserved
loop-position-preserved c =
    let i : ℕ = c.loop-position.position in
    let x : Literal = c.index-lits-position.result in
    let more : (m : Literal) → (m ∈ take i c.args.lits.now) ⊎ (m ≡ x) → m ∈ take (i + 1) c.args.lits.now =
    λ m. take_more_in c.args.lits.now i x m c.loop-position-test.true c.index-lits-position.is in
    record {
      clean = clean_with c.args.lits.now i x c.loop-position-test.true c.index-lits-position.is
          (λ h. c.stamp_lit.ensures.clean c.if-not-stamp_lit.false ((c.loop-position.invariant.stamped _).1 (inr h)))
          c.loop-position.invariant.clean;
      stamped = λ m. (
        (λ h. elim ((c.stamp_lit.ensures.stamped (code m)).0 h) [
          | inl k ↦ elim ((c.loop-position.invariant.stamped m).0 k) [ inl old ↦ inl old | inr r ↦ inr (more m (inl r)) ]
          | inr e ↦ inr (more m (inr (code_one m x e.0)))
        ]),
        (λ h. (c.stamp_lit.ensures.stamped (code m)).1 (elim h [
          | inl old ↦ inl ((c.loop-position.invariant.stamped m).1 (inl old))
          | inr r ↦ elim (in_take_more c.args.lits.now i x m c.loop-position-test.true c.index-lits-position.is r) [
            | inl k ↦ inl ((c.loop-position.invariant.stamped m).1 (inr k))
            | inr e ↦ inr ((let code_of : Literal → ℕ = λ z. code z in ap code_of e), c.if-not-stamp_lit.false)
          ]
        ])),
      );
      upto = λ h. c.stamp_lit.ensures.upto (c.loop-position.invariant.upto h);
    }

pub returns-clause-clean : goal.returns-clause-clean
returns-clause-clean c =
    let e : c.loop-position.position ≡ length c.args.lits.now = omega (arith, c.loop-position-test.false, c.loop-position.auto.position-end) in
    subst (λ n. IsClean (take n c.args.lits.now)) e c.loop-position.invariant.clean
