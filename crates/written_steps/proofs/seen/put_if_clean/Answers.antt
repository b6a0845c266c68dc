use Rattle.qrp_rules.proofs.Cited.{rules, ℕ, sym, subst, ◌∙◌, inl, inr, false≢true, Literal, in_take_more, take_more_in}
use Rattle.written_steps.proofs.Cited.{Has}
use Rattle.written_steps.proofs.WrittenSteps.{clean_all, clean_with}
use Rattle.written_steps.proofs.seen.put_if_clean.Goals as goal

pub loop-position-preserved : goal.loop-position-preserved
loop-position-preserved c =
    let i : ℕ = c.loop-position.position in
    let x : Literal = c.index-lits-position.result in
    let put = rw c.note_repeated.ensures at c.put.ensures in
    record {
      clean = clean_with c.args.lits.now i x c.loop-position-test.true c.index-lits-position.is
          (λ h. false≢true (sym c.if-contains.false ∙ c.contains.ensures.1
          (subst (λ (z : Literal). Has c.loop-position.seen z) (sym c.negated.ensures) ((c.loop-position.invariant.seen _).1 h))))
          c.loop-position.invariant.clean;
      seen = λ m. (
        (λ h. take_more_in c.args.lits.now i x m c.loop-position-test.true c.index-lits-position.is (search rules)),
        (λ h. (put m).1 (elim (in_take_more c.args.lits.now i x m c.loop-position-test.true c.index-lits-position.is h) [
          | inl k ↦ inl ((c.loop-position.invariant.seen m).1 k)
          | inr e ↦ inr (e, search rules)
        ])),
      );
    }

pub returns-clause-clean : goal.returns-clause-clean
returns-clause-clean c = λ t. clean_all c.args.lits.now c.loop-position.position c.loop-position-test.false c.loop-position.invariant.clean
