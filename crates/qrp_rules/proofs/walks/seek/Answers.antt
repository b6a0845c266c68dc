use Rattle.qrp_rules.proofs.Cited.{◌≡◌, sym, subst, arith, ◌∷◌, inr, rules, ◌∈◌, IsOrdered}
use Rattle.qrp_rules.proofs.Cursors.{first_least, rest_keeps}
use Rattle.qrp_rules.proofs.walks.seek.Goals as goal

pub returns-then-number-clause-later : goal.returns-then-number-clause-later
returns-then-number-clause-later c =
    let is : c.loop-first.rest.now ≡ c.in-Some.first.now ∷ c.in-Some.others.now = search rules in
    λ m h. first_least c.in-Some.first.now c.in-Some.others.now c.args.var m (omega arith)
    (subst IsOrdered is c.loop-first.invariant.ordered) (subst (λ xs. m ∈ xs) is h)

pub loop-first-preserved : goal.loop-first-preserved
loop-first-preserved c =
    let is : c.loop-first.rest.now ≡ c.in-Some.first.now ∷ c.in-Some.others.now = search rules in
    record {
      ordered = (subst IsOrdered is c.loop-first.invariant.ordered).1;
      within = λ m h. c.loop-first.invariant.within m (subst (λ xs. m ∈ xs) (sym is) (inr h));
      kept = λ m h le. rest_keeps c.in-Some.first.now c.in-Some.others.now c.args.var m (omega arith) le
          (subst (λ xs. m ∈ xs) is (c.loop-first.invariant.kept m h le));
    }
