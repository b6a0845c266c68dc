use Rattle.core_walk.proofs.Cited.{ap, sym, ◌∙◌, inl, inr, refl}
use Rattle.trace_items.specs.Antecedents.{listed}
use Rattle.core_walk.proofs.CoreStep.{not_earlier, premise_of}
use Rattle.core_walk.proofs.premises.find_premises.Goals as goal

pub returns-in_default : goal.returns-in_default
returns-in_default g c = λ step here.
    not_earlier (g.T.KeptSteps.steps c.args.place.trace.now) c.args.place.position step.ants _ _
    (sym (c.antecedents.ensures step here) ∙ ap listed c.in-One.is)
    (inl refl) (rw c.in_default.is at c.find_again.ensures)

pub returns-in_default-find_again : goal.returns-in_default-find_again
returns-in_default-find_again g c = λ step here.
    not_earlier (g.T.KeptSteps.steps c.args.place.trace.now) c.args.place.position step.ants _ _
    (sym (c.antecedents.ensures step here) ∙ ap listed c.in-Two.is)
    (inr (inl refl)) (rw c.in_default-find_again.is at c.find_again-in-Two.ensures)

pub returns-in_default-find_again-2 : goal.returns-in_default-find_again-2
returns-in_default-find_again-2 g c = λ step here.
    not_earlier (g.T.KeptSteps.steps c.args.place.trace.now) c.args.place.position step.ants _ _
    (sym (c.antecedents.ensures step here) ∙ ap listed c.in-Two.is)
    (inl refl) (rw c.in_default-find_again-2.is at c.find_again-in-Two-2.ensures)

pub returns-in_ok-lits-in-One : goal.returns-in_ok-lits-in-One
returns-in_ok-lits-in-One g c = λ step here. (
  _,
  sym (c.antecedents.ensures step here) ∙ ap listed c.in-One.is,
  premise_of (g.T.KeptSteps.steps c.args.place.trace.now) c.args.place.position c.in-Some.from _ c.in_ok-lits-in-One.lits.now
      (rw c.in-Some.is at c.find_again.ensures) c.in_ok-lits-in-One.ensures,
)

pub returns-in_ok-lits_of_b-in-Two : goal.returns-in_ok-lits_of_b-in-Two
returns-in_ok-lits_of_b-in-Two g c = λ step here. (
  _,
  _,
  sym (c.antecedents.ensures step here) ∙ ap listed c.in-Two.is,
  premise_of (g.T.KeptSteps.steps c.args.place.trace.now) c.args.place.position c.in-Some-find_again-2.a _ c.in_ok-lits_of_a-in-Two.lits_of_a.now
      (rw c.in-Some-find_again-2.is at c.find_again-in-Two-2.ensures) c.in_ok-lits_of_a-in-Two.ensures,
  premise_of (g.T.KeptSteps.steps c.args.place.trace.now) c.args.place.position c.in-Some-find_again.b _ c.in_ok-lits_of_b-in-Two.lits_of_b.now
      (rw c.in-Some-find_again.is at c.find_again-in-Two.ensures) c.in_ok-lits_of_b-in-Two.ensures,
)
