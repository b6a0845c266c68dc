use Rattle.trace_check.proofs.Cited.{◌∙◌, [], ap, sym}
use Rattle.trace_items.specs.Antecedents.{listed}
use Rattle.proof_decisions.proofs.FoundOrigins.{earlier_lits, step_rows}
use Rattle.proof_decisions.proofs.origins.origin_of.Goals as goal

pub initial_of-requires-clause-fit : goal.initial_of-requires-clause-fit
initial_of-requires-clause-fit g c =
    (step_rows c.requires.follows.0 g.S.Side.side c.args.proof.formula.now (g.T.KeptSteps.steps c.args.proof.trace.now) c.args.position [] c.in_ok-lits-in-Empty.lits.now
    c.requires.follows.1 (λ s here. sym (ap listed c.in-Empty.is) ∙ c.antecedents.ensures s here) c.in_ok-lits-in-Empty.ensures).0

pub returns-in_ok-lits-in-One : goal.returns-in_ok-lits-in-One
returns-in_ok-lits-in-One g c = λ step here. (
  c.in-One.only,
  sym (c.antecedents.ensures step here) ∙ ap listed c.in-One.is,
  earlier_lits (g.T.KeptSteps.steps c.args.proof.trace.now) c.args.position c.earlier-from.result c.in-One.only c.in_ok-lits-in-One.lits.now
      c.earlier-from.ensures c.in_ok-lits-in-One.ensures,
)

pub returns-in_ok-pivot-in-Two : goal.returns-in_ok-pivot-in-Two
returns-in_ok-pivot-in-Two g c = λ step here. (
  c.in-Two.first,
  c.in-Two.second,
  sym (c.antecedents.ensures step here) ∙ ap listed c.in-Two.is,
  earlier_lits (g.T.KeptSteps.steps c.args.proof.trace.now) c.args.position c.earlier.result c.in-Two.first c.in_ok-a-in-Two.a.now c.earlier.ensures
      c.in_ok-a-in-Two.ensures,
  earlier_lits (g.T.KeptSteps.steps c.args.proof.trace.now) c.args.position c.earlier-in-Two.result c.in-Two.second c.in_ok-b-in-Two.b.now c.earlier-in-Two.ensures
      c.in_ok-b-in-Two.ensures,
  c.in_ok-pivot-in-Two.ensures,
)
