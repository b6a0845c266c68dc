use Rattle.qrp_rules.proofs.Cited.{AreBound, got_in}
use Rattle.qbf_core.proofs.Bound.{all_in}
use Rattle.written_steps.proofs.AcceptedClauses.{accepted}
use Rattle.written_steps.proofs.clause_index.accepts_at.Goals as goal

pub returns : goal.returns
returns c = accepted c.args.formula.now c.args.lits.now c.clause-clause.result.now c.args.position c.accepts_reduct.result c.clause-clause.ensures
    (c.in_ok-surely_clean.ensures c.if-not-branch.false)
    (rw c.prefix-prefix.ensures.value at c.accepts_reduct.ensures)

pub accepts_reduct-requires : goal.accepts_reduct-requires
accepts_reduct-requires c = (
  c.in_ok-surely_clean.ensures c.if-not-branch.false,
  rw c.prefix-prefix.ensures.value (all_in (AreBound c.args.formula.now.blocks) c.args.formula.now.clauses c.prefix-prefix.ensures.sound.closed
      c.clause-clause.result.now (got_in c.args.formula.now.clauses c.args.position c.clause-clause.result.now c.clause-clause.ensures)),
)
