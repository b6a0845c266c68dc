use Rattle.qrp_rules.proofs.Cited.{◌≤◌, ℕ, sym, subst, arith}
use Rattle.qrp_rules.proofs.walks.seek_literal.Goals as goal

pub returns-clause-found : goal.returns-clause-found
returns-clause-found c = (
  λ t. c.seek-rest.ensures.rest.within c.args.lit (c.starts_with.ensures.0 t),
  λ h. c.starts_with.ensures.1 (c.seek-rest.ensures.rest.kept c.args.lit h
      (let e : c.var.result ≤ c.args.lit.var = subst (λ (v : ℕ). v ≤ c.args.lit.var) (sym c.var.ensures) (omega arith) in e)),
)
