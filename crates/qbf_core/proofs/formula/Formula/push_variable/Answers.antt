use Rattle.qbf_core.proofs.Cited.{◌≤◌, subst, sym, Qbf}
use Rattle.qbf_core.proofs.PushLaws.{well_formed_bound}
use Rattle.qbf_core.proofs.formula.Formula.push_variable.Goals as goal

pub invariant_of-self-2 : goal.invariant_of-self-2
invariant_of-self-2 c =
    let f : Qbf = record { max_var = c.self.inside.max_var; blocks = c.self.inside.prefix; clauses = c.self.inside.clauses.whole } in
    well_formed_bound f c.push.new.self c.args.quantifier c.args.var c.self.invariant c.len.ensures.sound c.in_ok-push.ensures.pushed
    (subst (λ (g : Qbf). c.args.var ≤ g.max_var) (sym c.self.view_is) c.requires)
