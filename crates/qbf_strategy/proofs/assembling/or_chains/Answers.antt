use Rattle.std.proofs.Common.{inl, inr, subst, sym}
use Rattle.aiger.specs.Circuits.{Circuit}
use Rattle.qbf_core.specs.Blocks.{pairs}
use Rattle.qbf_strategy.specs.Computing.{Computes}
use Rattle.qbf_strategy.specs.Decisions.{decisions_by}
use Rattle.qbf_strategy.proofs.assembling.or_chains.Goals as goal

pub returns-clause-computes : goal.returns-clause-computes
returns-clause-computes c =
    let plan = c.args.plan.now in
    elim c.smaller.ensures [
      | inl e ↦ subst (λ (x : Circuit). Computes plan.mine (pairs plan.prefix.now) (decisions_by plan.mine plan.kept.now.whole plan.removed.now.whole) x) (sym e) c.requires.computes
      | inr e ↦ subst (λ (x : Circuit). Computes plan.mine (pairs plan.prefix.now) (decisions_by plan.mine plan.kept.now.whole plan.removed.now.whole) x) (sym e) c.in_ok-by_chains.ensures.computes
    ]
