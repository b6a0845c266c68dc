use Rattle.std.proofs.Common.{arith, rules, refl, ap, ◌∙◌, ◌≡◌, length}
use Rattle.qbf_core.specs.Blocks.{pairs}
use Rattle.qbf_core.specs.declared.quantifier.Quantifier.{Quantifier}
use Rattle.qbf_strategy.specs.Winning.{opponent, variables_of}
use Rattle.qbf_strategy.proofs.AssembledCircuit.{assembled_computes}
use Rattle.qbf_strategy.proofs.ConditionGates.{same_fault}
use Rattle.qbf_strategy.proofs.GateCosts.{circuit_too_long, cost_is}
use Rattle.qbf_strategy.proofs.ReadyDecisions.{are_bound}
use Rattle.qbf_strategy.proofs.assembling.whole_circuit.Goals as goal

pub returns-clause-computes : goal.returns-clause-computes
returns-clause-computes c =
    assembled_computes c.args.task.now.mine _ c.args.task.now.kept.now.whole c.args.task.now.removed.now.whole
    c.args.task.now.plain c.in_ok-assembly.assembly _ c.in_ok-entries.ensures.sound.distinct c.in_ok-assembly.ensures.count
    c.in_ok-assembly.ensures.assembled
    (c.in_ok-inputs.ensures ∙ ap (λ (q : Quantifier). variables_of q (pairs c.args.task.now.prefix.now)) c.opponent.ensures) (search rules) refl
    c.into_gates.ensures.gates c.into_gates.ensures.below c.into_gates.ensures.few

pub new-requires : goal.new-requires
new-requires c = are_bound c.args.task.now.mine _ _ _ c.requires.few c.requires.sees

pub returns-in_err-entries-clause-long : goal.returns-in_err-entries-clause-long
returns-in_err-entries-clause-long c = λ is _. circuit_too_long c.args.task.now.mine _ _ _ c.requires.few (c.in_err-entries.ensures.long
    (same_fault _ _ _ c.from_residual-in_err-entries.ensures.1 is))

pub returns-in_err-assembly-clause-long : goal.returns-in_err-assembly-clause-long
returns-in_err-assembly-clause-long c = λ is chains.
    let inputs : c.len.result ≡ length (variables_of (opponent c.args.task.now.mine) (pairs c.args.task.now.prefix.now)) =
    search rules ∙ ap length (c.in_ok-inputs.ensures ∙ ap (λ (q : Quantifier). variables_of q (pairs c.args.task.now.prefix.now)) c.opponent.ensures) in
    let long = c.in_err-assembly.ensures.long (same_fault _ _ _ c.from_residual-in_err-assembly.ensures.1 is) chains in let all = cost_is c.args.task.now.mine _ _ c.requires.few in omega (arith, inputs, long, all)
