use Rattle.std.proofs.Common.{rules, arith, ◌≤◌, length, subst, sym}
use Rattle.std.proofs.lemmas.Grind.{common_steps}
use Rattle.aiger.specs.Circuits.{Circuit, IsOrdered}
use Rattle.gate_strategy.proofs.Cut.{cut_ordered}
use Rattle.gate_strategy.proofs.Shown.{existential_given, universal_few, universal_given}
use Rattle.gate_strategy.proofs.winning.without_gates.Goals as goal

pub returns-in-Exists-clause-wins : goal.returns-in-Exists-clause-wins
returns-in-Exists-clause-wins c = λ q top sound count w.
    existential_given c.args.mine q top c.args.existential c.args.circuit sound count w _ c.in-Exists.is (grind (arith, common_steps))

pub returns-in-All-clause-wins : goal.returns-in-All-clause-wins
returns-in-All-clause-wins c = λ q top sound count w.
    universal_given c.args.mine q top c.args.existential c.args.circuit sound count w c.with_inputs.result c.in-All.is c.with_inputs.ensures

pub returns-in-All-2-clause-wins : goal.returns-in-All-2-clause-wins
returns-in-All-2-clause-wins c = λ q top sound count w.
    let less = universal_few c.args.mine q top c.args.existential c.args.circuit sound count w c.in-All-2.is in
    absurd (grind (arith, common_steps))

pub returns-in-All-clause-ordered : goal.returns-in-All-clause-ordered
returns-in-All-clause-ordered c = λ ordered.
    let less : c.args.existential ≤ length c.args.circuit.inputs = search rules in
    subst (λ (x : Circuit). IsOrdered x) (sym c.with_inputs.ensures) (cut_ordered c.args.existential c.args.circuit less ordered)
