use Rattle.std.proofs.Common.{subst, sym, ◌∙◌}
use Rattle.qbf_core.specs.Blocks.{pairs}
use Rattle.qbf_core.specs.declared.quantifier.Quantifier.{Quantifier}
use Rattle.qbf_strategy.specs.Winning as clauses
use Rattle.qbf_gates.specs.Gates.{names}
use Rattle.gate_clauses.specs.Begun.{greatest}
use Rattle.gate_verify.specs.Laws.{in_clauses}
use Rattle.gate_strategy.specs.Winning.{IsWinningCircuit}
use Rattle.gate_strategy.proofs.Counted.{counted}
use Rattle.gate_strategy.proofs.strategy.strategy_without_gates.Goals as goal

pub returns-clause-wins : goal.returns-clause-wins
returns-clause-wins c =
    let q = c.args.question.now.formula in
    subst (λ (m : Quantifier). IsWinningCircuit m q c.in_ok-circuit.circuit) c.winner.ensures
    (c.in_ok-circuit.ensures q (greatest (names q)) c.requires.formed (c.existential.ensures ∙ counted (pairs q.blocks))
    (subst (λ (m : Quantifier). clauses.IsWinningCircuit m (in_clauses q) c.args.strategy.circuit) (sym c.winner.ensures) c.requires.wins))
