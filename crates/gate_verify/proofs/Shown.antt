-- What a proof of the clauses shows of the formula of gates.
use Rattle.std.proofs.Common.{◌≡◌, ◌↔◌, ℕ, Bool, IsTrue, refl}
use Rattle.std.proofs.lemmas.Bool.{false≢true}
use Rattle.qbf_core.specs.Truth.{IsTrueFormula, ResultHolds}
use Rattle.trace_items.specs.declared.item.Outcome.{Outcome}
use Rattle.trace_items.specs.declared.item.Outcome.TheVariants.{Sat, Unsat}
use Rattle.trace_check.specs.Proof.{side_of, is_sat}
use Rattle.trace_check.proofs.Soundness.{soundness}
use Rattle.qbf_gates.specs.Gates.{GateFormula, IsWellFormed, names}
use Rattle.qbf_gates.specs.Truth.{IsTrueGates}
use Rattle.gate_clauses.specs.Begun.{greatest}
use Rattle.gate_clauses.proofs.Closed.{encoding_is_closed}
use Rattle.gate_clauses.proofs.Truth.{encoding_keeps_the_truth}
use Rattle.gate_verify.specs.Laws.{ProofsShowTheGates, in_clauses}

pub same_truth : (q : GateFormula) → IsWellFormed q → IsTrueGates q ↔ IsTrueFormula (in_clauses q)
same_truth q sound = encoding_keeps_the_truth q (greatest (names q)) sound

claimed : (result : Outcome) (q : GateFormula) → IsWellFormed q → ResultHolds (side_of result) (in_clauses q)
    → IsTrue (is_sat result) ↔ IsTrueGates q
claimed Sat q sound holds = ((λ t. (same_truth q sound).1 holds), (λ is. refl))
claimed Unsat q sound refuted = ((λ t. absurd (false≢true t)), (λ is. absurd (refuted ((same_truth q sound).0 is))))

pub proofs_show_the_gates : ProofsShowTheGates
proofs_show_the_gates rules q d sound proves =
    claimed d.result q sound
    (soundness rules (in_clauses q) d.sets d.steps d.result (encoding_is_closed q (greatest (names q)) sound) proves)
