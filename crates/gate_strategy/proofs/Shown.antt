-- The laws, for both players, and what a program gives.
use Rattle.gate_clauses.proofs.Cited.{◌≡◌, ℕ, ◌∙◌, sym, ap, subst, Quantifier, All, Exists, pairs, GateFormula, IsWellFormed, encoding}
use Rattle.std.proofs.Common.{◌≤◌, length, take}
use Rattle.aiger.specs.Circuits.{Circuit}
use Rattle.qbf_strategy.specs.Winning as clauses
use Rattle.qbf_strategy.specs.Winning.{variables_of}
use Rattle.aiger.specs.Cutting.{with_inputs}
use Rattle.gate_strategy.specs.Laws.{InputsOfGatesAreFree, WinnersWinTheGates}
use Rattle.gate_strategy.specs.Winning.{IsWinningCircuit}
use Rattle.gate_strategy.proofs.Falsified.{falsified, few, wins_without_inputs}
use Rattle.gate_strategy.proofs.Winners.{wins_gates}

pub winners_win : WinnersWinTheGates
winners_win Exists q top c sound w = wins_gates q top c sound w
winners_win All q top c sound w = wins_without_inputs q top c sound w

pub inputs_are_free : InputsOfGatesAreFree
inputs_are_free q top c sound w run is_run holds = falsified q top c sound w run is_run holds

module _ (mine : Quantifier) (q : GateFormula) (top n : ℕ) (c : Circuit) (sound : IsWellFormed q)
    (count : n ≡ length (variables_of Exists (pairs q.blocks))) (w : clauses.IsWinningCircuit mine (encoding top q) c) where
  pub existential_given : (d : Circuit) → mine ≡ Exists → d ≡ record c { outputs = take n c.outputs } → IsWinningCircuit mine q d
  existential_given d is given =
      subst (λ (m : Quantifier). IsWinningCircuit m q d) (sym is)
      (subst (λ (x : Circuit). IsWinningCircuit Exists q x) (sym (given ∙ ap (λ (k : ℕ). record c { outputs = take k c.outputs }) count))
      (wins_gates q top c sound (subst (λ (m : Quantifier). clauses.IsWinningCircuit m (encoding top q) c) is w)))

  pub universal_given : (d : Circuit) → mine ≡ All → d ≡ with_inputs n c → IsWinningCircuit mine q d
  universal_given d is given =
      subst (λ (m : Quantifier). IsWinningCircuit m q d) (sym is)
      (subst (λ (x : Circuit). IsWinningCircuit All q x) (sym (given ∙ ap (λ (k : ℕ). with_inputs k c) count))
      (wins_without_inputs q top c sound (subst (λ (m : Quantifier). clauses.IsWinningCircuit m (encoding top q) c) is w)))

  pub universal_few : mine ≡ All → n ≤ length c.inputs
  universal_few is =
      subst (λ (k : ℕ). k ≤ length c.inputs) (sym count)
      (few q top c sound (subst (λ (m : Quantifier). clauses.IsWinningCircuit m (encoding top q) c) is w))
