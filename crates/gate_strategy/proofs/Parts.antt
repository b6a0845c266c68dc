-- The variables of the two players, with gates and without, and their blocks.
use Rattle.gate_clauses.proofs.Cited.{◌≡◌, ℕ, List, [], ◌∷◌, ◌++◌, ◌∙◌, refl, ap}
use Rattle.gate_clauses.proofs.Cited.{Quantifier, All, Exists, pairs}
use Rattle.gate_clauses.proofs.Cited.{Gate, GateFormula, IsWellFormed, gate_names, encoding, gate_pairs}
use Rattle.std.proofs.Common.{Some}
use Rattle.qbf_core.specs.Blocks.{block_in}
use Rattle.qbf_core.proofs.BlockLaws.{blocks_of-pairs}
use Rattle.qbf_strategy.specs.Winning.{variables_of}
use Rattle.gate_strategy.proofs.Places.{block_joined}

-- ---- the variables of a quantifier

pub existential_joined : (ps rest : List (Quantifier × ℕ)) → variables_of Exists (ps ++ rest) ≡ variables_of Exists ps ++ variables_of Exists rest
existential_joined [] rest = refl
existential_joined ((Exists, v) ∷ ps) rest = ap (λ (vs : List ℕ). v ∷ vs) (existential_joined ps rest)
existential_joined ((All, v) ∷ ps) rest = existential_joined ps rest

pub universal_joined : (ps rest : List (Quantifier × ℕ)) → variables_of All (ps ++ rest) ≡ variables_of All ps ++ variables_of All rest
universal_joined [] rest = refl
universal_joined ((All, v) ∷ ps) rest = ap (λ (vs : List ℕ). v ∷ vs) (universal_joined ps rest)
universal_joined ((Exists, v) ∷ ps) rest = universal_joined ps rest

pub gates_exist : (gates : List (ℕ × Gate)) → variables_of Exists (gate_pairs gates) ≡ gate_names gates
gates_exist [] = refl
gates_exist (g ∷ gates) = ap (λ (vs : List ℕ). g.0 ∷ vs) (gates_exist gates)

pub no_gate_universal : (gates : List (ℕ × Gate)) → variables_of All (gate_pairs gates) ≡ []
no_gate_universal [] = refl
no_gate_universal (g ∷ gates) = no_gate_universal gates

-- ---- blocks

-- the block of a bound variable is the same in the formula in clauses
pub still_there : (q : GateFormula) (top v i : ℕ) → IsWellFormed q → block_in v q.blocks ≡ Some i → block_in v (encoding top q).blocks ≡ Some i
still_there q top v i sound e =
    block_joined (pairs q.blocks) (gate_pairs q.gates) v i
    (ap (λ bs. block_in v bs) (blocks_of-pairs q.blocks sound.prefix.alternates) ∙ e)
