-- Proofs by the rules as the literature states them: Q-resolution (Kleine Buening, Karpinski, Floegel 1995) and term resolution
-- (Giunchiglia, Narizzano, Tacchella 2006). They take out one literal at a time, and the prefix is a list of variables. A list of literals
-- stands for the set of its members.
use Rattle.std.specs.Prelude.{◌≡◌, ◌↔◌, ◌⊎◌, ℕ, List, [], ◌∷◌, take}
use Rattle.qbf_core.specs.declared.quantifier.Quantifier.{Quantifier}
use Rattle.qbf_core.specs.Literal.{Literal, negated}
use Rattle.qbf_core.specs.Members.{◌∈◌}
use Rattle.qbf_core.specs.Blocks.{AreBound, pairs, variables}
use Rattle.qbf_core.specs.Qbf.{Qbf, IsClosed}
use Rattle.qbf_core.specs.Rules.{Side, Clauses, Cubes, IsClean, reduced_quantifier, deciding_quantifier}
use Rattle.trace_items.specs.declared.item.Outcome.{Outcome}
use Rattle.trace_items.specs.Inferences.{Inference, IsAt}
use Rattle.qrp_rules.specs.declared.rules.Rules.{Rules}
use Rattle.core_walk.specs.Conditions.{IsNumberOf, lits_of}
use Rattle.core_walk.specs.Core.{IsGoal, IsInCore}
use Rattle.trace_check.specs.Proof.{side_of, Proves}
use Rattle.trace_check.specs.Unreduced.{ProvesUnreduced}

-- v stands after w in the prefix
abbrev pub StandsAfter : List (Quantifier × ℕ) → ℕ → ℕ → Type 0
StandsAfter [] v w = ⊥
StandsAfter ((q, u) ∷ ps) v w = ((u ≡ w) × (v ∈ variables ps)) ⊎ StandsAfter ps v w

-- a clause of the matrix that is not a tautology; a cube that has a literal of each clause
abbrev pub IsAxiom : Side → Qbf → List Literal → Type 0
IsAxiom Clauses f lits = (clause : List Literal) × (clause ∈ f.clauses) × IsClean clause × ((l : Literal) → l ∈ lits ↔ (l ∈ clause))
IsAxiom Cubes f lits = (clause : List Literal) → clause ∈ f.clauses → (l : Literal) × (l ∈ clause) × (l ∈ lits)

-- Universal reduction, and its dual: `to` is `from` without one literal of the reduced quantifier, after which no literal of the other
-- quantifier stands.
pub record IsReduction (side : Side) (f : Qbf) (from to : List Literal) : Type 0 where
  pub literal : Literal
  pub here : literal ∈ from
  pub quantifier : (reduced_quantifier side, literal.var) ∈ pairs f.blocks
  pub last : (m : Literal) → m ∈ from → (deciding_quantifier side, m.var) ∈ pairs f.blocks
      → StandsAfter (pairs f.blocks) m.var literal.var → ⊥
  pub rest : (l : Literal) → l ∈ to ↔ ((l ∈ from) × (l ≡ literal → ⊥))

-- Resolution on a pivot, a literal of the deciding quantifier in a, whose negation is in b: `to` is the union of a without the pivot and of
-- b without its negation.
pub record IsResolution (side : Side) (f : Qbf) (a b to : List Literal) : Type 0 where
  pub literal : Literal
  pub in_a : literal ∈ a
  pub in_b : negated literal ∈ b
  pub quantifier : (deciding_quantifier side, literal.var) ∈ pairs f.blocks
  pub rest : (l : Literal) → l ∈ to ↔ (((l ∈ a) × (l ≡ literal → ⊥)) ⊎ ((l ∈ b) × (l ≡ negated literal → ⊥)))

-- the rule by the number of antecedents, of which a step has at most two
abbrev pub IsTextbookStep : Side → Qbf → List Inference → List ℕ → List Literal → Type 0
IsTextbookStep side f before [] lits = IsAxiom side f lits
IsTextbookStep side f before (m ∷ []) lits = IsReduction side f (lits_of before m) lits
IsTextbookStep side f before (m ∷ n ∷ more) lits = IsResolution side f (lits_of before m) (lits_of before n) lits

-- there is a goal; each step of the core is not a tautology, has bound literals, and follows from earlier steps by one rule
pub record IsTextbookProof (f : Qbf) (steps : List Inference) (result : Outcome) : Type 0 where
  pub position : ℕ
  pub is_goal : IsGoal steps position
  pub clean : (i : ℕ) (s : Inference) → IsInCore steps i → IsAt steps i s → IsClean s.lits
  pub bound : (i : ℕ) (s : Inference) → IsInCore steps i → IsAt steps i s → AreBound f.blocks s.lits
  pub numbers : (i : ℕ) (s : Inference) → IsInCore steps i → IsAt steps i s → (n : ℕ) → n ∈ s.ants → IsNumberOf (take i steps) n
  pub each : (i : ℕ) (s : Inference) → IsInCore steps i → IsAt steps i s → IsTextbookStep (side_of result) f (take i steps) s.ants s.lits

-- a textbook proof is a proof to this checker, step by step, by any rules, with parents as they stand or reduced before
abbrev pub TextbookProofsAreProofs : Type 0
TextbookProofsAreProofs = (rules : Rules) (f : Qbf) (steps : List Inference) (result : Outcome) → IsClosed f → IsTextbookProof f steps result
    → ProvesUnreduced rules f [] steps result × Proves rules f [] steps result
