-- A proof shows what its side says: the goal, a step of the core, adds the empty set.
use Rattle.trace_check.proofs.Cited.{rules, common_steps, arith, List, [], ◌∷◌, inl, refl, Clauses, Cubes, Side, Qbf, IsClosed}
use Rattle.trace_check.proofs.Cited.{Inference, Rules, goal, side_of, ResultHolds, Derives, AreOfCore, CoreKeepsTheTruth}
use Rattle.qbf_core.proofs.TruthLaws.{empty_clause, empty_cube}
use Rattle.trace_check.specs.Laws.{Soundness}
use Rattle.trace_check.proofs.CoreTruth.{core_keeps}

goal_is_of_core : (rules : Rules) (side : Side) (f : Qbf) (steps : List Inference) → Derives rules side f steps → AreOfCore steps ([] ∷ [])
goal_is_of_core rules side f steps derives lits h = grind (arith, common_steps, goal)

result_shown : CoreKeepsTheTruth → (rules : Rules) (side : Side) (f : Qbf) (steps : List Inference) → IsClosed f → Derives rules side f steps
    → ResultHolds side f
result_shown law rules Clauses f steps closed derives = λ is.
    empty_clause f.blocks ([] ∷ f.clauses) (inl refl)
    ((law rules Clauses f steps ([] ∷ []) closed derives (goal_is_of_core rules Clauses f steps derives)).0 is)
result_shown law rules Cubes f steps closed derives =
    (law rules Cubes f steps ([] ∷ []) closed derives (goal_is_of_core rules Cubes f steps derives)).1 (empty_cube f ([] ∷ []) (inl refl))

pub soundness : Soundness
soundness rules f sets steps result closed proves = result_shown core_keeps rules (side_of result) f steps closed proves.derives
