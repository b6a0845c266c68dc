-- A step that follows if parents are resolved as they stand follows if they may be reduced before.
use Rattle.trace_check.proofs.Cited.{ℕ, List, [], ◌∷◌, rules, Literal, Qbf, Side, Inference, Rules}
use Rattle.trace_check.proofs.Cited.{StepFollows, antecedent_conditions, AllHold, side_of}
use Rattle.trace_check.specs.Laws.{ReducedParentsKeep}
use Rattle.trace_check.specs.Unreduced.{FollowsUnreduced, unreduced_antecedents}
use Rattle.qrp_rules.proofs.UnreducedParents.{reduced_too}

by_antecedents : (rules : Rules) (side : Side) (f : Qbf) (before : List Inference) (ants : List ℕ) (lits : List Literal)
    → AllHold (unreduced_antecedents rules side f before ants lits) → AllHold (antecedent_conditions rules side f before ants lits)
by_antecedents rules side f before [] lits all = all
by_antecedents rules side f before (m ∷ []) lits all = all
by_antecedents rules side f before (m ∷ n ∷ more) lits all = reduced_too rules side f.blocks _ _ lits all

follows_too : (rules : Rules) (side : Side) (f : Qbf) (steps : List Inference) (i : ℕ) → FollowsUnreduced rules side f steps i
    → StepFollows rules side f steps i
follows_too rules side f steps i is = search (rules, by_antecedents)

pub reduced_parents_keep : ReducedParentsKeep
reduced_parents_keep rules f sets steps result proof = record {
  agree = proof.agree;
  derives = record {
    position = proof.position;
    is_goal = proof.is_goal;
    each = λ i core. follows_too rules (side_of result) f steps i (proof.each i core);
  };
}
