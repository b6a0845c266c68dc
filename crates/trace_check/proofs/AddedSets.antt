-- The set that one step adds to a formula, as a clause to its matrix or as a cube beside it, by the laws of the rules.
use Rattle.trace_check.proofs.Cited.{◌↔◌, ℕ, List, [], ◌∷◌, ◌++◌, inl, inr, refl, rules, AllByRecursion, Literal, ◌∈◌, ◌⊆◌, Side}
use Rattle.trace_check.proofs.Cited.{Clauses, Cubes, IsClean, IsReduct, IsInitial, Clashes, resolvent, IsBound, AreBound, Qbf, IsClosed}
use Rattle.trace_check.proofs.Cited.{IsTrueWithSets, append_left, append_right}
use Rattle.qbf_core.proofs.Inferences.{resolvent_holds}
use Rattle.qbf_core.proofs.TruthLaws.{implied_clause, reduct_clause, initial_cube, resolvent_cube, reduct_cube}

-- each set is clean and over the prefix
abbrev pub AreGood : Qbf → List (List Literal) → Type 0
AreGood f sets = (lits : List Literal) → lits ∈ sets → IsClean lits × AreBound f.blocks lits

pub good_more : (f : Qbf) (lits : List Literal) (sets : List (List Literal)) → IsClean lits → AreBound f.blocks lits → AreGood f sets
    → AreGood f (lits ∷ sets)
good_more f lits sets clean bound good m w = search rules

-- one more set changes no truth
abbrev pub Grows : Side → Qbf → List (List Literal) → List Literal → Type 0
Grows side f sets lits = IsTrueWithSets side f sets ↔ IsTrueWithSets side f (lits ∷ sets)

-- the formula with sets as clauses
abbrev with_clauses : Qbf → List (List Literal) → Qbf
with_clauses f sets = record f { clauses = sets ++ f.clauses }

closed_with : (f : Qbf) (sets : List (List Literal)) → IsClosed f → AreGood f sets → IsClosed (with_clauses f sets)
closed_with f sets closed good = record { distinct = closed.distinct; bound = each sets good }
  where
    each : (sets : List (List Literal)) → AreGood f sets → AllByRecursion (AreBound f.blocks) (sets ++ f.clauses)
    each [] good = closed.bound
    each (s ∷ sets) good = ((good s (inl refl)).1, each sets (λ l h. good l (inr h)))

pub initial_grows : (side : Side) (f : Qbf) (sets : List (List Literal)) (lits : List Literal) → IsClosed f → AreGood f sets
    → IsInitial side f lits → Grows side f sets lits
initial_grows Clauses f sets lits closed good (clause, here, clean, reduct) =
    reduct_clause (with_clauses f sets) clause lits (closed_with f sets closed good) (append_right sets f.clauses clause here) clean reduct
initial_grows Cubes f sets lits closed good initial = initial_cube f sets lits closed initial

pub reduct_grows : (side : Side) (f : Qbf) (sets : List (List Literal)) (from to : List Literal) → IsClosed f → AreGood f sets
    → from ∈ sets → IsReduct side f.blocks from to → Grows side f sets to
reduct_grows Clauses f sets from to closed good here reduct =
    reduct_clause (with_clauses f sets) from to (closed_with f sets closed good) (append_left sets f.clauses from here)
    (good from here).0 reduct
reduct_grows Cubes f sets from to closed good here reduct = search (rules, reduct_cube)

pub resolvent_grows : (side : Side) (f : Qbf) (sets : List (List Literal)) (a b : List Literal) (x : ℕ) → IsClosed f → AreGood f sets
    → a ∈ sets → b ∈ sets → Clashes a b x → IsBound f.blocks x → Grows side f sets (resolvent a b x)
resolvent_grows Clauses f sets a b x closed good in_a in_b clash bound =
    implied_clause (with_clauses f sets) (resolvent a b x) (closed_with f sets closed good)
    (λ s clean total holds. resolvent_holds a b s x (good a in_a).0 (good b in_b).0 clash clean
    (holds a (append_left sets f.clauses a in_a)) (holds b (append_left sets f.clauses b in_b)))
resolvent_grows Cubes f sets a b x closed good in_a in_b clash bound = search (rules, resolvent_cube)

-- sets and more, with these literals among them: all are good, and the truth is the same
pub record Grown (side : Side) (f : Qbf) (sets : List (List Literal)) (lits : List Literal) : Type 0 where
  pub all : List (List Literal)
  pub more : sets ⊆ all
  pub here : lits ∈ all
  pub good : AreGood f all
  pub kept : IsTrueWithSets side f sets ↔ IsTrueWithSets side f all

pub one_grown : (side : Side) (f : Qbf) (sets : List (List Literal)) (lits : List Literal) → Grows side f sets lits → AreGood f sets
    → IsClean lits → AreBound f.blocks lits → Grown side f sets lits
one_grown side f sets lits kept good clean bound = search (rules, good_more)

-- on from sets that have grown
pub grown_on : (side : Side) (f : Qbf) (sets : List (List Literal)) (a b : List Literal) → Grown side f sets a
    → ((all : List (List Literal)) → AreGood f all → sets ⊆ all → a ∈ all → Grown side f all b) → Grown side f sets b
grown_on side f sets a b first next =
    let second = next first.all first.good first.more first.here in record {
      all = second.all;
      more = λ s h. second.more s (first.more s h);
      here = second.here;
      good = second.good;
      kept = (λ t. second.kept.0 (first.kept.0 t), λ t. first.kept.1 (second.kept.1 t));
    }
