-- The strategy of a player as a list of decisions, and the play of a player who keeps to them. A player is named by the quantifier of its
-- variables.
use Rattle.std.specs.Prelude.{ℕ, ◌==◌, Bool, not, if◌then◌else◌, List, [], ◌∷◌, map}
use Rattle.qbf_core.specs.declared.quantifier.Quantifier.{Quantifier}
use Rattle.qbf_core.specs.declared.quantifier.Quantifier.TheVariants.{All, Exists}
use Rattle.qbf_core.specs.Literal.{Literal, negated}
use Rattle.qbf_core.specs.Blocks.{is_quantifier}
use Rattle.qbf_completeness.specs.Setting.{are_set}
use Rattle.qbf_completeness.specs.Strategies.{literal_of}

-- if all literals of `when` are set, those of `sets` are to be set, but for variables that an earlier decision sets
pub record Decision : Type 0 where
  pub when : List Literal
  pub sets : List Literal

-- the value that the first literal of the variable v gives it, or the value `otherwise` if there is none
abbrev pub value_in : List Literal → ℕ → (otherwise : Bool) → Bool
value_in [] v otherwise = otherwise
value_in (l ∷ ls) v otherwise = if l.var == v then not l.negative else value_in ls v otherwise

-- the value of v by the first decision that sets it and whose literals are set, or the value `otherwise` if there is none
abbrev pub decided : (otherwise : Bool) → List Decision → ℕ → List Literal → Bool
decided otherwise [] v s = otherwise
decided otherwise (d ∷ ds) v s =
    if are_set d.when s then value_in d.sets v (decided otherwise ds v s) else decided otherwise ds v s

-- The literals that are set in the end, if the player of the quantifier `mine` keeps to the decisions, and the other's variables have these
-- values. A decision on a variable sees only the literals that are set before it. A variable on which nothing is decided has the value
-- `otherwise`.
abbrev pub play_by : (mine : Quantifier) → List (Quantifier × ℕ) → (otherwise : ℕ → Bool) → List Decision → (ℕ → Bool) → List Literal
    → List Literal
play_by mine [] otherwise ds values s = s
play_by mine ((q, v) ∷ rest) otherwise ds values s =
    play_by mine rest otherwise ds values
    (literal_of v (if is_quantifier q mine then decided (otherwise v) ds v s else values v) ∷ s)

-- a literal of a proof's step as the player wants it: the universal player wants clauses to be false, the existential player cubes to be
-- true
abbrev pub wanted : Quantifier → Literal → Literal
wanted All l = negated l
wanted Exists l = l

-- the decision of the literals that a step keeps, and of those that are removed
abbrev pub decision_by : Quantifier → List Literal → List Literal → Decision
decision_by mine kept removed = record { when = map (wanted mine) kept; sets = map (wanted mine) removed }

-- the decisions of lists of these
abbrev pub decisions_by : Quantifier → List (List Literal) → List (List Literal) → List Decision
decisions_by mine [] removed = []
decisions_by mine (k ∷ kept) [] = []
decisions_by mine (k ∷ kept) (r ∷ removed) = decision_by mine k r ∷ decisions_by mine kept removed
