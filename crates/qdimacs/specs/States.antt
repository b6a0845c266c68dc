-- The parts of a formula while it is read: the formula that is made of them, and the state of the next token.
use Rattle.std.specs.Prelude.{◌≡◌, ◌<◌, ◌≤◌, true, [], length, Result, Ok, Err, ⊤}
use Rattle.dimacs_syntax.specs.Cited.{AllByRecursion, pairs, Qbf, IsWellFormed, Fails}
use Rattle.qbf_core.specs.Blocks.{variables, AreBound, IsPrefix}
use Rattle.qbf_text.specs.Rows.{Goes, Ends}
use Rattle.qbf_text.specs.declared.grammar.Stop.{Stop}
use Rattle.qbf_text.specs.declared.grammar.Stop.TheVariants as stop
use Rattle.dimacs_syntax.specs.Headers.{IsUpTo}
use Rattle.qdimacs.specs.declared.fault.FormulaFault.{FormulaFault}
use Rattle.qdimacs.specs.declared.states.State as states
use Rattle.qdimacs.specs.declared.states.State.TheVariants as at
use Rattle.qdimacs.specs.declared.states.Parts.{Parts}
use Rattle.qdimacs.specs.Reading.{Heading, State, InHeader, Between, InSet, InClause, Whole, Row, IsFull}

-- the numbers of the header
abbrev pub heading : Parts → Heading
heading p = record { max_var = p.max_var; count = p.count }

-- the formula that is made of what is whole
abbrev pub formula_of : Parts → Qbf
formula_of p = record { max_var = p.max_var; blocks = p.prefix; clauses = p.clauses.whole }

-- the state of reading with these parts
abbrev pub state_at : Parts → states.State → State
state_at p (at.InHeader here) = InHeader here
state_at p at.Between = Between (heading p) (pairs p.prefix) p.clauses.whole
state_at p (at.InSet q) = InSet (heading p) (pairs p.prefix) q
state_at p at.InClause = InClause (heading p) (pairs p.prefix) p.clauses.whole p.clauses.unfinished
state_at p at.Whole = Whole (formula_of p)

-- the row that leads there
abbrev pub row_to : Parts → states.State → Row
row_to p at.Whole = Ends tt (state_at p at.Whole)
row_to p next = Goes (state_at p next)

-- the next state is that of the row, unless an allocation failed
abbrev pub Moves : Row → Parts → Result states.State (Stop FormulaFault) → Type 0
Moves r p (Ok next) = r ≡ row_to p next
Moves r p (Err stop.Memory) = ⊤
Moves r p (Err (stop.Text f)) = r ≡ Fails f

-- ---- the invariant of the parts

-- nothing is made yet
abbrev pub IsNothing : Parts → Type 0
IsNothing p = (p.prefix ≡ []) × (p.clauses.whole ≡ []) × (p.clauses.unfinished ≡ [])

-- the numbers of the header are in range, and no variable is above the first of them
pub record AreCounted (p : Parts) : Type 0 where
  pub max_var : p.max_var ≤ 2147483647
  pub count : p.count ≤ 2147483647
  pub top : AllByRecursion (λ v. v ≤ p.max_var) (variables (pairs p.prefix))

-- the invariant of the whole parts, once the sets are whole
pub record IsMade (p : Parts) : Type 0 where
  pub counted : AreCounted p
  pub prefix : IsPrefix p.prefix
  pub full : p.full ≡ true → IsFull p.max_var (pairs p.prefix)
  pub closed : AllByRecursion (AreBound p.prefix) p.clauses.whole
  pub few : length p.clauses.whole ≤ p.count

-- the invariant at each state
abbrev pub IsSound : states.State → Parts → Type 0
IsSound (at.InHeader here) p = IsNothing p × IsUpTo 2147483647 here
IsSound at.Between p = IsMade p × (p.clauses.unfinished ≡ [])
IsSound (at.InSet q) p = AreCounted p × (p.clauses.whole ≡ []) × (p.clauses.unfinished ≡ [])
IsSound at.InClause p = IsMade p × AreBound p.prefix p.clauses.unfinished × (length p.clauses.whole < p.count)
IsSound at.Whole p = IsWellFormed (formula_of p)

-- the invariant at the state that a token leads to; if the token is not taken, nothing is changed
abbrev pub Leads : Parts → Parts → Result states.State (Stop FormulaFault) → Type 0
Leads old new (Ok next) = IsSound next new
Leads old new (Err e) = new ≡ old
