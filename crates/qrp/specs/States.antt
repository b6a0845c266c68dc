-- The states of reading a trace, each made of the unfinished lists.
use Rattle.std.specs.Prelude.{◌≡◌, ℕ, ℤ, List, [], Option, Some, None, Result, Ok, Err, ⊤}
use Rattle.dimacs_syntax.specs.Cited.{AllByRecursion}
use Rattle.qbf_text.specs.declared.grammar.Stop.{Stop}
use Rattle.qbf_text.specs.declared.grammar.Stop.TheVariants as stop
use Rattle.qrp.specs.declared.fault.TraceFault.{TraceFault}
use Rattle.qrp.specs.declared.states.State as states
use Rattle.qrp.specs.declared.states.State.TheVariants as at
use Rattle.trace_items.specs.declared.parts.Lists.{Lists}
use Rattle.trace_items.specs.declared.parts.Part.{Part}
use Rattle.trace_items.specs.declared.parts.Part.TheVariants as part
use Rattle.trace_items.specs.Parts.{item_of, numbers_after, IsComplete, IsNew, Stays}
use Rattle.trace_items.specs.Antecedents.{list_of_pair}
use Rattle.trace_items.specs.Inferences.{IsLiteral}
use Rattle.qbf_text.specs.Rows.{Goes, Ends, Fails}
use Rattle.qbf_text.specs.TakenNumbers.{LeadsOver, EndsOver}
use Rattle.qrp.specs.Reading.{State, Row, row, InHeader, Between, InSet, InLits, InAnts, AtResult, After}

-- the state of reading with these lists
abbrev pub state_at : Lists → states.State → State
state_at b (at.InHeader here) = InHeader here
state_at b at.Between = Between b.index
state_at b (at.InSet q) = InSet q b.vars.items
state_at b (at.InLits n) = InLits b.index n b.lits.unfinished
state_at b (at.InAnts n) = InAnts b.index n b.lits.unfinished (list_of_pair b.ants)
state_at b at.AtResult = AtResult b.index
state_at b (at.After p) = After (item_of b p) (numbers_after b p)

-- a token leads where its row says, unless an allocation failed
abbrev pub Moves : Row → Lists → Result states.State (Stop TraceFault) → Type 0
Moves r b (Ok (at.After p)) = r ≡ Ends tt (state_at b (at.After p))
Moves r b (Ok next) = r ≡ Goes (state_at b next)
Moves r b (Err stop.Memory) = ⊤
Moves r b (Err (stop.Text f)) = r ≡ Fails f

-- the part that is complete
abbrev pub completed : states.State → Option Part
completed (at.After p) = Some p
completed here = None

-- numbers lead to the next state, or the last of them completes a part
abbrev pub Arrives : State → Lists → states.State → List ℤ → (from to : ℕ) → Option Part → Type 0
Arrives first b next values from to None = LeadsOver row first (state_at b next) values from to
Arrives first b next values from to (Some p) = (next ≡ at.After p) × EndsOver row first (state_at b next) tt values from to

-- ---- the invariant of the unfinished lists

-- the invariant at each state
abbrev pub IsSound : states.State → Lists → Type 0
IsSound (at.InHeader here) b = b.index ≡ []
IsSound at.Between b = ⊤
IsSound (at.InSet q) b = IsComplete (part.Set q) b
IsSound (at.InLits n) b = IsNew n b.index × AllByRecursion IsLiteral b.lits.unfinished
IsSound (at.InAnts n) b = IsComplete (part.Step n) b
IsSound at.AtResult b = ⊤
IsSound (at.After p) b = IsComplete p b

-- after a token: the invariant of the new state, with the complete lists unchanged; a fault of the text changes nothing
abbrev pub Leads : states.State → Lists → Lists → Result states.State (Stop TraceFault) → Type 0
Leads here old new (Ok next) = Stays old new × IsSound next new
Leads here old new (Err stop.Memory) = Stays old new × IsSound here new
Leads here old new (Err (stop.Text f)) = new ≡ old
