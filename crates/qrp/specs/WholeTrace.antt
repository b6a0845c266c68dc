-- A trace that is read as a whole: each item that is complete is kept, and the next token is after it.
use Rattle.std.specs.Prelude.{Result, Ok, Err, ⊤}
use Rattle.qbf_tokens.specs.declared.token.Token.{Token}
use Rattle.qbf_text.specs.Rows.{Goes, Ends, Fails}
use Rattle.qbf_text.specs.Rows as rows
use Rattle.qrp.specs.declared.fault.TraceFault.{TraceFault}
use Rattle.qrp.specs.declared.fault.TraceFault.TheVariants.{P7}
use Rattle.trace_items.specs.declared.item.Item.TheVariants as item
use Rattle.trace_items.specs.declared.item.Outcome.{Outcome}
use Rattle.trace_items.specs.declared.parts.Parts.{Parts}
use Rattle.qrp.specs.declared.states.State as states
use Rattle.trace_items.specs.Derivations.{Derivation}
use Rattle.trace_items.specs.StepLists.{ListsOfSteps}
use Rattle.trace_items.specs.Flat.{kept_of, trace_of, with_item, IsFlat}
use Rattle.qrp.specs.Reading.{Fault, State, Row, AtP, Between, After, nothing, row}
use Rattle.qrp.specs.States.{state_at, IsSound}

-- the trace that is made of the items that were read, and the state of the next token
pub record TraceRead : Type 0 where
  pub made : Derivation
  pub state : State

-- nothing yet
abbrev pub nothing_read : TraceRead
nothing_read = record { made = nothing; state = AtP }

-- the trace that is made of these parts, and the state of the next token
abbrev pub trace_at : {A : Type 0} → (A → ListsOfSteps) → Parts A → states.State → TraceRead
trace_at lists p here = record { made = trace_of (kept_of lists p); state = state_at p.lists here }

-- the invariant of the parts at the state of the next token
abbrev pub AreSound : {A : Type 0} → (A → ListsOfSteps) → states.State → Parts A → Type 0
AreSound lists here p = IsSound here p.lists × IsFlat (kept_of lists p)

-- A row: what a state makes of a token. Only the result ends what is read.
abbrev pub TraceRow : Type 0
TraceRow = rows.Row TraceRead (Unit {0}) TraceFault

-- the row after an item, or in one
abbrev pub with_item_kept : Derivation → State → TraceRow
with_item_kept d (After (item.Result o) ns) = Ends tt (record { made = d; state = After (item.Result o) ns })
with_item_kept d (After i ns) = Goes (record { made = with_item d i; state = Between ns })
with_item_kept d here = Goes (record { made = d; state = here })

-- the row after a token
abbrev pub kept_row : Derivation → Row → TraceRow
kept_row d (Goes next) = Goes (record { made = d; state = next })
kept_row d (Ends u next) = with_item_kept d next
kept_row d (Fails f) = Fails f

-- the row of each state
abbrev pub trace_row : TraceRead → Token → TraceRow
trace_row r t = kept_row r.made (row r.state t)

-- the trace that these parts make with this result, or the fault
abbrev pub trace_with : {A : Type 0} → (A → ListsOfSteps) → Result (Parts A × Outcome) Fault → Result Derivation Fault
trace_with lists (Ok r) = Ok (record (trace_of (kept_of lists r.0)) { result = r.1 })
trace_with lists (Err e) = Err e

-- the result was read
abbrev pub HasResult : State → Type 0
HasResult (After (item.Result o) ns) = ⊤
HasResult here = ⊥

-- the trace, once the result was read
abbrev pub made_with : Derivation → State → Result Derivation Fault
made_with d (After (item.Result o) ns) = Ok (record d { result = o })
made_with d here = Err (P7, 0)

abbrev pub made_of : TraceRead → Result Derivation Fault
made_of r = made_with r.made r.state
