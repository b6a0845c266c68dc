-- The parts of a trace, given one after the other.
use Rattle.std.specs.Prelude.{◌≡◌, ◌<◌, ◌≤◌, Option, ◌+◌, ℕ, false, List, length, Result, Ok, IfOk, OnOk, ⊤}
use Rattle.qbf_text.specs.Ahead.{ahead}
use Rattle.qbf_text.specs.Reading.{Reading, HasFailed, left}
use Rattle.qbf_text.specs.Stopping.{IfKnown, tokens_next}
use Rattle.qbf_text.specs.WholeTexts.{TellsFailures}
use Rattle.qrp.specs.declared.fault.TraceFault.TheVariants.{P1, P9}
use Rattle.trace_items.specs.declared.item.Item.{Item}
use Rattle.qrp.specs.declared.reader.Stage.{Stage}
use Rattle.qrp.specs.declared.reader.Stage.TheVariants.{AtHeader, AtLists}
use Rattle.trace_items.specs.Flat.{Kept}
use Rattle.qrp.specs.NextItem.{known_items, left_after, is_last, numbers_with, stage_after, GivesNextItem, IsProper, StopsAfterPart}
use Rattle.qrp.specs.Reading.{Fault, State, AtP, Between, After}

-- the parts that are kept of those that were given, and the state of reading
pub record ItemsRead : Type 0 where
  pub kept : Kept
  pub state : State

-- an item is complete
abbrev pub HasItem : State → Type 0
HasItem (After i ns) = ⊤
HasItem here = ⊥

-- The item that was complete was given, and it keeps the rules of the grammar. If it is a step, its number is kept; and if it is not the
-- last item, the next token is between lists.
pub record GivesItem (i : Item) (old new : ItemsRead) : Type 0 where
  pub item : old.state ≡ After i (numbers_with old.kept.numbers (Ok i))
  pub proper : IsProper old.kept.numbers i
  pub numbers : new.kept.numbers ≡ numbers_with old.kept.numbers (Ok i)
  pub next : is_last (Ok i) ≡ false → new.state ≡ Between new.kept.numbers

-- a reader at this stage takes its next token here
abbrev pub Stands : Stage → ItemsRead → Type 0
Stands AtHeader g = g.state ≡ AtP
Stands AtLists g = g.state ≡ Between g.kept.numbers
Stands done g = ⊤

-- ---- the result of reading an item

-- the item keeps the rules of the grammar, its number is after the others, and the state is the one in which the next token is taken
pub record IsItem (old new : ItemsRead) (result : Result Item Fault) : Type 0 where
  pub proper : IfOk result (λ i. IsProper old.kept.numbers i)
  pub numbers : new.kept.numbers ≡ numbers_with old.kept.numbers result
  pub stands : Stands (stage_after result) new

-- the devices after a call: the scanner did not fail with an item, after each item but the last less can still come, and the result tells
-- of their failures
pub record IsDriven (scanner : Reading) (before bound old new : ℕ) (result : Result Item Fault) : Type 0 where
  pub ready : OnOk result (¬ HasFailed scanner)
  pub less : is_last result ≡ false → length scanner.pending + bound < before
  pub failures : TellsFailures P1 P9 old new result

-- an item was read from this state on: what was left is the result and what is left now, and nothing is read past the item but a
-- separator and what is held
pub record ReadsItem (state : State) (ns : List ℕ) (old : Reading) (before : Option (List ℕ)) (new : Reading) (after : Option (List ℕ))
    (result : Result Item Fault) : Type 0 where
  pub gives : GivesNextItem (known_items state (left old before)) (left_after (stage_after result) ns (left new after)) result
  pub stops : IfOk result (λ i. IfKnown (StopsAfterPart state (tokens_next old) i) (ahead old.pending before) (ahead new.pending after)
      × (length new.pending ≤ 4096))
