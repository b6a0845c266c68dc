-- The parts of a trace, each made of the unfinished lists.
use Rattle.std.specs.Prelude.{◌≡◌, ◌<◌, ◌≤◌, ◌^◌, ℕ, false, List, [], ◌∷◌, ◌++◌, length, ⊤}
use Rattle.std.specs.List.{AllByRecursion}
use Rattle.qbf_core.specs.Blocks.{IsVariable}
use Rattle.trace_items.specs.declared.item.Item.{Item}
use Rattle.trace_items.specs.declared.item.Item.TheVariants as item
use Rattle.trace_items.specs.declared.parts.Lists.{Lists}
use Rattle.trace_items.specs.declared.parts.Part.{Part}
use Rattle.trace_items.specs.declared.parts.Part.TheVariants as part
use Rattle.trace_items.specs.Antecedents.{list_of_pair}
use Rattle.trace_items.specs.Inferences.{IsLiteral, IsNumber}
use Rattle.step_index.specs.Numbers.{is_used}

-- the item of a part
abbrev pub item_of : Lists → Part → Item
item_of b (part.Header h) = item.Header h
item_of b (part.Set q) = item.Set (record { quantifier = q; vars = b.vars.items })
item_of b (part.Step n) = item.Step (record { number = n; lits = b.lits.unfinished; ants = list_of_pair b.ants })
item_of b (part.Result o) = item.Result o

-- the numbers of the steps after a part
abbrev pub numbers_after : Lists → Part → List ℕ
numbers_after b (part.Step n) = b.index ++ n ∷ []
numbers_after b p = b.index

-- whole lists and the numbers of whole steps are as they were
pub record Stays (old new : Lists) : Type 0 where
  pub index : new.index ≡ old.index
  pub lits : new.lits.whole ≡ old.lits.whole

-- ---- a part that is complete

-- a number of a step that may come after steps with these numbers
abbrev pub IsNew : ℕ → List ℕ → Type 0
IsNew n ns = IsNumber n × (is_used n ns ≡ false)

-- the antecedents of a step
pub record AreAntecedents (ants : List ℕ) : Type 0 where
  pub numbers : AllByRecursion IsNumber ants
  pub fit : AllByRecursion (λ n. n < 2 ^ 64) ants
  pub few : length ants ≤ 2

-- the invariant after a part
abbrev pub IsComplete : Part → Lists → Type 0
IsComplete (part.Header h) b = (b.index ≡ []) × (h.vars < 2 ^ 64) × (h.steps < 2 ^ 64)
IsComplete (part.Set q) b = (b.index ≡ []) × AllByRecursion IsVariable b.vars.items
IsComplete (part.Step n) b = IsNew n b.index × AllByRecursion IsLiteral b.lits.unfinished × AreAntecedents (list_of_pair b.ants)
IsComplete (part.Result o) b = ⊤
