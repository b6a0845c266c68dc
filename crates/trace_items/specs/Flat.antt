-- Steps whose literals and antecedents lie in flat buffers.
use Rattle.std.specs.Prelude.{◌≡◌, ℕ, List, [], ◌∷◌, ◌++◌, length}
use Rattle.qbf_core.specs.Blocks.{Block}
use Rattle.qbf_core.specs.Literal.{Literal}
use Rattle.trace_items.specs.declared.item.Header.{Header}
use Rattle.trace_items.specs.declared.item.Item.{Item}
use Rattle.trace_items.specs.declared.item.Item.TheVariants as item
use Rattle.trace_items.specs.declared.item.Outcome.TheVariants.{Sat}
use Rattle.trace_items.specs.declared.parts.Parts.{Parts}
use Rattle.trace_items.specs.declared.parts.Part.{Part}
use Rattle.trace_items.specs.Derivations.{Derivation, IsWellFormed}
use Rattle.trace_items.specs.Inferences.{Inference, numbers}
use Rattle.trace_items.specs.StepLists.{ListsOfSteps}
use Rattle.trace_items.specs.Parts.{item_of, numbers_after}

-- the steps of these numbers, literals and antecedents
abbrev pub steps_of : List ℕ → List (List Literal) → List (List ℕ) → List Inference
steps_of [] lits ants = []
steps_of (n ∷ ns) [] ants = []
steps_of (n ∷ ns) (l ∷ lits) [] = []
steps_of (n ∷ ns) (l ∷ lits) (a ∷ ants) = record { number = n; lits = l; ants = a } ∷ steps_of ns lits ants

-- the whole parts of a trace
pub record Kept : Type 0 where
  pub header : Header
  pub sets : List Block
  pub numbers : List ℕ
  pub lits : List (List Literal)
  pub ants : List (List ℕ)

-- nothing yet
abbrev pub nothing_kept : Kept
nothing_kept = record { header = record { vars = 0; steps = 0 }; sets = []; numbers = []; lits = []; ants = [] }

-- the trace that is made of these parts
abbrev pub trace_of : Kept → Derivation
trace_of k = record { header = k.header; sets = k.sets; steps = steps_of k.numbers k.lits k.ants; result = Sat }

-- each step has its number, its literals and its antecedents, and the whole is well formed, which no result changes
pub record IsFlat (k : Kept) : Type 0 where
  pub well_formed : IsWellFormed (trace_of k)
  pub same : k.numbers ≡ numbers (trace_of k).steps
  pub lits_counted : length k.lits ≡ length k.numbers
  pub ants_counted : length k.ants ≡ length k.numbers

-- the whole ones of these parts; `lists` gives the literals and the antecedents of the steps
abbrev pub kept_of : {A : Type 0} → (A → ListsOfSteps) → Parts A → Kept
kept_of lists p = record {
  header = p.header;
  sets = p.sets;
  numbers = p.lists.index;
  lits = (lists p.steps).lits;
  ants = (lists p.steps).ants;
}

-- a trace with one more item; a result is not kept
abbrev pub with_item : Derivation → Item → Derivation
with_item d (item.Header h) = record d { header = h }
with_item d (item.Set s) = record d { sets = d.sets ++ s ∷ [] }
with_item d (item.Step s) = record d { steps = d.steps ++ s ∷ [] }
with_item d (item.Result o) = d

-- an unfinished part is whole
pub record ClosesPart {A : Type 0} (lists : A → ListsOfSteps) (old new : Parts A) (p : Part) : Type 0 where
  pub made : trace_of (kept_of lists new) ≡ with_item (trace_of (kept_of lists old)) (item_of old.lists p)
  pub numbers : new.lists.index ≡ numbers_after old.lists p
  pub flat : IsFlat (kept_of lists new)
