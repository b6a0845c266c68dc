-- Reading an item stops after its last word.
use Rattle.qrp.proofs.Cited.{rules, ◌≡◌, ℕ, List, [], ◌∷◌, ◌++◌, Option, Ok, ◌⊎◌, refl, sym, ap, append-nil, ◌∙◌, Lined, IfKnown, Stops}
use Rattle.qrp.proofs.Cited.{Item, Stage, AtHeader, AtLists, StopsAfterPart, state_next, ItemsRead, Stands}
use Rattle.qbf_text.specs.Rows as rows
use Rattle.qbf_text.specs.Stopping as text
use Rattle.qbf_text.proofs.Stops.{if_known, taken_no_end, unread_fault}
use Rattle.trace_items.specs.declared.item.Item.TheVariants as item
use Rattle.qrp.specs.Reading.{State, Between, After, row, items_from}
use Rattle.qrp.proofs.RowsReadTheItem.{gives, given_of}
use Rattle.qrp.proofs.SpelledIsRead.{ItemResult, end_row}

-- an item that is complete is given
given_whole : (i : Item) (ns : List ℕ) (rest : List Lined)
    → (more : List ItemResult) × (given_of (rows.Whole tt (After i ns) rest) ≡ Ok i ∷ more)
given_whole (item.Result o) ns rest = ([], refl)
given_whole i ns rest = (items_from (Between ns) rest, refl)

part_after : (p : State) (here there : List ℕ → List Lined) (i : Item) (ns bytes rest : List ℕ)
    → text.StopsAfter row p (After i ns) tt here there bytes rest → StopsAfterPart p here i bytes rest
part_after p here there i ns bytes rest s =
    let whole = given_whole i ns (there []) in
    record {
      before = s.before;
      word = s.word;
      separator = s.separator;
      consumed = s.taken;
      unbroken = s.unbroken;
      separates = s.separates;
      missing = (s.line, gives (here s.before) p ∙ ap given_of (unread_fault row end_row s));
      whole = (
        whole.0,
        ap (λ l. items_from p (here l)) (sym (append-nil (s.before ++ s.word ++ s.separator)))
            ∙ gives (here (s.before ++ s.word ++ s.separator ++ [])) p ∙ ap given_of (s.whole [] tt) ∙ whole.1,
      );
    }

module _ (p next : State) (here there : List ℕ → List Lined) (before after : Option (List ℕ)) (few : Type 0)
    (stops : Stops row p next here there before after few (Ok tt)) where
  pub known_stops : IfKnown (text.StopsAfter row p next tt here there) before after × few
  known_stops = stops.3 (taken_no_end row end_row stops.0 next stops.1 tt stops.2)

  pub item_stops : (i : Item) (ns : List ℕ) → next ≡ After i ns → IfKnown (StopsAfterPart p here i) before after × few
  item_stops i ns is = (if_known (part_after p here there i ns) before after (rw is at known_stops.0), known_stops.1)

-- the place of the next token in a reader that is not done
pub stands_next : (stage : Stage) (g : ItemsRead) → (stage ≡ AtHeader) ⊎ (stage ≡ AtLists) → Stands stage g → g.state ≡ state_next stage g.kept.numbers
stands_next stage g open_ stands = search rules
