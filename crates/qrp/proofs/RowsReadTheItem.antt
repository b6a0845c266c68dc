-- The item that is read by the rows of the items is the next one.
use Rattle.qrp.proofs.Cited.{arith, common_steps, rules, ◌≡◌, ℕ, List, [], ◌∷◌, Some, Ok, Err, ◌⊎◌, refl, ap, sym, ◌∙◌, Token, Lined, Read}
use Rattle.qrp.proofs.Cited.{read-one, ReadError, Known, Cut, reads_from, Leaves, ReadsWhole, TraceFault, P1, P7, P9, Item, known_items}
use Rattle.qrp.proofs.Cited.{GivesUnless, GivesNextItem, left_after, stage_after, Stage, AtHeader, AtLists, ItemsRead, Stands, fault_of}
use Rattle.dimacs_syntax.proofs.Cited.{read_from}
use Rattle.qbf_text.specs.Rows as rows
use Rattle.qbf_text.proofs.OneToken as going
use Rattle.qrp.specs.Reading.{State, After, row, items_from, next_state, item_and_more}
use Rattle.qrp.proofs.SpelledIsRead.{ItemResult, after, items-one, end_row}

-- the items that are left to give if reading by rows gives this
abbrev pub given_of : Read State (Unit {0}) TraceFault → List ItemResult
given_of (rows.Whole u next rest) = item_and_more next (items_from (next_state next) rest)
given_of (rows.Fault f line) = Err (f, line) ∷ []
given_of Cut = Err (P7, 0) ∷ []

-- ---- the items that are left, and what is read of them by rows

abbrev pub More : List Lined → Type 0
More ts = (p : State) → items_from p ts ≡ given_of (read_from row p ts)

by_token : (t : Token) (line : ℕ) (ts : List Lined) → More ts → (p : State)
    → after (row p t) line ts ≡ given_of (going.after row (row p t) (t, line) ts)
by_token t line ts more p = grind (arith, common_steps, end_row)

pub gives : (ts : List Lined) → More ts
unfolding items_from read_from
gives [] = λ p. refl
gives (t ∷ ts) = λ p. items-one p t ts ∙ by_token t.0 t.1 ts (gives ts) p ∙ ap given_of (sym (read-one row p t ts))

-- ---- the result of a call that reads so

pub item_given : (p : State) (known : Known) (next : State) (rest : Known) (i : Item) (ns : List ℕ)
    → Leaves (reads_from row p known) tt next rest → next ≡ After i ns
    → GivesNextItem (known_items p known) (left_after (stage_after (Ok i)) ns rest) (Ok i)
item_given p known next rest i ns leaves is = grind (arith, common_steps, gives)

pub fault_given : (p : State) (known : Known) (next : State) (rest : Known) (e : ReadError TraceFault)
    → ReadsWhole (reads_from row p known) next rest (Err e)
    → GivesUnless (fault_of P1 P9 e).0 (known_items p known) (Some (Err (fault_of P1 P9 e) ∷ [])) (Err (fault_of P1 P9 e))
fault_given p known next rest e h = grind (arith, common_steps, gives)

-- the items that are left of a reader that is not done
pub left_next : (stage : Stage) (g : ItemsRead) (known : Known) → (stage ≡ AtHeader) ⊎ (stage ≡ AtLists) → Stands stage g
    → left_after stage g.kept.numbers known ≡ known_items g.state known
left_next stage g known open_ stands = search rules
