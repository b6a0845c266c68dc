-- The lines of a canonical text.
use Rattle.std.proofs.Common.{◌≡◌, ℕ, Bool, true, false, List, [], ◌∷◌, ◌++◌, map, refl, sym, ap, ◌∙◌, append_assoc, inl, inr}
use Rattle.std.specs.Prelude.{codes}
use Rattle.std.specs.List.{AllByRecursion, flat_map, join_by, onto_first, slice_split}
use Rattle.std.proofs.lemmas.Bool.{false≢true}
use Rattle.std.proofs.lemmas.Bool.Decides.{eqb_tells}
use Rattle.std.proofs.lemmas.List.Splits.{slice_split-cons_no, slice_split-cons_yes}
use Rattle.qbf_core.specs.declared.quantifier.Quantifier.{Quantifier}
use Rattle.qbf_core.specs.declared.quantifier.Quantifier.TheVariants.{All, Exists}
use Rattle.qbf_gates.specs.declared.kind.GateKind.{GateKind}
use Rattle.qbf_gates.specs.declared.kind.GateKind.TheVariants.{Choice, Conjunction, Difference, Disjunction}
use Rattle.qbf_tokens.proofs.CanonicalTokens.{all_appended}
use Rattle.qbf_tokens.specs.Tokens.{is_line_end}
use Rattle.qcir_tokens.specs.Tokens.{is_word_byte}
use Rattle.qcir_tokens.proofs.Runs.{IsWord}
use Rattle.qcir.specs.Names.{Name}
use Rattle.qcir.specs.Texts.{call_text, quantifier_text}
use Rattle.qcir.proofs.Statements.{GateOf, OutputOf, SetOf, Statement, kind_text, line_of, plain, signed_text}
use Rattle.qcir.proofs.WrittenTokens.{HasNames, rest_text}

-- ---- lines have no line end within

abbrev pub IsInside : ℕ → Type 0
IsInside b = is_line_end b ≡ false

-- a line without a line end
abbrev pub IsLine : List ℕ → Type 0
IsLine line = AllByRecursion IsInside line

word_inside : (b : ℕ) → is_word_byte b ≡ true → IsInside b
word_inside b e =
    elim (eqb_tells b 10) [
      | inl h ↦ (let f : is_word_byte b ≡ false = rw h.1 refl in absurd (false≢true (sym f ∙ e)))
      | inr h ↦ h.0
    ]

name_inside : (w : List ℕ) → AllByRecursion (λ c. is_word_byte c ≡ true) w → IsLine w
name_inside [] all = tt
name_inside (b ∷ w) all = (word_inside b all.0, name_inside w all.1)

pub whole_inside : (w : Name) → IsWord w → IsLine w
whole_inside [] name = absurd name
whole_inside (b ∷ w) name = name_inside (b ∷ w) name

signed_inside : (m : Bool × Name) → IsWord m.1 → IsLine (signed_text m)
signed_inside (false, w) name = whole_inside w name
signed_inside (true, w) name = (refl, whole_inside w name)

rest_inside : {X : Type 0} (item : X → List ℕ) (items : List X) → AllByRecursion (λ x. IsLine (item x)) items → IsLine (rest_text item items)
rest_inside item [] all = tt
rest_inside item (x ∷ items) all =
    (refl, (refl, all_appended IsInside (item x) (rest_text item items) all.0 (rest_inside item items all.1)))

joined_inside : {X : Type 0} (item : X → List ℕ) (items : List X) → AllByRecursion (λ x. IsLine (item x)) items
    → IsLine (join_by item (44 ∷ 32 ∷ []) items)
joined_inside item [] all = tt
joined_inside item (x ∷ items) all = all_appended IsInside (item x) (rest_text item items) all.0 (rest_inside item items all.1)

call_inside : {X : Type 0} (word : List ℕ) (item : X → List ℕ) (items : List X) → IsLine word → AllByRecursion (λ x. IsLine (item x)) items
    → IsLine (call_text word item items)
call_inside word item items inside all =
    let joined = join_by item (44 ∷ 32 ∷ []) items in
    all_appended IsInside word (40 ∷ (joined ++ 41 ∷ [])) inside
    (refl, all_appended IsInside joined (41 ∷ []) (joined_inside item items all) (refl, tt))

quantifier_inside : (q : Quantifier) → IsLine (quantifier_text q)
quantifier_inside All = (refl, (refl, (refl, (refl, (refl, (refl, tt))))))
quantifier_inside Exists = (refl, (refl, (refl, (refl, (refl, (refl, tt))))))

kind_inside : (kind : GateKind) → IsLine (kind_text kind)
kind_inside Conjunction = (refl, (refl, (refl, tt)))
kind_inside Disjunction = (refl, (refl, tt))
kind_inside Difference = (refl, (refl, (refl, tt)))
kind_inside Choice = (refl, (refl, (refl, tt)))

names_inside : (ws : List Name) → AllByRecursion IsWord ws → AllByRecursion (λ w. IsLine (plain w)) ws
names_inside [] all = tt
names_inside (w ∷ ws) all = (whole_inside w all.0, names_inside ws all.1)

literals_inside : (ms : List (Bool × Name)) → AllByRecursion (λ m. IsWord m.1) ms → AllByRecursion (λ m. IsLine (signed_text m)) ms
literals_inside [] all = tt
literals_inside (m ∷ ms) all = (signed_inside m all.0, literals_inside ms all.1)

line_inside : (st : Statement) → HasNames st → IsLine (line_of st)
line_inside (SetOf q []) named = absurd named
line_inside (SetOf q (w ∷ ws)) named = call_inside (quantifier_text q) plain (w ∷ ws) (quantifier_inside q) (names_inside (w ∷ ws) named)
line_inside (OutputOf negative w) named =
    call_inside (codes "output") signed_text ((negative, w) ∷ []) (refl, (refl, (refl, (refl, (refl, (refl, tt))))))
    (signed_inside (negative, w) named, tt)
line_inside (GateOf w kind ms) named =
    all_appended IsInside w (codes " = " ++ call_text (kind_text kind) signed_text ms) (whole_inside w named.0)
    (refl, (refl, (refl, call_inside (kind_text kind) signed_text ms (kind_inside kind) (literals_inside ms named.1))))

pub lines_inside : (sts : List Statement) → AllByRecursion HasNames sts → AllByRecursion IsLine (map line_of sts)
lines_inside [] named = tt
lines_inside (st ∷ sts) named = (line_inside st named.0, lines_inside sts named.1)

-- ---- lines, each with its line end

pub line_before : (line rest : List ℕ) → AllByRecursion IsInside line
    → slice_split is_line_end (line ++ 10 ∷ rest) ≡ line ∷ slice_split is_line_end rest
line_before [] rest inside = slice_split-cons_yes is_line_end 10 rest refl
line_before (b ∷ line) rest inside =
    slice_split-cons_no is_line_end b (line ++ 10 ∷ rest) inside.0 ∙ ap (onto_first b) (line_before line rest inside.1)

pub lines_are : (lines : List (List ℕ)) → AllByRecursion IsLine lines
    → slice_split is_line_end (flat_map (λ line. line ++ 10 ∷ []) lines) ≡ lines ++ [] ∷ []
lines_are [] inside = refl
lines_are (line ∷ lines) inside =
    let rest = flat_map (λ (l : List ℕ). l ++ 10 ∷ []) lines in
    ap (slice_split is_line_end) (append_assoc line (10 ∷ []) rest)
    ∙ (line_before line rest inside.0 ∙ ap (λ (ls : List (List ℕ)). line ∷ ls) (lines_are lines inside.1))

pub header_before : (rest : List ℕ) → slice_split is_line_end (codes "#QCIR-14" ++ 10 ∷ rest) ≡ codes "#QCIR-14" ∷ slice_split is_line_end rest
header_before rest =
    line_before (codes "#QCIR-14") rest (refl, (refl, (refl, (refl, (refl, (refl, (refl, (refl, tt))))))))
