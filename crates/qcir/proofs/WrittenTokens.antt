-- The canonical line of a statement says the statement, and each line that says it has the same runs.
use Rattle.std.proofs.Common.{◌≡◌, ◌≢◌, ℕ, ◌<◌, Bool, true, false, List, [], ◌∷◌, ◌++◌, length, get_or, refl, sym, ap, ◌∙◌, append_assoc}
use Rattle.std.proofs.Common.{◌⊎◌, inl, inr, Ok, subst}
use Rattle.std.specs.Prelude.{bytes_eq, codes}
use Rattle.std.specs.List.{AllByRecursion, flat_map, join_by}
use Rattle.std.proofs.lemmas.Bool.{cases_Bool, false≢true}
use Rattle.std.proofs.lemmas.Bool.Decides.{eqb_tells}
use Rattle.std.proofs.lemmas.Slice.Eq.{bytes_eq-Decides}
use Rattle.qbf_core.specs.declared.quantifier.Quantifier.{Quantifier}
use Rattle.qbf_core.specs.declared.quantifier.Quantifier.TheVariants.{All, Exists}
use Rattle.qbf_gates.specs.declared.kind.GateKind.{GateKind}
use Rattle.qbf_gates.specs.declared.kind.GateKind.TheVariants.{Choice, Conjunction, Difference, Disjunction}
use Rattle.qcir_tokens.specs.declared.mark.Mark.TheVariants.{Close, Comma, Equals, Minus, Open}
use Rattle.qcir_tokens.specs.Tokens.{Sign, Token, Word, is_word_byte, runs, tokens}
use Rattle.qcir_tokens.proofs.Runs.{IsKnown, IsNamed, same_runs, tokens_named}
pub use Rattle.qcir_tokens.proofs.Runs.{IsWord}
use Rattle.qcir_tokens.proofs.Spelled.{run_first_of, word_first_of}
use Rattle.qcir.specs.declared.keyword.Keyword.{Keyword}
use Rattle.qcir.specs.declared.keyword.Keyword.TheVariants as words
use Rattle.qcir.specs.Words.{keyword_of}
use Rattle.qcir.specs.Names.{Name}
use Rattle.qcir.specs.Lines.{signed}
use Rattle.qcir.specs.Reading.{kind_of}
use Rattle.qcir.specs.Grammar.{says_something}
use Rattle.qcir.specs.Texts.{call_text, quantifier_text}
use Rattle.qcir.proofs.Statements.{GateOf, OutputOf, Say, Says, SetOf, Statement, kind_text, line_of, literals_listed, literals_tail}
use Rattle.qcir.proofs.Statements.{names_tail, plain, signed_text, word_of}

-- ---- names as a line may have them

abbrev AreNames : List (Bool × Name) → Type 0
AreNames ms = AllByRecursion (λ m. IsWord m.1) ms

-- the names of a statement are words, and a set has some
abbrev pub HasNames : Statement → Type 0
HasNames (SetOf q []) = ⊥
HasNames (SetOf q (w ∷ ws)) = AllByRecursion IsWord (w ∷ ws)
HasNames (OutputOf negative w) = IsWord w
HasNames (GateOf w kind ms) = IsWord w × AreNames ms

signed_named : (negative : Bool) (w : Name) (ts : List Token) → AllByRecursion IsNamed (signed negative w ts)
    → IsWord w × AllByRecursion IsNamed ts
signed_named false w ts all = (all.0, all.1)
signed_named true w ts all = (all.1.0, all.1.1)

names_named : (ws : List Name) → AllByRecursion IsNamed (names_tail ws) → AllByRecursion IsWord ws
names_named [] all = tt
names_named (w ∷ ws) all = (all.1.0, names_named ws all.1.1)

tail_named : (ms : List (Bool × Name)) → AllByRecursion IsNamed (literals_tail ms) → AreNames ms
tail_named [] all = tt
tail_named (m ∷ ms) all = let one = signed_named m.0 m.1 (literals_tail ms) all.1 in (one.0, tail_named ms one.1)

listed_named : (ms : List (Bool × Name)) → AllByRecursion IsNamed (literals_listed ms) → AreNames ms
listed_named [] all = tt
listed_named (m ∷ ms) all = let one = signed_named m.0 m.1 (literals_tail ms) all in (one.0, tail_named ms one.1)

pub says_named : (ts : List Token) (st : Statement) → AllByRecursion IsNamed ts → Says ts st → HasNames st
says_named ts (SetOf q []) all said = absurd said
says_named ts (SetOf q (w ∷ ws)) all said =
    let tokens_are = said.2 in
    let here : AllByRecursion IsNamed (Word said.0 ∷ Sign Open ∷ Word w ∷ names_tail ws) = subst (AllByRecursion IsNamed) tokens_are all in
    (here.1.1.0, names_named ws here.1.1.1)
says_named ts (OutputOf negative w) all said =
    let tokens_are = said.2 in
    let here : AllByRecursion IsNamed (Word said.0 ∷ Sign Open ∷ signed negative w (Sign Close ∷ [])) = subst (AllByRecursion IsNamed) tokens_are all in
    (signed_named negative w (Sign Close ∷ []) here.1.1).0
says_named ts (GateOf w kind ms) all said =
    let tokens_are = said.2 in
    let here : AllByRecursion IsNamed (Word w ∷ Sign Equals ∷ Word said.0 ∷ Sign Open ∷ literals_listed ms) =
    subst (AllByRecursion IsNamed) tokens_are all in
    (here.0, listed_named ms here.1.1.1.1)

pub lines_named : (lines : List (List ℕ)) (sts : List Statement) → Say lines sts → AllByRecursion HasNames sts
lines_named [] [] said = tt
lines_named [] (st ∷ sts) said = absurd said
lines_named (line ∷ lines) [] said = tt
lines_named (line ∷ lines) (st ∷ sts) (inl said) = lines_named lines (st ∷ sts) said.1
lines_named (line ∷ lines) (st ∷ sts) (inr said) =
    (says_named (tokens line) st (tokens_named line) said.0, lines_named lines sts said.1)

-- ---- the tokens of a canonical line

pub name_then : (w bs : List ℕ) → IsWord w → (0 < length bs → is_word_byte (get_or bs 0 0) ≡ false) → tokens (w ++ bs) ≡ Word w ∷ tokens bs
name_then [] bs name front = absurd name
name_then (b ∷ w) bs name front = word_first_of b w bs name front

signed_tokens : (negative : Bool) (w : Name) (bs : List ℕ) → IsWord w → (0 < length bs → is_word_byte (get_or bs 0 0) ≡ false)
    → tokens (signed_text (negative, w) ++ bs) ≡ signed negative w (tokens bs)
signed_tokens false w bs name front = name_then w bs name front
signed_tokens true w bs name front = ap (λ (ts : List Token). Sign Minus ∷ ts) (name_then w bs name front)

-- items, each after a comma and a blank
abbrev pub rest_text : {X : Type 0} → (X → List ℕ) → List X → List ℕ
rest_text item items = flat_map (λ x. 44 ∷ 32 ∷ item x) items

-- what stands after an item does not go on with its word
rest_front : {X : Type 0} (item : X → List ℕ) (items : List X) → 0 < length (rest_text item items ++ 41 ∷ [])
    → is_word_byte (get_or (rest_text item items ++ 41 ∷ []) 0 0) ≡ false
rest_front item [] some = refl
rest_front item (x ∷ items) some = refl

first_name : (w : Name) (ws : List Name) → IsWord w → tokens (rest_text plain ws ++ 41 ∷ []) ≡ names_tail ws
    → tokens ((w ++ rest_text plain ws) ++ 41 ∷ []) ≡ Word w ∷ names_tail ws
first_name w ws one rest =
    ap tokens (append_assoc w (rest_text plain ws) (41 ∷ []))
    ∙ (name_then w (rest_text plain ws ++ 41 ∷ []) one (rest_front plain ws) ∙ ap (λ (ts : List Token). Word w ∷ ts) rest)

names_tokens : (ws : List Name) → AllByRecursion IsWord ws → tokens (rest_text plain ws ++ 41 ∷ []) ≡ names_tail ws
names_tokens [] all = refl
names_tokens (w ∷ ws) all = ap (λ (ts : List Token). Sign Comma ∷ ts) (first_name w ws all.0 (names_tokens ws all.1))

first_literal : (m : Bool × Name) (ms : List (Bool × Name)) → IsWord m.1 → tokens (rest_text signed_text ms ++ 41 ∷ []) ≡ literals_tail ms
    → tokens ((signed_text m ++ rest_text signed_text ms) ++ 41 ∷ []) ≡ signed m.0 m.1 (literals_tail ms)
first_literal m ms one rest =
    ap tokens (append_assoc (signed_text m) (rest_text signed_text ms) (41 ∷ []))
    ∙ (signed_tokens m.0 m.1 (rest_text signed_text ms ++ 41 ∷ []) one (rest_front signed_text ms) ∙ ap (signed m.0 m.1) rest)

rest_tokens : (ms : List (Bool × Name)) → AreNames ms → tokens (rest_text signed_text ms ++ 41 ∷ []) ≡ literals_tail ms
rest_tokens [] all = refl
rest_tokens (m ∷ ms) all = ap (λ (ts : List Token). Sign Comma ∷ ts) (first_literal m ms all.0 (rest_tokens ms all.1))

literals_tokens : (ms : List (Bool × Name)) → AreNames ms → tokens (join_by signed_text (44 ∷ 32 ∷ []) ms ++ 41 ∷ []) ≡ literals_listed ms
literals_tokens [] all = refl
literals_tokens (m ∷ ms) all = first_literal m ms all.0 (rest_tokens ms all.1)

set_says : (q : Quantifier) (w : Name) (ws : List Name) → AllByRecursion IsWord (w ∷ ws) → Says (tokens (line_of (SetOf q (w ∷ ws)))) (SetOf q (w ∷ ws))
set_says All w ws all = (
  codes "forall",
  refl,
  ap (λ (ts : List Token). Word (codes "forall") ∷ Sign Open ∷ ts) (first_name w ws all.0 (names_tokens ws all.1)),
)
set_says Exists w ws all = (
  codes "exists",
  refl,
  ap (λ (ts : List Token). Word (codes "exists") ∷ Sign Open ∷ ts) (first_name w ws all.0 (names_tokens ws all.1)),
)

kind_says : (kind : GateKind) (bs : List ℕ)
    → (kind_of (keyword_of (kind_text kind)) ≡ Ok kind) × (tokens (kind_text kind ++ 40 ∷ bs) ≡ Word (kind_text kind) ∷ Sign Open ∷ tokens bs)
kind_says Conjunction bs = (refl, refl)
kind_says Disjunction bs = (refl, refl)
kind_says Difference bs = (refl, refl)
kind_says Choice bs = (refl, refl)

pub line_says : (st : Statement) → HasNames st → Says (tokens (line_of st)) st
line_says (SetOf q []) named = absurd named
line_says (SetOf q (w ∷ ws)) named = set_says q w ws named
line_says (OutputOf negative w) named = (
  codes "output",
  refl,
  ap (λ (ts : List Token). Word (codes "output") ∷ Sign Open ∷ ts) (literals_tokens ((negative, w) ∷ []) (named, tt)),
)
line_says (GateOf w kind ms) named =
    let inputs = join_by signed_text (44 ∷ 32 ∷ []) ms ++ 41 ∷ [] in
    let word = kind_says kind inputs in (
      kind_text kind,
      word.0,
      name_then w (codes " = " ++ (kind_text kind ++ 40 ∷ inputs)) named.0 (λ some. refl)
          ∙ ap (λ (ts : List Token). Word w ∷ Sign Equals ∷ ts) (word.1
          ∙ ap (λ (ts : List Token). Word (kind_text kind) ∷ Sign Open ∷ ts) (literals_tokens ms named.1)),
    )

-- ---- the words of the format

-- the bytes of a word; those of any other word are not known
abbrev word_text : Keyword → List ℕ
word_text words.And = codes "and"
word_text words.Or = codes "or"
word_text words.Xor = codes "xor"
word_text words.Ite = codes "ite"
word_text words.Exists = codes "exists"
word_text words.Forall = codes "forall"
word_text words.Output = codes "output"
word_text words.Free = codes "free"
word_text words.Other = []

pub same_word : (w v : List ℕ) → bytes_eq w v ≡ true → w ≡ v
same_word w v e = (bytes_eq-Decides w v).0 e

keyword_is : (w : Name) → (keyword_of w ≡ words.Other) ⊎ (w ≡ word_text (keyword_of w))
keyword_is w =
    elim (cases_Bool (bytes_eq w (codes "and"))) [
      | inl e ↦ (let is = same_word w (codes "and") e in rw is (inr refl))
      | inr e₁ ↦ elim (cases_Bool (bytes_eq w (codes "or"))) [
        | inl e ↦ (let is = same_word w (codes "or") e in rw is (inr refl))
        | inr e₂ ↦ elim (cases_Bool (bytes_eq w (codes "xor"))) [
          | inl e ↦ (let is = same_word w (codes "xor") e in rw is (inr refl))
          | inr e₃ ↦ elim (cases_Bool (bytes_eq w (codes "ite"))) [
            | inl e ↦ (let is = same_word w (codes "ite") e in rw is (inr refl))
            | inr e₄ ↦ elim (cases_Bool (bytes_eq w (codes "exists"))) [
              | inl e ↦ (let is = same_word w (codes "exists") e in rw is (inr refl))
              | inr e₅ ↦ elim (cases_Bool (bytes_eq w (codes "forall"))) [
                | inl e ↦ (let is = same_word w (codes "forall") e in rw is (inr refl))
                | inr e₆ ↦ elim (cases_Bool (bytes_eq w (codes "output"))) [
                  | inl e ↦ (let is = same_word w (codes "output") e in rw is (inr refl))
                  | inr e₇ ↦ elim (cases_Bool (bytes_eq w (codes "free"))) [
                    | inl e ↦ (let is = same_word w (codes "free") e in rw is (inr refl))
                    | inr e₈ ↦ rw (e₁, e₂, e₃, e₄, e₅, e₆, e₇, e₈) (inl refl)
                  ]
                ]
              ]
            ]
          ]
        ]
      ]
    ]

known_word : (w : Name) (k : Keyword) → keyword_of w ≡ k → k ≢ words.Other → w ≡ word_text k
known_word w k is known =
    elim (keyword_is w) [ inl other ↦ absurd (known (sym is ∙ other)) | inr same ↦ same ∙ ap word_text is ]

quantifier_word : (w : Name) (q : Quantifier) → keyword_of w ≡ word_of q → w ≡ quantifier_text q
quantifier_word w All is = known_word w words.Forall is (λ e. absurd (cc e))
quantifier_word w Exists is = known_word w words.Exists is (λ e. absurd (cc e))

kind_word : (w : Name) (k : Keyword) (kind : GateKind) → keyword_of w ≡ k → kind_of k ≡ Ok kind → w ≡ kind_text kind
kind_word w words.And kind is of =
    let same : Conjunction ≡ kind = cc of in known_word w words.And is (λ e. absurd (cc e)) ∙ ap kind_text same
kind_word w words.Or kind is of =
    let same : Disjunction ≡ kind = cc of in known_word w words.Or is (λ e. absurd (cc e)) ∙ ap kind_text same
kind_word w words.Xor kind is of =
    let same : Difference ≡ kind = cc of in known_word w words.Xor is (λ e. absurd (cc e)) ∙ ap kind_text same
kind_word w words.Ite kind is of =
    let same : Choice ≡ kind = cc of in known_word w words.Ite is (λ e. absurd (cc e)) ∙ ap kind_text same
kind_word w k kind is of = absurd cc

-- ---- the runs of a line that says a statement

abbrev tokens_of : Statement → List Token
tokens_of (SetOf q []) = []
tokens_of (SetOf q (w ∷ ws)) = Word (quantifier_text q) ∷ Sign Open ∷ Word w ∷ names_tail ws
tokens_of (OutputOf negative w) = Word (codes "output") ∷ Sign Open ∷ signed negative w (Sign Close ∷ [])
tokens_of (GateOf w kind ms) = Word w ∷ Sign Equals ∷ Word (kind_text kind) ∷ Sign Open ∷ literals_listed ms

said_tokens : (ts : List Token) (st : Statement) → Says ts st → ts ≡ tokens_of st
said_tokens ts (SetOf q []) said = absurd said
said_tokens ts (SetOf q (w ∷ ws)) said =
    said.2 ∙ ap (λ (v : Name). Word v ∷ Sign Open ∷ Word w ∷ names_tail ws) (quantifier_word said.0 q said.1)
said_tokens ts (OutputOf negative w) said =
    said.2 ∙ ap (λ (v : Name). Word v ∷ Sign Open ∷ signed negative w (Sign Close ∷ []))
    (known_word said.0 words.Output said.1 (λ e. absurd (cc e)))
said_tokens ts (GateOf w kind ms) said =
    said.2 ∙ ap (λ (v : Name). Word w ∷ Sign Equals ∷ Word v ∷ Sign Open ∷ literals_listed ms)
    (kind_word said.0 (keyword_of said.0) kind refl said.1)

names_known : (ws : List Name) → AllByRecursion IsKnown (names_tail ws)
names_known [] = (tt, tt)
names_known (w ∷ ws) = (tt, (tt, names_known ws))

signed_known : (negative : Bool) (w : Name) (ts : List Token) → AllByRecursion IsKnown ts → AllByRecursion IsKnown (signed negative w ts)
signed_known false w ts all = (tt, all)
signed_known true w ts all = (tt, (tt, all))

tail_known : (ms : List (Bool × Name)) → AllByRecursion IsKnown (literals_tail ms)
tail_known [] = (tt, tt)
tail_known (m ∷ ms) = (tt, signed_known m.0 m.1 (literals_tail ms) (tail_known ms))

listed_known : (ms : List (Bool × Name)) → AllByRecursion IsKnown (literals_listed ms)
listed_known [] = (tt, tt)
listed_known (m ∷ ms) = signed_known m.0 m.1 (literals_tail ms) (tail_known ms)

tokens_known : (st : Statement) → AllByRecursion IsKnown (tokens_of st)
tokens_known (SetOf q []) = tt
tokens_known (SetOf q (w ∷ ws)) = (tt, (tt, (tt, names_known ws)))
tokens_known (OutputOf negative w) = (tt, (tt, signed_known negative w (Sign Close ∷ []) (tt, tt)))
tokens_known (GateOf w kind ms) = (tt, (tt, (tt, (tt, listed_known ms))))

pub line_runs : (line : List ℕ) (st : Statement) → HasNames st → Says (tokens line) st → runs line ≡ runs (line_of st)
line_runs line st named said =
    same_runs line (line_of st) (tokens_of st) (tokens_known st) (said_tokens (tokens line) st said)
    (said_tokens (tokens (line_of st)) st (line_says st named))

-- ---- lines that say something

-- a line that says a statement is not silent
no_hash : (w : Name) (rs : List (List ℕ)) → IsWord w → says_something (w ∷ rs) ≡ true
no_hash [] rs name = absurd name
no_hash (b ∷ w) rs name =
    elim (eqb_tells b 35) [
      | inl h ↦ (let e : is_word_byte b ≡ false = rw h.1 refl in absurd (false≢true (sym e ∙ name.0)))
      | inr h ↦ (let e = h.0 in rw e refl)
    ]

name_runs : (w bs : List ℕ) → IsWord w → (0 < length bs → is_word_byte (get_or bs 0 0) ≡ false) → runs (w ++ bs) ≡ w ∷ runs bs
name_runs [] bs name front = absurd name
name_runs (b ∷ w) bs name front = run_first_of b w bs name front

pub line_says_something : (st : Statement) → HasNames st → says_something (runs (line_of st)) ≡ true
line_says_something (SetOf q []) named = absurd named
line_says_something (SetOf All (w ∷ ws)) named = refl
line_says_something (SetOf Exists (w ∷ ws)) named = refl
line_says_something (OutputOf negative w) named = refl
line_says_something (GateOf w kind ms) named =
    let rest = codes " = " ++ call_text (kind_text kind) signed_text ms in
    ap says_something (name_runs w rest named.0 (λ some. refl)) ∙ no_hash w (runs rest) named.0
