-- The first line of a text, and the lines that say something after it.
use Rattle.std.proofs.Common.{arith, ◌≡◌, ℕ, ◌+◌, ◌<◌, ◌≤◌, true, false, List, [], ◌∷◌, ◌++◌, length, map, filter, refl, sym, ap, subst, ◌∙◌}
use Rattle.std.proofs.Common.{◌⊎◌, inl, inr, append-nil, nat_lt, take_all}
use Rattle.std.specs.Prelude.{bytes_eq, codes}
use Rattle.std.specs.Char.{is_ascii_digit}
use Rattle.std.specs.List.{AllByRecursion, after_first, before_first, list_all, position_or_len, slice_split}
use Rattle.std.proofs.lemmas.Bool.{cases_Bool, false≢true}
use Rattle.std.proofs.lemmas.Bool.Decides.{nat_tests}
use Rattle.std.proofs.lemmas.List.{drop_all}
use Rattle.std.proofs.lemmas.List.Splits.{slice_split_first}
use Rattle.qbf_tokens.specs.Tokens.{is_line_end}
use Rattle.qcir_tokens.specs.declared.mark.Mark.TheVariants.{Hash, Minus}
use Rattle.qcir_tokens.specs.Tokens.{Sign, Token, Word, is_word_byte, runs, token_of, tokens}
use Rattle.qcir_tokens.proofs.Runs.{IsKnown, IsNamed, IsRun, known_run, runs_are, same_runs, tokens_named}
use Rattle.qcir.specs.Lines.{SaysNothing}
use Rattle.qcir.specs.Names.{Name}
use Rattle.qcir.specs.Reading.{is_count, is_header}
use Rattle.qcir.specs.Grammar.{IsHeader, says_something}
use Rattle.qcir.proofs.ReadStatements.{silent}
use Rattle.qcir.proofs.Statements.{Say, Says, Statement, line_of}
use Rattle.qcir.proofs.TextLines.{one_line}
use Rattle.qcir.proofs.WrittenTokens.{HasNames, line_runs, line_says, line_says_something, name_then, same_word, says_named}

-- ---- lines that say nothing

-- the first token of a comment
hash_of : (t : Token) (ts : List Token) → SaysNothing (t ∷ ts) → t ≡ Sign Hash
hash_of (Sign Hash) ts none = refl
hash_of t ts none = absurd none

silent_runs : (rs : List (List ℕ)) → AllByRecursion IsRun rs → SaysNothing (map token_of rs) → says_something rs ≡ false
silent_runs [] all none = refl
silent_runs (r ∷ rs) all none =
    let same : r ≡ codes "#" = known_run r (codes "#") all.0 (inr (35, refl, refl)) (hash_of (token_of r) (map token_of rs) none) tt in
    rw same refl

silent_tokens : (rs : List (List ℕ)) → says_something rs ≡ false → SaysNothing (map token_of rs)
silent_tokens [] none = tt
silent_tokens (r ∷ rs) none =
    elim (cases_Bool (bytes_eq r (codes "#"))) [
      | inl e ↦ (let same = same_word r (codes "#") e in rw same tt)
      | inr e ↦ (let some = rw e at none in absurd (false≢true (sym some)))
    ]

-- ---- lines and statements

pub said_lines : (lines : List (List ℕ)) (sts : List Statement) → Say lines sts
    → filter says_something (map runs lines) ≡ map runs (map line_of sts)
said_lines [] [] said = refl
said_lines [] (st ∷ sts) said = absurd said
said_lines (line ∷ lines) [] said =
    let e = silent_runs (runs line) (runs_are line) said.0 in rw e (said_lines lines [] said.1)
said_lines (line ∷ lines) (st ∷ sts) (inl said) =
    let e = silent_runs (runs line) (runs_are line) said.0 in rw e (said_lines lines (st ∷ sts) said.1)
said_lines (line ∷ lines) (st ∷ sts) (inr said) =
    let named = says_named (tokens line) st (tokens_named line) said.0 in
    let same = line_runs line st named said.0 in
    let e : says_something (runs line) ≡ true = ap says_something same ∙ line_says_something st named in
    rw e (ap (λ (r : List (List ℕ)). r ∷ filter says_something (map runs lines)) same
    ∙ ap (λ (rs : List (List (List ℕ))). runs (line_of st) ∷ rs) (said_lines lines sts said.1))

one_said : (line : List ℕ) (lines : List (List ℕ)) (sts : List Statement) (rest : List (List (List ℕ))) → AllByRecursion HasNames sts
    → runs line ∷ rest ≡ map runs (map line_of sts)
    → ((us : List Statement) → AllByRecursion HasNames us → rest ≡ map runs (map line_of us) → Say lines us) → Say (line ∷ lines) sts
one_said line lines [] rest named is further = absurd (cc is)
one_said line lines (st ∷ sts) rest named is further =
    let same : runs line ≡ runs (line_of st) = cc is in
    let others : rest ≡ map runs (map line_of sts) = cc is in
    inr (subst (λ (ts : List Token). Says ts st) (sym (ap (map token_of) same)) (line_says st named.0), further sts named.1 others)

pub lines_said : (lines : List (List ℕ)) (sts : List Statement) → AllByRecursion HasNames sts
    → filter says_something (map runs lines) ≡ map runs (map line_of sts) → Say lines sts
lines_said [] [] named is = tt
lines_said [] (st ∷ sts) named is = absurd (cc is)
lines_said (line ∷ lines) sts named is =
    elim (cases_Bool (says_something (runs line))) [
      | inl e ↦ (let here = rw e at is in
          one_said line lines sts (filter says_something (map runs lines)) named here (λ us words same. lines_said lines us words same))
      | inr e ↦ (let rest = rw e at is in silent line lines sts (silent_tokens (runs line) e) (lines_said lines sts named rest))
    ]

-- canonical lines, and an empty one at the end
pub all_said : (sts : List Statement) → AllByRecursion HasNames sts
    → filter says_something (map runs (map line_of sts ++ [] ∷ [])) ≡ map runs (map line_of sts)
all_said [] named = refl
all_said (st ∷ sts) named =
    let e = line_says_something st named.0 in
    rw e (ap (λ (rs : List (List (List ℕ))). runs (line_of st) ∷ rs) (all_said sts named.1))

-- ---- the first line

-- what stands before the first line end is the first line, and the lines after it say what the others do
pub first_and_rest : (bytes first : List ℕ) (lines : List (List ℕ)) → slice_split is_line_end bytes ≡ first ∷ lines
    → (before_first is_line_end bytes ≡ first)
    × (filter says_something (map runs (slice_split is_line_end (after_first is_line_end bytes))) ≡ filter says_something (map runs lines))
first_and_rest bytes first lines split =
    elim (cases_Bool (nat_lt (position_or_len is_line_end bytes) (length bytes))) [
      | inl e ↦ (let within : position_or_len is_line_end bytes < length bytes = grind (arith, nat_tests) in
          let parts : before_first is_line_end bytes ∷ slice_split is_line_end (after_first is_line_end bytes) ≡ first ∷ lines =
          sym (slice_split_first is_line_end bytes 0 within) ∙ split in
          let rest : slice_split is_line_end (after_first is_line_end bytes) ≡ lines = cc parts in
          (cc parts, ap (λ (ls : List (List ℕ)). filter says_something (map runs ls)) rest))
      | inr e ↦ (let out : length bytes ≤ position_or_len is_line_end bytes = grind (arith, nat_tests) in
          let whole : bytes ∷ [] ≡ first ∷ lines = sym (one_line bytes out) ∙ split in
          let none : lines ≡ [] = cc whole in
          let nothing : after_first is_line_end bytes ≡ [] = drop_all (position_or_len is_line_end bytes + 1) bytes (omega (arith, out)) in (
            take_all (position_or_len is_line_end bytes) bytes out ∙ cc whole,
            ap (λ (bs : List ℕ). filter says_something (map runs (slice_split is_line_end bs))) nothing
                ∙ ap (λ (ls : List (List ℕ)). filter says_something (map runs ls)) (sym none),
          ))
    ]

-- ---- the header

digits_are_word : (ds : List ℕ) → list_all is_ascii_digit ds ≡ true → AllByRecursion (λ c. is_word_byte c ≡ true) ds
digits_are_word [] digits = tt
digits_are_word (d ∷ ds) digits =
    elim (cases_Bool (is_ascii_digit d)) [
      | inl e ↦ (let rest = rw e at digits in (rw e refl, digits_are_word ds rest))
      | inr e ↦ (let none = rw e at digits in absurd (false≢true none))
    ]

-- the tokens of digits
number_tokens : List ℕ → List Token
number_tokens [] = []
number_tokens (d ∷ ds) = Word (d ∷ ds) ∷ []

tokens_of_number : (ds : List ℕ) → list_all is_ascii_digit ds ≡ true → tokens ds ≡ number_tokens ds
unfolding number_tokens
tokens_of_number [] digits = refl
tokens_of_number (d ∷ ds) digits =
    ap tokens (sym (append-nil (d ∷ ds))) ∙ name_then (d ∷ ds) [] (digits_are_word (d ∷ ds) digits) (λ some. absurd (omega arith))

-- the tokens of a header with this version
header_tokens : List ℕ → List ℕ → List Token
header_tokens version number = Sign Hash ∷ Word (codes "QCIR") ∷ Sign Minus ∷ Word version ∷ number_tokens number

number_counts : (ds : List ℕ) → list_all is_ascii_digit ds ≡ true → is_count (number_tokens ds) ≡ true
unfolding number_tokens
number_counts [] digits = refl
number_counts (d ∷ ds) digits = digits

pub header_is : (line : List ℕ) → IsHeader line → is_header (tokens line) ≡ true
header_is line (number, digits, inl is) =
    ap (λ (rs : List (List ℕ)). is_header (map token_of rs)) is ∙ (ap is_count (tokens_of_number number digits) ∙ number_counts number digits)
header_is line (number, digits, inr is) =
    ap (λ (rs : List (List ℕ)). is_header (map token_of rs)) is ∙ (ap is_count (tokens_of_number number digits) ∙ number_counts number digits)

number_known : (ds : List ℕ) → AllByRecursion IsKnown (number_tokens ds)
unfolding number_tokens
number_known [] = tt
number_known (d ∷ ds) = (tt, tt)

-- a number, or nothing
number_of : (ts : List Token) → AllByRecursion IsNamed ts → is_count ts ≡ true
    → (ds : List ℕ) × (list_all is_ascii_digit ds ≡ true) × (ts ≡ number_tokens ds)
unfolding number_tokens
number_of [] named is = ([], refl, refl)
number_of (Word [] ∷ []) named is = absurd named.0
number_of (Word (d ∷ ds) ∷ []) named is = (d ∷ ds, is, refl)
number_of ts named is = absurd cc

-- a version, with a number or nothing
IsVersion : List Token → Type 0
IsVersion ts = (ds : List ℕ) × (list_all is_ascii_digit ds ≡ true)
    × ((ts ≡ header_tokens (codes "14") ds) ⊎ (ts ≡ header_tokens (codes "G14") ds))

same_header : (q v version : Name) (ts us : List Token) → q ≡ codes "QCIR" → v ≡ version → ts ≡ us
    → Sign Hash ∷ Word q ∷ Sign Minus ∷ Word v ∷ ts ≡ Sign Hash ∷ Word (codes "QCIR") ∷ Sign Minus ∷ Word version ∷ us
same_header q v version ts us format is rest = rw (format, is, rest) refl

version_is : (q v : Name) (ts : List Token) → AllByRecursion IsNamed ts → is_header (Sign Hash ∷ Word q ∷ Sign Minus ∷ Word v ∷ ts) ≡ true
    → IsVersion (Sign Hash ∷ Word q ∷ Sign Minus ∷ Word v ∷ ts)
unfolding IsVersion header_tokens
version_is q v ts named is =
    elim (cases_Bool (bytes_eq q (codes "QCIR"))) [
      | inl e ↦ (let format = same_word q (codes "QCIR") e in let further = rw e at is in elim (cases_Bool (bytes_eq v (codes "14"))) [
        | inl f ↦ (let version = same_word v (codes "14") f in let count = rw f at further in
            let number = number_of ts named count in
            (number.0, number.1, inl (same_header q v (codes "14") ts (number_tokens number.0) format version number.2)))
        | inr f ↦ (let more = rw f at further in elim (cases_Bool (bytes_eq v (codes "G14"))) [
          | inl g ↦ (let version = same_word v (codes "G14") g in let count = rw g at more in
              let number = number_of ts named count in
              (number.0, number.1, inr (same_header q v (codes "G14") ts (number_tokens number.0) format version number.2)))
          | inr g ↦ (let none = rw g at more in absurd (false≢true none))
        ])
      ])
      | inr e ↦ (let none = rw e at is in absurd (false≢true none))
    ]

version_of : (ts : List Token) → AllByRecursion IsNamed ts → is_header ts ≡ true → IsVersion ts
version_of (Sign Hash ∷ Word q ∷ Sign Minus ∷ Word v ∷ ts) named is = version_is q v ts named.1.1.1.1 is
version_of ts named is = absurd cc

header_found : (line : List ℕ) → IsVersion (tokens line) → IsHeader line
unfolding IsVersion header_tokens
header_found line (ds, digits, inl is) =
    let further = ap (λ (ts : List Token). Sign Hash ∷ Word (codes "QCIR") ∷ Sign Minus ∷ Word (codes "14") ∷ ts) (tokens_of_number ds digits) in
    (ds, digits, inl (same_runs line (codes "#QCIR-14 " ++ ds) (header_tokens (codes "14") ds) (tt, (tt, (tt, (tt, number_known ds)))) is further))
header_found line (ds, digits, inr is) =
    let further = ap (λ (ts : List Token). Sign Hash ∷ Word (codes "QCIR") ∷ Sign Minus ∷ Word (codes "G14") ∷ ts) (tokens_of_number ds digits) in
    (ds, digits, inr (same_runs line (codes "#QCIR-G14 " ++ ds) (header_tokens (codes "G14") ds) (tt, (tt, (tt, (tt, number_known ds)))) is further))

pub is_header_of : (line : List ℕ) → is_header (tokens line) ≡ true → IsHeader line
is_header_of line is = header_found line (version_of (tokens line) (tokens_named line) is)
