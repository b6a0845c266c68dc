-- The lines of a text, one after the other.
use Rattle.std.proofs.Common.{arith, ◌≡◌, ℕ, zero, suc, ◌+◌, ◌<◌, ◌≤◌, Bool, true, false, List, [], ◌∷◌, length, take, drop, Option, Some, None, Ok, nat_lt}
use Rattle.std.proofs.Common.{slice_index}
use Rattle.std.proofs.Common.{refl, sym, ap, subst, ◌∙◌, inl, inr, if◌then◌else◌}
use Rattle.std.specs.Prelude.{position}
use Rattle.std.specs.List.{onto_first, position_or_len, slice_split}
use Rattle.std.proofs.lemmas.Bool.{cases_Bool}
use Rattle.std.proofs.lemmas.Bool.Decides.{nat_tests}
use Rattle.std.proofs.lemmas.List.Splits.{slice_split-cons_no, slice_split_first}
use Rattle.memchr.specs.Find.{IsFirstByte, is_byte}
use Rattle.qbf_core.proofs.BlockLaws.{blocks_of-pairs}
use Rattle.qbf_core.specs.Blocks.{Block, IsPrefix, blocks_of, pairs}
use Rattle.qbf_core.specs.Literal.{Literal}
use Rattle.qbf_gates.specs.Gates.{Gate}
use Rattle.qbf_tokens.specs.Tokens.{is_line_end}
use Rattle.qcir_tokens.specs.Tokens.{tokens}
use Rattle.qcir.specs.Names.{Name}
use Rattle.qcir.specs.Reading.{AtPrefix, Question, State, is_header, on_line, read_gates, read_lines, read_whole, row}

-- the first byte that passes a test
at_place : (bs : List ℕ) (k : ℕ) → k < length bs → ((j : ℕ) → j < k → is_line_end (slice_index bs j) ≡ false)
    → is_line_end (slice_index bs k) ≡ true → position_or_len is_line_end bs ≡ k
at_place [] k within before here = absurd (omega arith)
at_place (b ∷ bs) zero within before here = rw here refl
at_place (b ∷ bs) (suc k) within before here =
    let rest = at_place bs k (omega arith) (λ j l. before (suc j) (omega arith)) here in
    rw (before 0 (omega arith)) (omega (arith, rest))

at_none : (bs : List ℕ) → ((j : ℕ) → j < length bs → is_line_end (slice_index bs j) ≡ false)
    → position_or_len is_line_end bs ≡ length bs
at_none [] none = refl
at_none (b ∷ bs) none =
    let rest = at_none bs (λ j l. none (suc j) (omega arith)) in
    rw (none 0 (omega arith)) (omega (arith, rest))

is_false : (b : Bool) → (b ≡ true → ⊥) → b ≡ false
is_false true not_so = absurd (not_so refl)
is_false false not_so = refl

pub found_end : (bs : List ℕ) (r : Option ℕ) → IsFirstByte (is_byte 10) bs r → r ≡ position is_line_end bs
found_end bs None nowhere =
    let e = at_none bs (λ j l. is_false _ (nowhere j (omega arith) l)) in
    rw e (grind (arith, nat_tests))
found_end bs (Some k) found =
    let e = at_place bs k found.0.high (λ j l. is_false _ (found.0.before j (omega arith) l)) found.1 in
    let within : nat_lt k (length bs) ≡ true = grind (arith, nat_tests, found.0.high) in
    rw (e, within) refl

pub one_line : (bs : List ℕ) → length bs ≤ position_or_len is_line_end bs → slice_split is_line_end bs ≡ bs ∷ []
one_line [] none = refl
one_line (b ∷ bs) none =
    elim (cases_Bool (is_line_end b)) [
      | inl e ↦ (let h : length (b ∷ bs) ≤ 0 = rw e at none in absurd (omega arith))
      | inr e ↦ (let h : length (b ∷ bs) ≤ 1 + position_or_len is_line_end bs = rw e at none in
          slice_split-cons_no is_line_end b bs e ∙ ap (onto_first b) (one_line bs (omega arith)))
    ]

pub last_line : (bs : List ℕ) → position is_line_end bs ≡ None → slice_split is_line_end bs ≡ bs ∷ []
last_line bs none =
    elim (cases_Bool (nat_lt (position_or_len is_line_end bs) (length bs))) [
      | inl e ↦ (let h = rw e at none in absurd cc)
      | inr e ↦ one_line bs (grind (arith, nat_tests))
    ]

pub first_line : (bs : List ℕ) (end : ℕ) → position is_line_end bs ≡ Some end
    → slice_split is_line_end bs ≡ take end bs ∷ slice_split is_line_end (drop (end + 1) bs)
first_line bs end at =
    elim (cases_Bool (nat_lt (position_or_len is_line_end bs) (length bs))) [
      | inl e ↦ (let h = rw e at at in
          let same : position_or_len is_line_end bs ≡ end = cc in
          let within : position_or_len is_line_end bs < length bs = grind (arith, nat_tests) in
          let P : ℕ → Type 0 = λ n. slice_split is_line_end bs ≡ take n bs ∷ slice_split is_line_end (drop (n + 1) bs) in
          subst P same (slice_split_first is_line_end bs 0 within))
      | inr e ↦ (let h = rw e at at in absurd cc)
    ]

pub begun : (bytes first : List ℕ) (lines : List (List ℕ)) (reader : State) → slice_split is_line_end bytes ≡ first ∷ lines
    → is_header (tokens first) ≡ true → reader ≡ AtPrefix → read_gates bytes ≡ read_lines (Ok reader) 1 lines
begun bytes first lines reader split header start =
    ap read_whole split ∙ (rw header (ap (λ (s : State). read_lines (Ok s) 1 lines) (sym start)))

pub next_line : (s new : State) (n : ℕ) (rest next : List ℕ) (lines : List (List ℕ)) → slice_split is_line_end rest ≡ next ∷ lines
    → row s next lines ≡ Ok new → read_lines (Ok s) n (slice_split is_line_end rest) ≡ read_lines (Ok new) (n + 1) lines
next_line s new n rest next lines split is =
    ap (λ (ls : List (List ℕ)). read_lines (Ok s) n ls) split ∙ ap (λ r. read_lines (on_line (n + 1) r) (n + 1) lines) is

abbrev pub question : List Name → List Block → List (ℕ × Gate) → Literal → Question
question names bs gates l = record { names = names; formula = record { blocks = bs; gates = gates; output = l } }

pub made : (names : List Name) (bs : List Block) (gates : List (ℕ × Gate)) (l : Literal) → IsPrefix bs
    → question names bs gates l ≡ question names (blocks_of (pairs bs)) gates l
made names bs gates l prefix =
    ap (λ (b : List Block). question names b gates l) (sym (blocks_of-pairs bs prefix.alternates))

-- what is left after a line is shorter
pub fewer : (more : Bool) (n m : ℕ) → (more ≡ true → n < m) → (more ≡ false → n ≡ 0) → n + (if more then 1 else 0) ≤ m
fewer true n m less none = omega (arith, less refl)
fewer false n m less none = omega (arith, none refl)
