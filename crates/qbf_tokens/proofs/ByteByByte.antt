-- The tokens left, byte by byte.
use Rattle.qbf_tokens.proofs.Cited.{rules, ◌≡◌, ℕ, ◌+◌, Bool, true, false, cond, ◌||◌, List, [], ◌∷◌, ◌++◌, map, count_by, refl, sym, ◌∙◌}
use Rattle.qbf_tokens.proofs.Cited.{arith, append-nil, common_steps, slice_split, ⊤, Comments, is_line_end, is_blank, is_comment_byte}
use Rattle.qbf_tokens.proofs.Cited.{is_comment_line, runs, kind, line_number, line_tokens, tokens_from, tokens, tokens_left, is_separator}
use Rattle.qbf_tokens.proofs.Cited.{IsUnbroken, IsWithinLine, EndsRun, EndsLine}
use Rattle.std.proofs.Common.{zero-add}
use Rattle.std.specs.List.{onto_first}
use Rattle.std.proofs.lemmas.List.Sums.{sum_by-cons}
use Rattle.qbf_tokens.specs.Left.{rest_tokens, left_from}
use Rattle.qbf_tokens.specs.declared.token.Token.TheVariants as kinds

-- ---- the number of a line

pub line_counted : (f : Comments) (n m : ℕ) (line : List ℕ) → line_number n ≡ line_number m → line_tokens f n line ≡ line_tokens f m line
line_counted f n m line e = rw e refl

lines_counted : (f : Comments) (n m : ℕ) (lines : List (List ℕ)) → line_number n ≡ line_number m → tokens_from f n lines ≡ tokens_from f m lines
lines_counted f n m [] e = refl
lines_counted f n m (line ∷ lines) e =
    rw (line_counted f n m line e, lines_counted f (n + 1) (m + 1) lines (omega (arith, e))) refl

rest_counted : (f : Comments) (begun : Bool) (n m : ℕ) (rest : List ℕ) → line_number n ≡ line_number m
    → rest_tokens f begun n rest ≡ rest_tokens f begun m rest
rest_counted f begun n m rest e = search rules

left_counted : (f : Comments) (begun : Bool) (n m : ℕ) (lines : List (List ℕ)) → line_number n ≡ line_number m
    → left_from f begun n lines ≡ left_from f begun m lines
left_counted f begun n m lines e = grind (arith, common_steps, rest_counted, lines_counted)

-- the tokens left depend on the counted number alone
pub tokens_left-counted : (f : Comments) (begun : Bool) (n m : ℕ) (bytes : List ℕ) → line_number n ≡ line_number m
    → tokens_left f begun n bytes ≡ tokens_left f begun m bytes
tokens_left-counted f begun n m bytes e = grind (arith, common_steps, left_counted)

-- ---- the end

pub left_nothing : (f : Comments) (begun : Bool) (n : ℕ) → tokens_left f begun n [] ≡ (kinds.End, line_number n) ∷ []
left_nothing f begun n = search rules

-- ---- a line end

left_from_start : (f : Comments) (n : ℕ) (lines : List (List ℕ)) → left_from f false n lines ≡ tokens_from f n lines
left_from_start f n lines = search rules

pub left_line_end : (f : Comments) (begun : Bool) (n : ℕ) (bs : List ℕ) → tokens_left f begun n (10 ∷ bs) ≡ tokens_left f false (n + 1) bs
left_line_end f begun n bs = grind (arith, common_steps)

-- the whole text
pub left_all : (f : Comments) (bytes : List ℕ) → tokens_left f false 1 bytes ≡ tokens f bytes
left_all f bytes = rw (left_from_start f 1 (slice_split is_line_end bytes)) refl

-- ---- a blank

count_other : (b : ℕ) (bs : List ℕ) → is_line_end b ≡ false → count_by is_line_end (b ∷ bs) ≡ count_by is_line_end bs
count_other b bs h = sum_by-cons (λ x. cond (is_line_end x) 1 0) b bs ∙ rw (h, zero-add) refl

pub left_blank : (f : Comments) (begun : Bool) (n b : ℕ) (bs : List ℕ) → is_blank b ≡ true
    → tokens_left f begun n (b ∷ bs) ≡ tokens_left f begun n bs
left_blank f begun n b bs h = search rules

-- ---- a run

-- the lists with some items put before the first
abbrev pub onto_front : List ℕ → List (List ℕ) → List (List ℕ)
onto_front run [] = run ∷ []
onto_front run (line ∷ lines) = (run ++ line) ∷ lines

onto_front_first : (b : ℕ) (bs : List ℕ) (lines : List (List ℕ)) → onto_first b (onto_front bs lines) ≡ onto_front (b ∷ bs) lines
onto_front_first b bs lines = search rules

nonempty_cond : (c : Bool) (b : ℕ) (lines : List (List ℕ))
    → onto_front [] (cond c ([] ∷ lines) (onto_first b lines)) ≡ cond c ([] ∷ lines) (onto_first b lines)
nonempty_cond c b lines = search rules

split_nonempty : (p : ℕ → Bool) (bs : List ℕ) → onto_front [] (slice_split p bs) ≡ slice_split p bs
split_nonempty p [] = refl
split_nonempty p (b ∷ bs) = nonempty_cond (p b) b (slice_split p bs)

-- bytes with no line end among them stay on the line
split_front : (run rest : List ℕ) → IsWithinLine run → slice_split is_line_end (run ++ rest) ≡ onto_front run (slice_split is_line_end rest)
split_front [] rest h = sym (split_nonempty is_line_end rest)
split_front (b ∷ bs) rest h = rw (h.0, split_front bs rest h.1) (onto_front_first b bs (slice_split is_line_end rest))

count_front : (run rest : List ℕ) → IsWithinLine run → count_by is_line_end (run ++ rest) ≡ count_by is_line_end rest
count_front [] rest h = refl
count_front (b ∷ bs) rest h = count_other b (bs ++ rest) h.0 ∙ count_front bs rest h.1

-- ---- a comment line

comment_front : (f : Comments) (n c : ℕ) (bs line : List ℕ) → is_blank c ≡ false → is_comment_byte f c ≡ true
    → line_tokens f n (c ∷ bs ++ line) ≡ []
comment_front f n c bs line blank comment = rw (blank, comment) refl

comment_lines : (f : Comments) (n c : ℕ) (bs : List ℕ) (lines : List (List ℕ)) → is_blank c ≡ false → is_comment_byte f c ≡ true
    → left_from f false n (onto_front (c ∷ bs) ([] ∷ lines)) ≡ left_from f false n ([] ∷ lines)
comment_lines f n c bs lines blank comment = rw (comment_front f n c bs [] blank comment) refl

open_line : (rest : List ℕ) → EndsLine rest → (lines : List (List ℕ)) × (slice_split is_line_end rest ≡ [] ∷ lines)
open_line [] h = ([], refl)
open_line (b ∷ bs) h = (slice_split is_line_end bs, rw h refl)

pub left_comment : (f : Comments) (n c : ℕ) (bs rest : List ℕ) → is_blank c ≡ false → is_comment_byte f c ≡ true → IsWithinLine (c ∷ bs)
    → EndsLine rest
    → tokens_left f false n ((c ∷ bs) ++ rest) ≡ tokens_left f false n rest
left_comment f n c bs rest blank comment within ends = grind (arith, common_steps, open_line, count_front, split_front, comment_lines)

-- ---- a run

or_left : (x y : Bool) → (x || y) ≡ false → x ≡ false
or_left x y h = search rules

or_right : (x y : Bool) → (x || y) ≡ false → y ≡ false
or_right x y h = search rules

pub no_blank : (b : ℕ) → is_separator b ≡ false → is_blank b ≡ false
no_blank b h = or_left (is_blank b) (is_line_end b) h

pub no_line_end : (b : ℕ) → is_separator b ≡ false → is_line_end b ≡ false
no_line_end b h = or_right (is_blank b) (is_line_end b) h

pub unbroken_within : (run : List ℕ) → IsUnbroken run → IsWithinLine run
unbroken_within [] h = tt
unbroken_within (b ∷ bs) h = (no_line_end b h.0, unbroken_within bs h.1)

-- the rest of a line begins with a blank, or there is none
abbrev pub IsOpen : List ℕ → Type 0
IsOpen [] = ⊤
IsOpen (b ∷ bs) = is_blank b ≡ true

split_run : (run rest : List ℕ) → IsUnbroken run → slice_split is_blank (run ++ rest) ≡ onto_front run (slice_split is_blank rest)
split_run [] rest h = sym (split_nonempty is_blank rest)
split_run (b ∷ bs) rest h = rw (no_blank b h.0, split_run bs rest h.1) (onto_front_first b bs (slice_split is_blank rest))

runs_run : (b : ℕ) (bs rest : List ℕ) → IsUnbroken (b ∷ bs) → IsOpen rest → runs ((b ∷ bs) ++ rest) ≡ (b ∷ bs) ∷ runs rest
runs_run b bs rest h open_rest = grind (arith, common_steps, open_rest, split_run, append-nil)

-- the run stands after another token of its line, or does not begin a comment line
abbrev pub IsToken : Comments → Bool → List ℕ → Type 0
IsToken f begun [] = ⊥
IsToken f true (b ∷ bs) = ⊤
IsToken f false (b ∷ bs) = is_comment_byte f b ≡ false

line_no_comment : (f : Comments) (n : ℕ) (line : List ℕ) → is_comment_line f line ≡ false
    → line_tokens f n line ≡ map (λ run. (kind run, line_number n)) (runs line)
line_no_comment f n line h = rw h refl

rest_run : (f : Comments) (begun : Bool) (n b : ℕ) (bs rest : List ℕ) → IsUnbroken (b ∷ bs) → IsOpen rest → IsToken f begun (b ∷ bs)
    → rest_tokens f begun n ((b ∷ bs) ++ rest) ≡ (kind (b ∷ bs), line_number n) ∷ rest_tokens f true n rest
rest_run f begun n b bs rest h o t = grind (arith, common_steps, runs_run, line_no_comment, no_blank)

open_blank : (b : ℕ) (lines : List (List ℕ)) → is_blank b ≡ true
    → (line : List ℕ) × (more : List (List ℕ)) × (onto_first b lines ≡ line ∷ more) × IsOpen line
open_blank b [] h = (b ∷ [], [], refl, h)
open_blank b (line ∷ lines) h = (b ∷ line, lines, refl, h)

pub or_cases : (x y : Bool) → y ≡ false → (x || y) ≡ true → x ≡ true
or_cases x y e h = search rules

open_at : (b : ℕ) (lines : List (List ℕ)) (ends : Bool) → is_line_end b ≡ ends → is_separator b ≡ true
    → (line : List ℕ) × (more : List (List ℕ)) × (cond ends ([] ∷ lines) (onto_first b lines) ≡ line ∷ more) × IsOpen line
open_at b lines true e h = ([], lines, refl, tt)
open_at b lines false e h = open_blank b lines (or_cases (is_blank b) (is_line_end b) e h)

open_rest : (rest : List ℕ) → EndsRun rest
    → (line : List ℕ) × (lines : List (List ℕ)) × (slice_split is_line_end rest ≡ line ∷ lines) × IsOpen line
open_rest [] h = ([], [], refl, tt)
open_rest (b ∷ bs) h = open_at b (slice_split is_line_end bs) (is_line_end b) refl h

pub left_run : (f : Comments) (begun : Bool) (n : ℕ) (run rest : List ℕ) → IsUnbroken run → EndsRun rest → IsToken f begun run
    → tokens_left f begun n (run ++ rest) ≡ (kind run, line_number n) ∷ tokens_left f true n rest
left_run f begun n run rest h ends t = grind (arith, common_steps, open_rest, unbroken_within, count_front, split_front, rest_run)
