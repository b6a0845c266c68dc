-- The tokens of a canonical text.
use Rattle.qbf_tokens.proofs.Cited.{common_steps, rules, ◌≡◌, ℕ, ◌+◌, Bool, true, false, map, arith, List, [], ◌∷◌, ◌++◌, refl, sym, ap}
use Rattle.qbf_tokens.proofs.Cited.{◌∙◌, append_assoc, AllByRecursion, digits_decimal, decimal_nonempty, Comments, Token, without_lines}
use Rattle.qbf_tokens.proofs.Cited.{IsUnbroken, EndsRun, tokens_left, kind, line_number, tokens, token_text, line_rest}
use Rattle.std.specs.List.{flat_map}
use Rattle.qbf_tokens.specs.declared.token.Word.{Word}
use Rattle.qbf_tokens.specs.Canonical.{letters, line_text, lines_text, IsPlain, IsOpening, IsLine}
use Rattle.qbf_tokens.proofs.ByteByByte.{left_run, left_blank, left_line_end, left_nothing, left_all, IsToken}
use Rattle.qbf_tokens.proofs.Spelled.{own, digits_unbroken, token_digits, kind_decimal, kind_minus}
use Rattle.qbf_tokens.specs.declared.token.Token.TheVariants as token

-- ---- one token

kind_word : (w : Word) → kind (letters w) ≡ token.Word w
kind_word w = search rules

word_unbroken : (w : Word) → IsUnbroken (letters w)
word_unbroken w = search rules

pub kind_spelled : (t : Token) → IsPlain t → kind (token_text t) ≡ t
kind_spelled t h = grind (arith, common_steps, kind_word, kind_decimal, kind_minus)

spelled_unbroken : (t : Token) → IsPlain t → IsUnbroken (token_text t)
spelled_unbroken t h = grind (arith, common_steps, word_unbroken, digits_unbroken, digits_decimal, own)

-- the text of a token is a token after another one of its line
word_after : (f : Comments) (w : Word) → IsToken f true (letters w)
word_after f w = search rules

spelled_after : (f : Comments) (t : Token) → IsPlain t → IsToken f true (token_text t)
spelled_after f t h = grind (arith, common_steps, word_after, token_digits, decimal_nonempty, digits_decimal, own)

-- and at the beginning of a line, if it does not begin with a comment byte
word_first : (f : Comments) (w : Word) → IsOpening (token.Word w) → IsToken f false (letters w)
word_first f w h = search rules

minus_first : (f : Comments) (ds : List ℕ) → IsToken f false (45 ∷ ds)
minus_first f ds = search rules

first : (f : Comments) (t : Token) → IsOpening t → IsPlain t → IsToken f false (token_text t)
first f t o h = grind (arith, common_steps, word_first, token_digits, decimal_nonempty, digits_decimal, own, minus_first)

-- a token that is written before a separator or the end is the next
left_token : (f : Comments) (begun : Bool) (n : ℕ) (t : Token) (rest : List ℕ) → IsPlain t → IsToken f begun (token_text t) → EndsRun rest
    → tokens_left f begun n (token_text t ++ rest) ≡ (t, line_number n) ∷ tokens_left f true n rest
left_token f begun n t rest plain is ends = grind (arith, common_steps, left_run, spelled_unbroken, kind_spelled)

-- ---- a line

rest_ends : (ts : List Token) (rest : List ℕ) → EndsRun (line_rest ts ++ rest)
rest_ends [] rest = refl
rest_ends (t ∷ ts) rest = refl

left_rest : (f : Comments) (n : ℕ) (ts : List Token) (rest : List ℕ) → AllByRecursion IsPlain ts
    → without_lines (tokens_left f true n (line_rest ts ++ rest)) ≡ ts ++ without_lines (tokens_left f false (n + 1) rest)
left_rest f n [] rest h = ap without_lines (left_line_end f true n rest)
left_rest f n (t ∷ ts) rest h =
    ap without_lines (left_blank f true n 32 ((token_text t ++ line_rest ts) ++ rest) refl
    ∙ ap (tokens_left f true n) (append_assoc (token_text t) (line_rest ts) rest)
    ∙ left_token f true n t (line_rest ts ++ rest) h.0 (spelled_after f t h.0) (rest_ends ts rest))
    ∙ ap (λ k. t ∷ k) (left_rest f n ts rest h.1)

left_line : (f : Comments) (n : ℕ) (line : List Token) (rest : List ℕ) → IsLine line
    → without_lines (tokens_left f false n (line_text line ++ rest)) ≡ line ++ without_lines (tokens_left f false (n + 1) rest)
left_line f n [] rest h = absurd h
left_line f n (t ∷ ts) rest h =
    search (rules, without_lines, tokens_left, append_assoc, token_text, line_rest, left_token, first, rest_ends, left_rest)

pub all_appended : {X : Type 0} (P : X → Type 0) (xs ys : List X) → AllByRecursion P xs → AllByRecursion P ys → AllByRecursion P (xs ++ ys)
all_appended P xs ys h k = grind (arith, common_steps)

pub all_mapped : {X Y : Type 0} (P : X → Type 0) (Q : Y → Type 0) (f : X → Y) → ((x : X) → P x → Q (f x)) → (xs : List X)
    → AllByRecursion P xs → AllByRecursion Q (map f xs)
all_mapped P Q f one [] h = tt
all_mapped P Q f one (x ∷ xs) h = (one x h.0, all_mapped P Q f one xs h.1)

pub all_of : {X : Type 0} (P Q : X → Type 0) → ((x : X) → P x → Q x) → (xs : List X) → AllByRecursion P xs → AllByRecursion Q xs
all_of P Q one [] h = tt
all_of P Q one (x ∷ xs) h = (one x h.0, all_of P Q one xs h.1)

pub all_both : {X : Type 0} (P Q : X → Type 0) (xs : List X) → AllByRecursion P xs → AllByRecursion Q xs
    → AllByRecursion (λ x. P x × Q x) xs
all_both P Q [] h k = tt
all_both P Q (x ∷ xs) h k = ((h.0, k.0), all_both P Q xs h.1 k.1)

-- plain tokens and a zero
pub closed_plain : (ts : List Token) → AllByRecursion IsPlain ts → AllByRecursion IsPlain (ts ++ token.Number false 0 ∷ [])
closed_plain ts h = all_appended IsPlain ts (token.Number false 0 ∷ []) h (omega arith, tt)

-- the tokens of lines
abbrev pub joined : List (List Token) → List Token
joined lines = flat_map (λ line. line) lines

left_lines : (f : Comments) (n : ℕ) (lines : List (List Token)) → AllByRecursion IsLine lines
    → without_lines (tokens_left f false n (lines_text lines)) ≡ joined lines ++ token.End ∷ []
left_lines f n [] h = ap without_lines (left_nothing f false n)
left_lines f n (line ∷ lines) h = grind (arith, common_steps, left_line, lines_text, append_assoc, (left_lines f (n + 1) lines h.1))

-- The tokens of a canonical text are those that it was written from, and End.
pub tokens-lines_text : (f : Comments) (lines : List (List Token)) → AllByRecursion IsLine lines
    → without_lines (tokens f (lines_text lines)) ≡ joined lines ++ token.End ∷ []
tokens-lines_text f lines h = ap without_lines (sym (left_all f (lines_text lines))) ∙ left_lines f 1 lines h
