-- The runs and the tokens of bytes that begin with blanks, with a word or with a mark.
use Rattle.std.proofs.Common.{arith, ◌≡◌, ℕ, zero, suc, ◌<◌, ◌≤◌, true, false, List, [], ◌∷◌, ◌++◌, length, map, take, drop, get_or}
use Rattle.std.proofs.Common.{refl, sym, ap, subst, ◌∙◌, inl, inr}
use Rattle.std.specs.List.{AllByRecursion, onto_first}
use Rattle.std.proofs.lemmas.Bool.{false≢true, cases_Bool}
use Rattle.std.proofs.lemmas.Bool.Decides.{eqb_tells}
use Rattle.qbf_tokens.specs.Tokens.{is_blank}
use Rattle.qcir_tokens.specs.declared.mark.Mark.{Mark}
use Rattle.qcir_tokens.specs.Front.{BeginsWithNoBlank}
use Rattle.qcir_tokens.specs.Tokens.{Token, Word, Sign, is_word_byte, mark_of, runs, token_of, tokens}
use Rattle.qcir_tokens.specs.Tokens.{BeginsWithNoWord, BeginsWithout}

-- the bytes of a word are not blanks
blank_is_no_word : (b : ℕ) → is_blank b ≡ true → is_word_byte b ≡ false
blank_is_no_word b e =
    elim (eqb_tells b 32) [
      | inl h ↦ rw h.1 refl
      | inr h ↦ elim (eqb_tells b 9) [
        | inl i ↦ rw i.1 refl
        | inr i ↦ elim (eqb_tells b 13) [
          | inl j ↦ rw j.1 refl
          | inr j ↦ let f : is_blank b ≡ false = rw (h.0, i.0, j.0) refl in absurd (false≢true (sym f ∙ e))
        ]
      ]
    ]

word_is_no_blank : (b : ℕ) → is_word_byte b ≡ true → is_blank b ≡ false
word_is_no_blank b h =
    elim (cases_Bool (is_blank b)) [ inl e ↦ absurd (false≢true (sym (blank_is_no_word b e) ∙ h)) | inr e ↦ e ]

-- a blank in front says nothing
pub skip_blank : (b : ℕ) (bs : List ℕ) → is_blank b ≡ true → tokens (b ∷ bs) ≡ tokens bs
skip_blank b bs e = rw e refl

-- ---- the first run

-- a word goes on
pub joined : (b : ℕ) (bs : List ℕ) → is_word_byte b ≡ true → is_word_byte (get_or bs 0 0) ≡ true → runs (b ∷ bs) ≡ onto_first b (runs bs)
joined b bs h more = let shown = word_is_no_blank b h in rw (shown, h, more) refl

-- a word ends
pub apart : (b : ℕ) (bs : List ℕ) → is_word_byte b ≡ true → is_word_byte (get_or bs 0 0) ≡ false → runs (b ∷ bs) ≡ (b ∷ []) ∷ runs bs
apart b bs h end = let shown = word_is_no_blank b h in rw (shown, h, end) refl

-- a byte that is not of a word is a run
pub lone : (b : ℕ) (bs : List ℕ) → is_word_byte b ≡ false → is_blank b ≡ false → runs (b ∷ bs) ≡ (b ∷ []) ∷ runs bs
lone b bs h shown = rw (shown, h) refl

-- no byte of a word stands in front
ended : (bs : List ℕ) → (0 < length bs → is_word_byte (get_or bs 0 0) ≡ false) → is_word_byte (get_or bs 0 0) ≡ false
ended [] front = refl
ended (b ∷ bs) front = front (omega arith)

-- the first run begins with the first byte, if that is of a word
onto : (b : ℕ) (rs : List (List ℕ)) → (w : List ℕ) × (more : List (List ℕ)) × (onto_first b rs ≡ (b ∷ w) ∷ more)
onto b [] = ([], [], refl)
onto b (r ∷ rs) = (r, rs, refl)

pub first_run : (b : ℕ) (bs : List ℕ) → is_word_byte b ≡ true → (w : List ℕ) × (more : List (List ℕ)) × (runs (b ∷ bs) ≡ (b ∷ w) ∷ more)
first_run b bs h =
    elim (cases_Bool (is_word_byte (get_or bs 0 0))) [
      | inl more ↦ (let found = onto b (runs bs) in (found.0, found.1, joined b bs h more ∙ found.2))
      | inr end ↦ ([], runs bs, apart b bs h end)
    ]

-- a run that begins as a word is a word
pub word_token : (b : ℕ) (w : List ℕ) → is_word_byte b ≡ true → token_of (b ∷ w) ≡ Word (b ∷ w)
word_token b w h = rw h refl

pub mark_token : (b : ℕ) → is_word_byte b ≡ false → token_of (b ∷ []) ≡ Sign (mark_of b)
mark_token b h = rw h refl

-- the tokens of runs of which the first is known
tokens_by : (bs r : List ℕ) (rs : List (List ℕ)) (t : Token) → runs bs ≡ r ∷ rs → token_of r ≡ t → tokens bs ≡ t ∷ map token_of rs
tokens_by bs r rs t is first = ap (map token_of) is ∙ ap (λ (u : Token). u ∷ map token_of rs) first

-- ---- a word in front

-- the first n bytes are a word
front_run : (bs : List ℕ) (n : ℕ) → 0 < n → n ≤ length bs → ((k : ℕ) → k < n → is_word_byte (get_or bs k 0) ≡ true)
    → (n < length bs → is_word_byte (get_or bs n 0) ≡ false) → runs bs ≡ take n bs ∷ runs (drop n bs)
front_run bs zero some within all front = absurd (omega arith)
front_run [] (suc n) some within all front = absurd (omega arith)
front_run (b ∷ bs) (suc zero) some within all front =
    apart b bs (all 0 (omega arith)) (ended bs (λ more. front (omega arith)))
front_run (b ∷ bs) (suc (suc n)) some within all front =
    joined b bs (all 0 (omega arith)) (all 1 (omega arith))
    ∙ ap (onto_first b) (front_run bs (suc n) (omega arith) (omega arith) (λ k less. all (suc k) (omega arith)) (λ more. front (omega arith)))

front_token : (bs : List ℕ) (n : ℕ) → 0 < n → n ≤ length bs → is_word_byte (get_or bs 0 0) ≡ true → token_of (take n bs) ≡ Word (take n bs)
front_token bs zero some within h = absurd (omega arith)
front_token [] (suc n) some within h = absurd (omega arith)
front_token (b ∷ bs) (suc n) some within h = word_token b (take n bs) h

pub word_front : (bs : List ℕ) (n : ℕ) → 0 < n → n ≤ length bs → ((k : ℕ) → k < n → is_word_byte (get_or bs k 0) ≡ true)
    → (n < length bs → is_word_byte (get_or bs n 0) ≡ false) → tokens bs ≡ Word (take n bs) ∷ tokens (drop n bs)
word_front bs n some within all front =
    tokens_by bs (take n bs) (runs (drop n bs)) (Word (take n bs)) (front_run bs n some within all front)
    (front_token bs n some within (all 0 some))

-- a word in front of bytes that do not go on with it
pub run_first_of : (b : ℕ) (w bs : List ℕ) → AllByRecursion (λ c. is_word_byte c ≡ true) (b ∷ w)
    → (0 < length bs → is_word_byte (get_or bs 0 0) ≡ false) → runs ((b ∷ w) ++ bs) ≡ (b ∷ w) ∷ runs bs
run_first_of b [] bs all front = apart b bs all.0 (ended bs front)
run_first_of b (c ∷ w) bs all front =
    joined b ((c ∷ w) ++ bs) all.0 all.1.0 ∙ ap (onto_first b) (run_first_of c w bs all.1 front)

pub word_first_of : (b : ℕ) (w bs : List ℕ) → AllByRecursion (λ c. is_word_byte c ≡ true) (b ∷ w)
    → (0 < length bs → is_word_byte (get_or bs 0 0) ≡ false) → tokens ((b ∷ w) ++ bs) ≡ Word (b ∷ w) ∷ tokens bs
word_first_of b w bs all front =
    tokens_by ((b ∷ w) ++ bs) (b ∷ w) (runs bs) (Word (b ∷ w)) (run_first_of b w bs all front) (word_token b w all.0)

-- ---- a mark in front

pub mark_front : (b : ℕ) (bs : List ℕ) (m : Mark) → is_word_byte b ≡ false → is_blank b ≡ false → mark_of b ≡ m
    → tokens (b ∷ bs) ≡ Sign m ∷ tokens bs
mark_front b bs m e shown is = tokens_by (b ∷ bs) (b ∷ []) (runs bs) (Sign m) (lone b bs e shown) (mark_token b e ∙ ap Sign is)

-- no byte of a word stands in front
pub no_word : (bs : List ℕ) → BeginsWithNoBlank bs → (0 < length bs → is_word_byte (get_or bs 0 0) ≡ false) → BeginsWithNoWord (tokens bs)
no_word [] shown front = tt
no_word (b ∷ bs) shown front = subst BeginsWithNoWord (sym (mark_front b bs (mark_of b) (front (omega arith)) shown refl)) tt

-- another mark stands in front, or a word
pub no_mark : (b : ℕ) (bs : List ℕ) (m : Mark) → is_blank b ≡ false → (is_word_byte b ≡ false → mark_of b ≡ m → ⊥)
    → BeginsWithout m (tokens (b ∷ bs))
no_mark b bs m shown other =
    elim (cases_Bool (is_word_byte b)) [
      | inl e ↦ (let first = first_run b bs e in
          let is = tokens_by (b ∷ bs) (b ∷ first.0) first.1 (Word (b ∷ first.0)) first.2 (word_token b first.0 e) in
          subst (BeginsWithout m) (sym is) tt)
      | inr e ↦ subst (BeginsWithout m) (sym (mark_front b bs (mark_of b) e shown refl)) (other e)
    ]

-- ---- the end

-- a byte that is not a blank is of a run
some_run : (b : ℕ) (bs : List ℕ) → is_blank b ≡ false → (r : List ℕ) × (rs : List (List ℕ)) × (runs (b ∷ bs) ≡ r ∷ rs)
some_run b bs shown =
    elim (cases_Bool (is_word_byte b)) [
      | inl e ↦ (let first = first_run b bs e in (b ∷ first.0, first.1, first.2))
      | inr e ↦ (b ∷ [], runs bs, lone b bs e shown)
    ]

pub some_token : (b : ℕ) (bs : List ℕ) → is_blank b ≡ false → tokens (b ∷ bs) ≡ [] → ⊥
some_token b bs shown none =
    let some = some_run b bs shown in
    let e : token_of some.0 ∷ map token_of some.1 ≡ [] = sym (ap (map token_of) some.2) ∙ none in absurd (cc e)

-- ---- the same, of bytes as a whole

pub some_tokens : (bs : List ℕ) → BeginsWithNoBlank bs → 0 < length bs → tokens bs ≡ [] → ⊥
some_tokens [] shown some = absurd (omega arith)
some_tokens (b ∷ bs) shown some = some_token b bs shown

pub no_mark_at : (bs : List ℕ) (m : Mark) → BeginsWithNoBlank bs → 1 ≤ length bs
    → (is_word_byte (get_or bs 0 0) ≡ false → mark_of (get_or bs 0 0) ≡ m → ⊥) → BeginsWithout m (tokens bs)
no_mark_at [] m shown some other = absurd (omega arith)
no_mark_at (b ∷ bs) m shown some other = no_mark b bs m shown other
