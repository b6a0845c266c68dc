-- Each run is a word or one byte, and known tokens tell their runs.
use Rattle.std.proofs.Common.{◌≡◌, ◌⊎◌, ℕ, true, false, List, [], ◌∷◌, map, refl, sym, ap, subst, ◌∙◌, inl, inr}
use Rattle.std.specs.List.{AllByRecursion, onto_first}
use Rattle.std.proofs.lemmas.Bool.{false≢true, cases_Bool}
use Rattle.std.proofs.lemmas.Bool.Decides.{eqb_tells}
use Rattle.qbf_tokens.specs.Tokens.{is_blank}
use Rattle.qcir_tokens.specs.declared.mark.Mark.TheVariants.{Close, Comma, Equals, Hash, Minus, Open, Other}
use Rattle.qcir_tokens.specs.Tokens.{Token, Word, Sign, is_word_byte, mark_of, runs, token_of, tokens}
use Rattle.qcir_tokens.proofs.Spelled.{apart, first_run, joined, lone, mark_token, word_token}

-- the bytes of a word, at least one
abbrev pub IsWord : List ℕ → Type 0
IsWord [] = ⊥
IsWord (b ∷ bs) = AllByRecursion (λ c. is_word_byte c ≡ true) (b ∷ bs)

-- a word, or one byte that is not of a word
abbrev pub IsRun : List ℕ → Type 0
IsRun r = IsWord r ⊎ ((b : ℕ) × (r ≡ b ∷ []) × (is_word_byte b ≡ false))

-- ---- runs

-- a run that begins with a byte of a word is a word
word_by_first : (c : ℕ) (w : List ℕ) → is_word_byte c ≡ true → IsRun (c ∷ w) → AllByRecursion (λ b. is_word_byte b ≡ true) (c ∷ w)
word_by_first c w h (inl word) = word
word_by_first c w h (inr one) =
    let same : c ≡ one.0 = cc (one.1) in absurd (false≢true (sym one.2 ∙ (ap is_word_byte (sym same) ∙ h)))

word_run : (b : ℕ) (bs : List ℕ) → is_word_byte b ≡ true → AllByRecursion IsRun (runs bs) → AllByRecursion IsRun (runs (b ∷ bs))
word_run b [] h all = subst (AllByRecursion IsRun) (sym (apart b [] h refl)) (inl (h, tt), all)
word_run b (c ∷ bs) h all =
    elim (cases_Bool (is_word_byte c)) [
      | inl more ↦ (let first = first_run c bs more in
          let these : AllByRecursion IsRun ((c ∷ first.0) ∷ first.1) = subst (AllByRecursion IsRun) first.2 all in
          let is : runs (b ∷ c ∷ bs) ≡ (b ∷ c ∷ first.0) ∷ first.1 = joined b (c ∷ bs) h more ∙ ap (onto_first b) first.2 in
          subst (AllByRecursion IsRun) (sym is) (inl (h, word_by_first c first.0 more these.0), these.1))
      | inr end ↦ subst (AllByRecursion IsRun) (sym (apart b (c ∷ bs) h end)) (inl (h, tt), all)
    ]

pub runs_are : (bs : List ℕ) → AllByRecursion IsRun (runs bs)
runs_are [] = tt
runs_are (b ∷ bs) =
    elim (cases_Bool (is_blank b)) [
      | inl e ↦ rw e (runs_are bs)
      | inr shown ↦ elim (cases_Bool (is_word_byte b)) [
        | inl h ↦ word_run b bs h (runs_are bs)
        | inr h ↦ subst (AllByRecursion IsRun) (sym (lone b bs h shown)) (inr (b, refl, h), runs_are bs)
      ]
    ]

-- ---- tokens

-- the bytes of a token; those of another mark are not known
abbrev spelled : Token → List ℕ
spelled (Word w) = w
spelled (Sign Open) = 40 ∷ []
spelled (Sign Close) = 41 ∷ []
spelled (Sign Comma) = 44 ∷ []
spelled (Sign Minus) = 45 ∷ []
spelled (Sign Equals) = 61 ∷ []
spelled (Sign Hash) = 35 ∷ []
spelled (Sign Other) = []

abbrev pub IsKnown : Token → Type 0
IsKnown (Sign Other) = ⊥
IsKnown t = Unit {0}

mark_spelled : (b : ℕ) → IsKnown (Sign (mark_of b)) → spelled (Sign (mark_of b)) ≡ b ∷ []
mark_spelled b =
    elim (eqb_tells b 40) [
      | inl h ↦ rw h.1 (λ known. refl)
      | inr h ↦ elim (eqb_tells b 41) [
        | inl i ↦ rw i.1 (λ known. refl)
        | inr i ↦ elim (eqb_tells b 44) [
          | inl j ↦ rw j.1 (λ known. refl)
          | inr j ↦ elim (eqb_tells b 45) [
            | inl k ↦ rw k.1 (λ known. refl)
            | inr k ↦ elim (eqb_tells b 61) [
              | inl l ↦ rw l.1 (λ known. refl)
              | inr l ↦ elim (eqb_tells b 35) [
                | inl m ↦ rw m.1 (λ known. refl)
                | inr m ↦ rw (h.0, i.0, j.0, k.0, l.0, m.0) (λ known. absurd known)
              ]
            ]
          ]
        ]
      ]
    ]

run_spelled : (r : List ℕ) → IsRun r → IsKnown (token_of r) → spelled (token_of r) ≡ r
run_spelled [] (inl word) known = absurd word
run_spelled [] (inr one) known = absurd (cc (one.1))
run_spelled (b ∷ bs) (inl word) known = ap spelled (word_token b bs word.0)
run_spelled (b ∷ bs) (inr one) known =
    let P : List ℕ → Type 0 = λ r. IsKnown (token_of r) → spelled (token_of r) ≡ r in
    let mark = mark_token one.0 one.2 in
    subst P (sym one.1) (λ k. ap spelled mark ∙ mark_spelled one.0 (subst IsKnown mark k)) known

-- two runs of one known token are the same
pub known_run : (r s : List ℕ) → IsRun r → IsRun s → token_of r ≡ token_of s → IsKnown (token_of s) → r ≡ s
known_run r s run other is known =
    sym (run_spelled r run (subst IsKnown (sym is) known)) ∙ (ap spelled is ∙ run_spelled s other known)

all_spelled : (rs : List (List ℕ)) → AllByRecursion IsRun rs → AllByRecursion IsKnown (map token_of rs) → map spelled (map token_of rs) ≡ rs
all_spelled [] all known = refl
all_spelled (r ∷ rs) all known =
    ap (λ (w : List ℕ). w ∷ map spelled (map token_of rs)) (run_spelled r all.0 known.0)
    ∙ ap (λ (ws : List (List ℕ)). r ∷ ws) (all_spelled rs all.1 known.1)

-- bytes of the same known tokens have the same runs
pub same_runs : (xs ys : List ℕ) (ts : List Token) → AllByRecursion IsKnown ts → tokens xs ≡ ts → tokens ys ≡ ts → runs xs ≡ runs ys
same_runs xs ys ts known is other =
    sym (all_spelled (runs xs) (runs_are xs) (subst (AllByRecursion IsKnown) (sym is) known))
    ∙ (ap (map spelled) (is ∙ sym other)
    ∙ all_spelled (runs ys) (runs_are ys) (subst (AllByRecursion IsKnown) (sym other) known))

-- the words of tokens are such
abbrev pub IsNamed : Token → Type 0
IsNamed (Word w) = IsWord w
IsNamed (Sign m) = Unit {0}

run_named : (r : List ℕ) → IsRun r → IsNamed (token_of r)
run_named [] (inl word) = absurd word
run_named [] (inr one) = absurd (cc (one.1))
run_named (b ∷ bs) (inl word) = subst IsNamed (sym (word_token b bs word.0)) word
run_named (b ∷ bs) (inr one) =
    subst (λ (r : List ℕ). IsNamed (token_of r)) (sym one.1) (subst IsNamed (sym (mark_token one.0 one.2)) tt)

all_named : (rs : List (List ℕ)) → AllByRecursion IsRun rs → AllByRecursion IsNamed (map token_of rs)
all_named [] all = tt
all_named (r ∷ rs) all = (run_named r all.0, all_named rs all.1)

pub tokens_named : (bs : List ℕ) → AllByRecursion IsNamed (tokens bs)
tokens_named bs = all_named (runs bs) (runs_are bs)
