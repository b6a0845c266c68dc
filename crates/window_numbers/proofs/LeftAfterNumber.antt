-- The tokens that are left after a number or a letter that stands whole among the buffered bytes.
use Rattle.qbf_tokens.proofs.Cited.{rules, ◌≡◌, ℕ, ◌+◌, ◌^◌, ◌<◌, Bool, true, false, List, [], ◌∷◌, ◌++◌, sym, ap, ◌∙◌, arith, append_assoc}
use Rattle.qbf_tokens.proofs.Cited.{common_steps, kind, line_number, begins_number, is_separator, IsUnbroken, tokens_left}
use Rattle.qbf_tokens.proofs.Cited.{refl, is_comment_byte}
use Rattle.qbf_tokens.specs.declared.token.Token.TheVariants.{Word as ThisWord}
use Rattle.qbf_tokens.specs.declared.token.Word.{Word}
use Rattle.window_numbers.proofs.Cited.{eqb-true, Comments, Number, BeginsWithNumber}
use Rattle.qbf_tokens.proofs.ByteByByte.{left_run, left_line_end, left_blank, or_cases, IsToken, tokens_left-counted}

-- a run that begins as a number does is not a comment
number_token : (f : Comments) (begun : Bool) (run : List ℕ) → begins_number run ≡ true → IsToken f begun run
number_token f begun run h = search rules

-- a run and a separator
left_number : (f : Comments) (begun : Bool) (n : ℕ) (run : List ℕ) (separator : ℕ) (rest : List ℕ) → begins_number run ≡ true → IsUnbroken run
    → is_separator separator ≡ true
    → tokens_left f begun n ((run ++ separator ∷ []) ++ rest) ≡ (kind run, line_number n) ∷ tokens_left f true n (separator ∷ rest)
left_number f begun n run separator rest begins unbroken sep = grind (arith, common_steps, append_assoc, left_run, number_token)

module _ (f : Comments) (begun : Bool) (n : ℕ) (pending : List ℕ) (negative : Bool) (value len : ℕ) (ends : Bool)
    (h : BeginsWithNumber pending negative value len ends) (small : n < 2 ^ 64) where
  same : line_number n ≡ n
  same = omega arith

  -- the separator ends the line
  pub spelled_ending : ends ≡ true → (rest : List ℕ)
      → tokens_left f begun n ((h.run ++ h.separator ∷ []) ++ rest) ≡ (Number negative value, n) ∷ tokens_left f false (line_number (n + 1)) rest
  spelled_ending e rest =
      let line_end : h.separator ≡ 10 = eqb-true h.separator 10 (sym h.ends ∙ e) in
      left_number f begun n h.run h.separator rest h.begins h.unbroken h.separates
      ∙ ap (λ k. (k, line_number n) ∷ tokens_left f true n (h.separator ∷ rest)) (sym h.is)
      ∙ ap (λ m. (Number negative value, m) ∷ tokens_left f true n (h.separator ∷ rest)) same
      ∙ ap (λ ts. (Number negative value, n) ∷ ts) (ap (λ b. tokens_left f true n (b ∷ rest)) line_end ∙ left_line_end f true n rest
      ∙ tokens_left-counted f false (n + 1) (line_number (n + 1)) rest (omega arith))

  -- it is a blank
  pub spelled_blanked : ends ≡ false → (rest : List ℕ)
      → tokens_left f begun n ((h.run ++ h.separator ∷ []) ++ rest) ≡ (Number negative value, n) ∷ tokens_left f true n rest
  spelled_blanked e rest = grind (arith, common_steps, or_cases, left_number, same, left_blank)

-- a letter and a blank
pub spelled_letter : (f : Comments) (begun : Bool) (n l : ℕ) (word : Word) (rest : List ℕ) → n < 2 ^ 64 → is_separator l ≡ false
    → kind (l ∷ []) ≡ ThisWord word → is_comment_byte f l ≡ false
    → tokens_left f begun n (l ∷ 32 ∷ rest) ≡ (ThisWord word, n) ∷ tokens_left f true n rest
spelled_letter f begun n l word rest small unbroken is other =
    left_run f begun n (l ∷ []) (32 ∷ rest) (unbroken, tt) refl (token begun)
    ∙ ap (λ k. (k, line_number n) ∷ tokens_left f true n (32 ∷ rest)) is
    ∙ ap (λ m. (ThisWord word, m) ∷ tokens_left f true n (32 ∷ rest)) same
    ∙ ap (λ ts. (ThisWord word, n) ∷ ts) (left_blank f true n 32 rest refl)
  where
    same : line_number n ≡ n
    same = omega (arith, small)

    token : (b : Bool) → IsToken f b (l ∷ [])
    token true = tt
    token false = other
