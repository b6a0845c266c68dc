-- Numbers and letters that are passed among the buffered bytes.
use Rattle.qbf_tokens.proofs.Cited.{◌≡◌, ℕ, ◌+◌, ◌^◌, ◌<◌, ◌≤◌, Bool, true, false, not, List, [], ◌∷◌, ◌++◌, length, refl, sym, ap, ◌∙◌}
use Rattle.qbf_tokens.proofs.Cited.{◌-◌, append-nil, append_assoc, arith, Lined}
use Rattle.window_numbers.proofs.Cited.{nat_eq, drop, subst, take, zero, suc, ◌⊎◌, inl, inr, drop-drop, Comments, Token, Number}
use Rattle.window_numbers.proofs.Cited.{BeginsWithNumber}
use Rattle.window_numbers.specs.Numbers.{BeginsWithLetter}
use Rattle.qbf_tokens.specs.declared.token.Token.TheVariants.{Word as ThisWord}
use Rattle.qbf_tokens.specs.declared.token.Word.{Word}
use Rattle.std.proofs.Common.{length-drop, length-append}
use Rattle.std.proofs.lemmas.List.{take-append-drop, take_all}
use Rattle.window_numbers.specs.declared.cursor.Cursor.{Cursor}
use Rattle.window_numbers.specs.Cursors.{one_if, tokens_from_cursor, cursor_after, is_begun, Passes, PassesToken}
use Rattle.window_numbers.proofs.LeftAfterNumber.{spelled_ending, spelled_blanked, spelled_letter}

-- all bytes from a place on
pub all_after : (at : ℕ) (bytes : List ℕ) → take (length bytes - at) (drop at bytes) ≡ drop at bytes
all_after at bytes = take_all (length bytes - at) (drop at bytes) (omega (arith, length-drop at bytes))

-- the bytes from a number on are its run, the separator and the bytes after
split : (bytes : List ℕ) (at len : ℕ) (front : List ℕ) → take len (drop at bytes) ≡ front
    → drop at bytes ≡ front ++ drop (at + len) bytes
split bytes at len front is =
    sym (take-append-drop len (drop at bytes))
    ∙ ap (λ l. l ++ drop len (drop at bytes)) is
    ∙ ap (λ l. front ++ l) (drop-drop len at bytes)

zero_or : (n : ℕ) → (n ≡ 0) ⊎ (0 < n)
zero_or zero = inl refl
zero_or (suc n) = inr (omega arith)

-- a number and its separator take some bytes
pub number_takes : (bytes : List ℕ) (negative : Bool) (value len : ℕ) (ends : Bool) → BeginsWithNumber bytes negative value len ends → 0 < len
number_takes bytes negative value len ends h = elim (zero_or len) [
  | inl none ↦ absurd (let empty : [] ≡ h.run ++ h.separator ∷ [] = rw none at h.front in
      let none_left : 0 ≡ length h.run + 1 = ap length empty ∙ length-append h.run (h.separator ∷ []) in omega (arith, none_left))
  | inr more ↦ more
]

module _ (bytes : List ℕ) (here : Cursor) (negative : Bool) (value len : ℕ) (ends : Bool)
    (h : BeginsWithNumber (drop here.at bytes) negative value len ends) (small : here.line < 2 ^ 64) where
  spelled : (ends_line : Bool) → ends_line ≡ ends → (format : Comments) (rest : List ℕ)
      → tokens_from_cursor format here ((h.run ++ h.separator ∷ []) ++ rest)
      ≡ (Number negative value, here.line) ∷ tokens_from_cursor format (cursor_after here len ends_line) rest
  spelled true e format rest =
      spelled_ending format (is_begun here) here.line (drop here.at bytes) negative value len ends h small (sym e) rest
  spelled false e format rest =
      spelled_blanked format (is_begun here) here.line (drop here.at bytes) negative value len ends h small (sym e) rest

  at_after : (ends_line : Bool) → (cursor_after here len ends_line).at ≡ here.at + len
  at_after true = refl
  at_after false = refl

  some : 0 < len
  some = number_takes (drop here.at bytes) negative value len ends h

  -- a number in front of the bytes from the cursor on is passed
  pub passes_number : here.at ≤ length bytes → PassesToken bytes here (cursor_after here len ends) (Number negative value)
  passes_number within = record {
    word = h.run;
    separator = h.separator;
    unbroken = h.unbroken;
    separates = h.separates;
    no_end = refl;
    further = rw (at_after ends) (omega (arith, some));
    within = rw (at_after ends) (omega (arith, within, h.within, length-drop here.at bytes));
    taken = rw (at_after ends) (split bytes here.at len (h.run ++ h.separator ∷ []) h.front);
    spelled = spelled ends refl;
  }

-- a letter in front of the bytes from the cursor on is passed
pub passes_letter : (bytes : List ℕ) (here : Cursor) (word : Word) → BeginsWithLetter (drop here.at bytes) word → here.line < 2 ^ 64
    → here.at ≤ length bytes
    → PassesToken bytes here (record { at = here.at + 2; line = here.line; tokens = 1 }) (ThisWord word)
passes_letter bytes here word h small within =
    let two : length (drop here.at bytes) ≡ suc (suc (length h.rest)) = ap length h.bytes_are in record {
      word = h.letter ∷ [];
      separator = 32;
      unbroken = (h.unbroken, tt);
      separates = refl;
      no_end = refl;
      further = omega arith;
      within = omega (arith, within, two, length-drop here.at bytes);
      taken = split bytes here.at 2 (h.letter ∷ 32 ∷ []) (ap (take 2) h.bytes_are);
      spelled = λ format rest.
          spelled_letter format (is_begun here) here.line h.letter word rest small h.unbroken h.is (h.no_comment format);
    }

-- ---- number after number

module _ (bytes : List ℕ) where
  pub passes_none : (Are : List Lined → Type 0) (here : Cursor) → here.at ≤ length bytes → Are [] → Passes Are bytes here here
  passes_none Are here within are = record {
    front = [];
    given = [];
    forward = omega arith;
    within = within;
    taken = refl;
    spelled = λ format rest. refl;
    are = are;
  }

  pub passes_then : (Are Then Both : List Lined → Type 0) (here mid there : Cursor)
      → ((ts us : List Lined) → Are ts → Then us → Both (ts ++ us))
      → Passes Are bytes here mid → Passes Then bytes mid there → Passes Both bytes here there
  passes_then Are Then Both here mid there both s t = record {
    front = s.front ++ t.front;
    given = s.given ++ t.given;
    forward = omega (arith, s.forward, t.forward);
    within = t.within;
    taken = s.taken ∙ ap (λ l. s.front ++ l) t.taken ∙ sym (append_assoc s.front t.front (drop there.at bytes));
    spelled = λ format rest.
        ap (tokens_from_cursor format here) (append_assoc s.front t.front rest)
        ∙ s.spelled format (t.front ++ rest)
        ∙ ap (λ l. s.given ++ l) (t.spelled format rest)
        ∙ sym (append_assoc s.given t.given (tokens_from_cursor format there rest));
    are = both s.given t.given s.are t.are;
  }

  -- bytes without a token more
  pub passes_nothing : (Are : List Lined → Type 0) (here mid there : Cursor) → Passes Are bytes here mid
      → Passes (λ ts. ts ≡ []) bytes mid there → Passes Are bytes here there
  passes_nothing Are here mid there s t =
      passes_then Are (λ ts. ts ≡ []) Are here mid there
      (λ ts us are none. subst (λ l. Are (ts ++ l)) (sym none) (subst Are (sym (append-nil ts)) are)) s t

  one_token : (mid there : Cursor) (token : Token) → PassesToken bytes mid there token
      → Passes (λ ts. ts ≡ (token, mid.line) ∷ []) bytes mid there
  one_token mid there token t = record {
    front = t.word ++ t.separator ∷ [];
    given = (token, mid.line) ∷ [];
    forward = omega (arith, t.further);
    within = t.within;
    taken = t.taken;
    spelled = t.spelled;
    are = refl;
  }

  -- one number more
  pub passes_one : (Are Both : List Lined → Type 0) (here mid there : Cursor) (token : Token)
      → ((ts : List Lined) → Are ts → Both (ts ++ (token, mid.line) ∷ []))
      → Passes Are bytes here mid → PassesToken bytes mid there token → Passes Both bytes here there
  passes_one Are Both here mid there token both s t =
      passes_then Are (λ us. us ≡ (token, mid.line) ∷ []) Both here mid there
      (λ ts us are is. subst (λ l. Both (ts ++ l)) (sym is) (both ts are)) s (one_token mid there token t)

-- separators, if any, and then one number stand between two cursors, whatever bytes follow
pub record ComesNext (bytes : List ℕ) (here next : Cursor) (token : Token) : Type 0 where
  pub mid : Cursor
  pub gap : Passes (λ ts. ts ≡ []) bytes here mid
  pub number : PassesToken bytes mid next token

-- ---- cursors

pub begun_counted : (b : Bool) → not (nat_eq (one_if b) 0) ≡ b
begun_counted true = refl
begun_counted false = refl
