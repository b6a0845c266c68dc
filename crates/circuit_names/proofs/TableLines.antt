-- The lines of a symbol table carry the names.
use Rattle.std.proofs.Common.{arith, ◌≡◌, ◌<◌, ◌+◌, ◌%◌, ◌^◌, ℕ, zero, suc, List, [], ◌∷◌, ◌++◌, length, map, refl, sym, ap, ◌∙◌}
use Rattle.std.proofs.Common.{Some, slice_get, codes, decimal, inl, inr}
use Rattle.std.specs.List.{AllByRecursion, slice_split}
use Rattle.std.specs.Option.{option_map, unwrap_or}
use Rattle.std.proofs.lemmas.Bool.Decides.{eqb_tells}
use Rattle.std.proofs.lemmas.Fmt.{decimal_by_steps}
use Rattle.std.proofs.lemmas.List.{append_assoc, append-nil, length-map}
use Rattle.std.proofs.lemmas.Option.{slice_get-map}
use Rattle.aiger.specs.Circuits.{Circuit, IsOrdered}
use Rattle.aiger.specs.Texts.{symbol_line, symbol_lines}
use Rattle.aiger.proofs.ReadCircuits.{count_names}
use Rattle.qbf_tokens.proofs.CanonicalTokens.{all_appended}
use Rattle.qbf_tokens.specs.Tokens.{is_line_end}
use Rattle.qcir.specs.Names.{Name}
use Rattle.qcir.specs.Reading.{Question}
use Rattle.qcir.specs.Texts.{name_at, name_of}
use Rattle.qcir.proofs.WrittenLines.{IsInside, line_before}
use Rattle.circuit_names.specs.Laws.{AreNamed, VariablesAreNamed, symbol, table_lines}
use Rattle.circuit_names.proofs.WordNames.{all_inside, names_are_words}

digit_inside : (d : ℕ) → IsInside (48 + d)
digit_inside d = elim (eqb_tells (48 + d) 10) [
  | inl h ↦ (let e : 48 + d ≡ 10 = h.1 in absurd (omega (arith, e)))
  | inr h ↦ h.0
]

digits_inside : (n : ℕ) → n < 2 ^ 64 → AllByRecursion IsInside (decimal n)
digits_inside n less = decimal_by_steps (λ k ds. AllByRecursion IsInside ds) (λ k small. (digit_inside k, tt))
    (λ k ds least before. all_appended IsInside ds ((48 + k % 10) ∷ []) before (digit_inside (k % 10), tt)) n less

-- a letter is no line end
abbrev IsLetter : List ℕ → Type 0
IsLetter letter = AllByRecursion IsInside letter

one_line : (letter : List ℕ) (n : ℕ) (w rest : List ℕ) → IsLetter letter → n < 2 ^ 64 → AllByRecursion IsInside w
    → slice_split is_line_end (symbol_line letter n w ++ rest) ≡ symbol letter n w ∷ slice_split is_line_end rest
one_line letter n w rest is less inside =
    let written : symbol_line letter n w ++ rest ≡ symbol letter n w ++ 10 ∷ rest = simp append_assoc refl in
    ap (slice_split is_line_end) written
    ∙ line_before (symbol letter n w) rest
    (all_appended IsInside letter (decimal n ++ 32 ∷ w) is
    (all_appended IsInside (decimal n) (32 ∷ w) (digits_inside n less) (refl, inside)))

-- the lines of names, the first of which has the position n
abbrev lines : List ℕ → ℕ → List Name → List (List ℕ)
lines letter n [] = []
lines letter n (w ∷ ws) = symbol letter n w ∷ lines letter (suc n) ws

lines_are : (letter : List ℕ) (n : ℕ) (ws : List Name) (rest : List ℕ) → IsLetter letter → n + length ws < 2 ^ 64
    → AllByRecursion (λ w. AllByRecursion IsInside w) ws
    → slice_split is_line_end (symbol_lines letter n ws ++ rest) ≡ lines letter n ws ++ slice_split is_line_end rest
lines_are letter n [] rest is few all = refl
lines_are letter n (w ∷ ws) rest is few all =
    ap (slice_split is_line_end) (append_assoc (symbol_line letter n w) (symbol_lines letter (suc n) ws) rest)
    ∙ (one_line letter n w (symbol_lines letter (suc n) ws ++ rest) is (omega (arith, few)) all.0
    ∙ ap (λ (ls : List (List ℕ)). symbol letter n w ∷ ls) (lines_are letter (suc n) ws rest is (omega (arith, few)) all.1))

line_at : (letter : List ℕ) (n : ℕ) (ws : List Name) (rest : List (List ℕ)) (i : ℕ) (w : Name) → slice_get ws i ≡ Some w
    → slice_get (lines letter n ws ++ rest) i ≡ Some (symbol letter (n + i) w)
line_at letter n [] rest i w at = absurd (cc at)
line_at letter n (y ∷ ws) rest zero w at =
    let e : y ≡ w = cc at in
    let k : n ≡ n + 0 = omega arith in ap (λ (m : ℕ). Some (symbol letter m y)) k ∙ ap (λ (v : Name). Some (symbol letter (n + 0) v)) e
line_at letter n (y ∷ ws) rest (suc i) w at =
    let k : suc n + i ≡ n + suc i = omega arith in
    line_at letter (suc n) ws rest i w at ∙ ap (λ (m : ℕ). Some (symbol letter m w)) k

after : {X : Type 0} (xs ys : List X) (i : ℕ) → slice_get (xs ++ ys) (length xs + i) ≡ slice_get ys i
after [] ys i = let e : 0 + i ≡ i = omega arith in ap (slice_get ys) e
after (x ∷ xs) ys i = let e : suc (length xs) + i ≡ suc (length xs + i) = omega arith in ap (slice_get (x ∷ (xs ++ ys))) e ∙ after xs ys i

-- the first one has the position 0
first_at : (letter : List ℕ) (ws : List Name) (rest : List (List ℕ)) (i : ℕ) (w : Name) → slice_get ws i ≡ Some w
    → slice_get (lines letter 0 ws ++ rest) i ≡ Some (symbol letter i w)
first_at letter ws rest i w at = let e : 0 + i ≡ i = omega arith in line_at letter 0 ws rest i w at ∙ ap (λ (m : ℕ). Some (symbol letter m w)) e

count_lines : (letter : List ℕ) (n : ℕ) (ws : List Name) → length (lines letter n ws) ≡ length ws
count_lines letter n [] = refl
count_lines letter n (w ∷ ws) = ap suc (count_lines letter (suc n) ws)

named_at : (names : List Name) (vs : List ℕ) (i v : ℕ) (w : Name) → slice_get vs i ≡ Some v → name_at names v ≡ Some w
    → slice_get (map (name_of names) vs) i ≡ Some w
named_at names vs i v w at named =
    slice_get-map (name_of names) vs i ∙ (ap (option_map (name_of names)) at ∙ ap (λ o. Some (unwrap_or o [])) named)

module _ (q : Question) (c : Circuit) (inside : (vs : List ℕ) → AllByRecursion (λ w. AllByRecursion IsInside w) (map (name_of q.names) vs))
    (ordered : IsOrdered c) (few : length c.outputs < 2 ^ 64) where
  abbrev numbers : List ℕ
  numbers = map (λ o. o.0) c.outputs

  abbrev inputs : List Name
  inputs = map (name_of q.names) c.inputs

  abbrev outputs : List Name
  outputs = map (name_of q.names) numbers

  abbrev output_text : List ℕ
  output_text = symbol_lines (codes "o") 0 outputs

  all_inputs : table_lines q.names c ≡ lines (codes "i") 0 inputs ++ slice_split is_line_end output_text
  all_inputs =
      let e = length-map c.inputs (name_of q.names) in
      let least = ordered.few in
      lines_are (codes "i") 0 inputs output_text (refl, tt) (omega (arith, e, least)) (inside c.inputs)

  all_outputs : slice_split is_line_end output_text ≡ lines (codes "o") 0 outputs ++ slice_split is_line_end []
  all_outputs =
      let e = length-map numbers (name_of q.names) ∙ count_names c.outputs in
      ap (slice_split is_line_end) (sym (append-nil output_text))
      ∙ lines_are (codes "o") 0 outputs [] (refl, tt) (omega (arith, e, few)) (inside numbers)

  pub are_named : (i v : ℕ) (w : Name) → name_at q.names v ≡ Some w → AreNamed q c i v w
  are_named i v w named = record {
    inputs = λ at. ap (λ (ls : List (List ℕ)). slice_get ls i) all_inputs
        ∙ first_at (codes "i") inputs (slice_split is_line_end output_text) i w (named_at q.names c.inputs i v w at named);
    outputs = λ at.
        let count : length (lines (codes "i") 0 inputs) ≡ length c.inputs = count_lines (codes "i") 0 inputs ∙ length-map c.inputs (name_of q.names) in
        ap (λ (n : ℕ). slice_get (table_lines q.names c) (n + i)) (sym count)
        ∙ (ap (λ (ls : List (List ℕ)). slice_get ls (length (lines (codes "i") 0 inputs) + i)) all_inputs
        ∙ (after (lines (codes "i") 0 inputs) (slice_split is_line_end output_text) i
        ∙ (ap (λ (ls : List (List ℕ)). slice_get ls i) all_outputs
        ∙ first_at (codes "o") outputs (slice_split is_line_end []) i w (named_at q.names numbers i v w at named))));
  }

pub variables_are_named : VariablesAreNamed
variables_are_named bytes q c i v w is ordered few named =
    are_named q c (all_inside q.names (names_are_words bytes q is)) ordered few i v w named
