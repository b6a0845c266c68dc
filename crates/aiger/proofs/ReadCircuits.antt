-- The texts of a circuit read back.
use Rattle.std.proofs.Common.{arith, ◌≡◌, ◌<◌, ◌≤◌, ◌+◌, ◌-◌, ◌*◌, ◌/◌, ◌%◌, ◌^◌, ℕ, suc, nat_eq, nat_lt, Bool, true, false, cond, List, [], ◌∷◌, ◌++◌}
use Rattle.std.proofs.Common.{refl, sym, ap, ◌∙◌, length, map, Option, None, Some, codes, decimal, inl, inr, ◌⊎◌}
use Rattle.std.specs.List.{AllByRecursion, flat_map}
use Rattle.std.proofs.lemmas.Fmt.{decimal_by_steps}
use Rattle.std.proofs.lemmas.Grind.{common_steps}
use Rattle.std.proofs.lemmas.List.{append_assoc, append-nil}
use Rattle.aiger.specs.Circuits.{Circuit, Gate, IsOrdered, StandBelow, first_gate}
use Rattle.aiger.specs.Wires.{Wire, number_of, wire_of}
use Rattle.aiger.specs.Texts.{ascii_text, beginning, counts, gate_lines, header, input_line, input_lines, numbers_line, output_line}
use Rattle.aiger.specs.Texts.{symbol_lines, symbols, unnamed_ascii}
use Rattle.aiger.specs.Reading.{and_then, ascii_circuit, ascii_parts, digits_after, ended, gates_read, header_counts, inputs_read}
use Rattle.aiger.specs.Reading.{binary_circuit, binary_parts, circuit_of, delta, deltas_read, is_digit, named, names_read, number, outputs_read}
use Rattle.aiger.specs.Reading.{parts_before, table_read, with_names, word, Counts, Parts}
use Rattle.aiger.specs.Binary.{binary_beginning, binary_text, gate_bytes, gates_bytes, greater, groups, lesser, number_bytes, unnamed_binary}
use Rattle.aiger.specs.Laws.{AreNamed, CircuitsReadBack, greater_first}
use Rattle.aiger.proofs.BinaryNumbers.{last_group, next_group}

-- ---- one thing after the other

pub goes_on : {X Y : Type 0} (o : Option X) (x : X) (f : X → Option Y) → o ≡ Some x → and_then o f ≡ f x
goes_on o x f is = ap (λ (p : Option _). and_then p f) is

same_number : (n : ℕ) → nat_eq n n ≡ true
same_number n = grind (arith, common_steps)

word_back : (ws rest : List ℕ) → word ws (ws ++ rest) ≡ Some rest
word_back [] rest = refl
word_back (w ∷ ws) rest = rw (same_number w) (word_back ws rest)

-- ---- numbers

digit_is : (d : ℕ) → d < 10 → is_digit (48 + d) ≡ true
digit_is d less =
    let least : nat_lt (48 + d) 48 ≡ false = grind (arith, common_steps) in
    let most : nat_lt (48 + d) 58 ≡ true = grind (arith, common_steps) in rw least most

digit_read : (n d : ℕ) (rest : List ℕ) → d < 10 → digits_after n ((48 + d) ∷ rest) ≡ digits_after (10 * n + d) rest
digit_read n d rest less =
    ap (λ (b : Bool). cond b (digits_after (10 * n + (48 + d - 48)) rest) (n, (48 + d) ∷ rest)) (digit_is d less)
    ∙ (let e : 10 * n + (48 + d - 48) ≡ 10 * n + d = omega arith in ap (λ (k : ℕ). digits_after k rest) e)

-- the digits of a number at the front
record InFront (n : ℕ) (digits : List ℕ) : Type 0 where
  pub value : (rest : List ℕ) → digits_after 0 (digits ++ rest) ≡ digits_after n rest
  pub some : (end : ℕ) (rest : List ℕ) → number end (digits ++ rest) ≡ ended end (digits_after 0 (digits ++ rest))

one_digit : (n : ℕ) → n < 10 → InFront n ((48 + n) ∷ [])
one_digit n less = record {
  value = λ rest. digit_read 0 n rest less ∙ (let e : 10 * 0 + n ≡ n = omega arith in ap (λ (k : ℕ). digits_after k rest) e);
  some = λ end rest. ap (λ (b : Bool). cond b (ended end (digits_after 0 ((48 + n) ∷ rest))) None) (digit_is n less);
}

more_digits : (n : ℕ) (digits : List ℕ) → 10 ≤ n → InFront (n / 10) digits → InFront n (digits ++ ((48 + n % 10) ∷ []))
more_digits n digits least before = record {
  value = λ rest.
      let whole : 10 * (n / 10) + n % 10 ≡ n = omega arith in
      let less : n % 10 < 10 = omega arith in
      ap (digits_after 0) (append_assoc digits ((48 + n % 10) ∷ []) rest)
      ∙ (before.value ((48 + n % 10) ∷ rest)
      ∙ (digit_read (n / 10) (n % 10) rest less ∙ ap (λ (k : ℕ). digits_after k rest) whole));
  some = λ end rest.
      ap (number end) (append_assoc digits ((48 + n % 10) ∷ []) rest)
      ∙ (before.some end ((48 + n % 10) ∷ rest)
      ∙ ap (λ (t : List ℕ). ended end (digits_after 0 t)) (sym (append_assoc digits ((48 + n % 10) ∷ []) rest)));
}

in_front : (n : ℕ) → n < 2 ^ 64 → InFront n (decimal n)
in_front n less = decimal_by_steps InFront one_digit more_digits n less

line_back : (n : ℕ) (rest : List ℕ) → n < 2 ^ 64 → number 10 (decimal n ++ (10 ∷ rest)) ≡ Some (n, rest)
line_back n rest less = let front = in_front n less in front.some 10 (10 ∷ rest) ∙ ap (ended 10) (front.value (10 ∷ rest))

blank_back : (n : ℕ) (rest : List ℕ) → n < 2 ^ 64 → number 32 (decimal n ++ (32 ∷ rest)) ≡ Some (n, rest)
blank_back n rest less = let front = in_front n less in front.some 32 (32 ∷ rest) ∙ ap (ended 32) (front.value (32 ∷ rest))

-- ---- the header

enough : (i a : ℕ) → nat_lt (i + a) (i + 0 + a) ≡ false
enough i a = grind (arith, common_steps)

header_back : (i o a : ℕ) (rest : List ℕ) → i + a < 2 ^ 64 → o < 2 ^ 64
    → header_counts (numbers_line ((i + a) ∷ i ∷ 0 ∷ o ∷ a ∷ []) ++ rest)
    ≡ Some (record { inputs = i; outputs = o; gates = a }, rest)
header_back i o a rest few outputs =
    let after_o : List ℕ = decimal a ++ (10 ∷ rest) in
    let after_l : List ℕ = decimal o ++ (32 ∷ after_o) in
    let after_i : List ℕ = decimal 0 ++ (32 ∷ after_l) in
    let after_m : List ℕ = decimal i ++ (32 ∷ after_i) in
    let written : numbers_line ((i + a) ∷ i ∷ 0 ∷ o ∷ a ∷ []) ++ rest ≡ 32 ∷ (decimal (i + a) ++ (32 ∷ after_m)) = simp append_assoc refl in
    ap header_counts written
    ∙ (goes_on (number 32 (decimal (i + a) ++ (32 ∷ after_m))) (i + a, after_m) _ (blank_back (i + a) after_m few)
    ∙ (goes_on (number 32 after_m) (i, after_i) _ (blank_back i after_i (omega (arith, few)))
    ∙ (goes_on (number 32 after_i) (0, after_l) _ (blank_back 0 after_l (omega arith))
    ∙ (goes_on (number 32 after_l) (o, after_o) _ (blank_back o after_o outputs)
    ∙ (goes_on (number 10 after_o) (a, rest) _ (line_back a rest (omega (arith, few)))
    ∙ rw (enough i a) refl)))))

-- ---- inputs, outputs, gates, names

inputs_back : (n : ℕ) (vs rest : List ℕ) → n + length vs ≤ 2147483648 → inputs_read (length vs) n (input_lines n vs ++ rest) ≡ Some rest
inputs_back n [] rest few = refl
inputs_back n (v ∷ vs) rest few =
    let after : List ℕ = input_lines (suc n) vs ++ rest in
    let written : input_lines n (v ∷ vs) ++ rest ≡ decimal (2 * n) ++ (10 ∷ after) =
    append_assoc (input_line n) (input_lines (suc n) vs) rest ∙ append_assoc (decimal (2 * n)) (10 ∷ []) after in
    ap (inputs_read (suc (length vs)) n) written
    ∙ (goes_on (number 10 (decimal (2 * n) ++ (10 ∷ after))) (2 * n, after) _ (line_back (2 * n) after (omega (arith, few)))
    ∙ rw (same_number (2 * n)) (inputs_back (suc n) vs rest (omega (arith, few))))

wire_back : (w : Wire) → wire_of (number_of w) ≡ w
wire_back w = by w.var w.negated
  where
    by : (v : ℕ) (b : Bool) → wire_of (number_of (record { var = v; negated = b })) ≡ record { var = v; negated = b }
    by v true =
        let half : (2 * v + 1) / 2 ≡ v = omega arith in
        let odd : (2 * v + 1) % 2 ≡ 1 = omega arith in rw (half, odd) refl
    by v false =
        let half : (2 * v + 0) / 2 ≡ v = omega arith in
        let even : (2 * v + 0) % 2 ≡ 0 = omega arith in rw (half, even) refl

wire_number : (n : ℕ) (w : Wire) → w.var < n → n ≤ 2147483648 → number_of w < 2 ^ 64
wire_number n w less few = by w.negated
  where
    by : (b : Bool) → 2 * w.var + cond b 1 0 < 2 ^ 64
    by true = omega (arith, less, few)
    by false = omega (arith, less, few)

outputs_back : (n : ℕ) (os : List (ℕ × Wire)) (rest : List ℕ) → n ≤ 2147483648 → AllByRecursion (λ o. o.1.var < n) os
    → outputs_read (length os) (flat_map output_line os ++ rest) ≡ Some (map (λ o. o.1) os, rest)
outputs_back n [] rest few below = refl
outputs_back n (o ∷ os) rest few below =
    let after : List ℕ = flat_map output_line os ++ rest in
    let written : flat_map output_line (o ∷ os) ++ rest ≡ decimal (number_of o.1) ++ (10 ∷ after) =
    append_assoc (output_line o) (flat_map output_line os) rest ∙ append_assoc (decimal (number_of o.1)) (10 ∷ []) after in
    ap (outputs_read (suc (length os))) written
    ∙ (goes_on (number 10 (decimal (number_of o.1) ++ (10 ∷ after))) (number_of o.1, after) _
    (line_back (number_of o.1) after (wire_number n o.1 below.0 few))
    ∙ (goes_on (outputs_read (length os) after) (map (λ o. o.1) os, rest) _ (outputs_back n os rest few below.1)
    ∙ ap (λ (w : Wire). Some (w ∷ map (λ o. o.1) os, rest)) (wire_back o.1)))

gates_back : (n : ℕ) (gates : List Gate) (rest : List ℕ) → n + length gates ≤ 2147483648 → StandBelow n gates
    → gates_read (length gates) n (gate_lines n gates ++ rest) ≡ Some (gates, rest)
gates_back n [] rest few below = refl
gates_back n (g ∷ gates) rest few below =
    let after : List ℕ = gate_lines (suc n) gates ++ rest in
    let after_l : List ℕ = decimal (number_of g.right) ++ (10 ∷ after) in
    let after_v : List ℕ = decimal (number_of g.left) ++ (32 ∷ after_l) in
    let written : gate_lines n (g ∷ gates) ++ rest ≡ decimal (2 * n) ++ (32 ∷ after_v) = simp append_assoc refl in
    ap (gates_read (suc (length gates)) n) written
    ∙ (goes_on (number 32 (decimal (2 * n) ++ (32 ∷ after_v))) (2 * n, after_v) _ (blank_back (2 * n) after_v (omega (arith, few)))
    ∙ (goes_on (number 32 after_v) (number_of g.left, after_l) _
    (blank_back (number_of g.left) after_l (wire_number n g.left below.0 (omega (arith, few))))
    ∙ (goes_on (number 10 after_l) (number_of g.right, after) _
    (line_back (number_of g.right) after (wire_number n g.right below.1 (omega (arith, few))))
    ∙ rw (same_number (2 * n)) (goes_on (gates_read (length gates) (suc n) after) (gates, rest) _
    (gates_back (suc n) gates rest (omega (arith, few)) below.2)
    ∙ (ap (λ (w : Wire). Some (record { left = w; right = wire_of (number_of g.right) } ∷ gates, rest)) (wire_back g.left)
    ∙ ap (λ (w : Wire). Some (record { left = g.left; right = w } ∷ gates, rest)) (wire_back g.right))))))

-- each text is read as a name, with the end of its line
abbrev pub AreRead : {X : Type 0} → (List ℕ → Option (X × List ℕ)) → List (List ℕ) → List X → Type 0
AreRead read [] [] = Unit {0}
AreRead read [] (x ∷ xs) = ⊥
AreRead read (t ∷ ts) [] = ⊥
AreRead read (t ∷ ts) (x ∷ xs) = ((rest : List ℕ) → read (t ++ (10 ∷ rest)) ≡ Some (x, rest)) × AreRead read ts xs

names_back : {X : Type 0} (read : List ℕ → Option (X × List ℕ)) (letter : List ℕ) (n : ℕ) (ts : List (List ℕ)) (xs : List X)
    (rest : List ℕ) → n + length xs < 2 ^ 64 → AreRead read ts xs
    → names_read read letter (length xs) n (symbol_lines letter n ts ++ rest) ≡ Some (xs, rest)
names_back read letter n [] [] rest few are = refl
names_back read letter n [] (x ∷ xs) rest few are = absurd are
names_back read letter n (t ∷ ts) [] rest few are = absurd are
names_back read letter n (t ∷ ts) (x ∷ xs) rest few are =
    let after : List ℕ = symbol_lines letter (suc n) ts ++ rest in
    let after_n : List ℕ = t ++ (10 ∷ after) in
    let written : symbol_lines letter n (t ∷ ts) ++ rest ≡ letter ++ (decimal n ++ (32 ∷ after_n)) = simp append_assoc refl in
    ap (names_read read letter (suc (length xs)) n) written
    ∙ (goes_on (word letter (letter ++ (decimal n ++ (32 ∷ after_n)))) (decimal n ++ (32 ∷ after_n)) _ (word_back letter (decimal n ++ (32 ∷ after_n)))
    ∙ (goes_on (number 32 (decimal n ++ (32 ∷ after_n))) (n, after_n) _ (blank_back n after_n (omega (arith, few)))
    ∙ (goes_on (read after_n) (x, after) _ (are.0 after)
    ∙ rw (same_number n) (goes_on (names_read read letter (length xs) (suc n) after) (xs, rest) _
    (names_back read letter (suc n) ts xs rest (omega (arith, few)) are.1)))))

-- the names of a table read back
pub table_back : {X : Type 0} (read : List ℕ → Option (X × List ℕ)) (k : Counts) (is os : List (List ℕ)) (xs ys : List X)
    → k.inputs ≡ length xs → k.outputs ≡ length ys → length xs < 2 ^ 64 → length ys < 2 ^ 64 → AreRead read is xs → AreRead read os ys
    → table_read read k (symbol_lines (codes "i") 0 is ++ symbol_lines (codes "o") 0 os) ≡ Some (xs, ys)
table_back read k is os xs ys inputs outputs few_inputs few_outputs in_read out_read =
    let after : List ℕ = symbol_lines (codes "o") 0 os in
    goes_on (names_read read (codes "i") k.inputs 0 (symbol_lines (codes "i") 0 is ++ after)) (xs, after) _
    (ap (λ (n : ℕ). names_read read (codes "i") n 0 (symbol_lines (codes "i") 0 is ++ after)) inputs
    ∙ names_back read (codes "i") 0 is xs after (omega (arith, few_inputs)) in_read)
    ∙ goes_on (names_read read (codes "o") k.outputs 0 after) (ys, []) _
    (ap (λ (n : ℕ). names_read read (codes "o") n 0 after) outputs
    ∙ (ap (names_read read (codes "o") (length ys) 0) (sym (append-nil after))
    ∙ names_back read (codes "o") 0 os ys [] (omega (arith, few_outputs)) out_read))

pub named_back : {X : Type 0} (f : ℕ → X) (os : List (ℕ × Wire))
    → named (map f (map (λ o. o.0) os)) (map (λ o. o.1) os) ≡ map (λ o. (f o.0, o.1)) os
named_back f [] = refl
named_back f (o ∷ os) = ap (λ (more : List (_ × Wire)). (f o.0, o.1) ∷ more) (named_back f os)

names_itself : (os : List (ℕ × Wire)) → named (map (λ o. o.0) os) (map (λ o. o.1) os) ≡ os
names_itself [] = refl
names_itself (o ∷ os) = ap (λ (more : List (ℕ × Wire)). o ∷ more) (names_itself os)

numbers_read : (ns : List ℕ) → AllByRecursion (λ v. v < 2 ^ 64) ns → AreRead (number 10) (map decimal ns) ns
numbers_read [] small = tt
numbers_read (n ∷ ns) small = (λ rest. line_back n rest small.0, numbers_read ns small.1)

pub count_names : (os : List (ℕ × Wire)) → length (map (λ o. o.0) os) ≡ length os
count_names [] = refl
count_names (o ∷ os) = ap suc (count_names os)

-- what is read before the symbols of a circuit with these gates
abbrev pub parts_of : Circuit → List Gate → Parts
parts_of c gates = record {
  counts = record { inputs = length c.inputs; outputs = length c.outputs; gates = length c.gates };
  wires = map (λ o. o.1) c.outputs;
  gates = gates;
}

symbols_back : (c : Circuit) (gates : List Gate) → length c.inputs < 2 ^ 64 → AreNamed c
    → with_names (parts_of c gates, symbols c) ≡ Some (record { inputs = c.inputs; outputs = c.outputs; gates = gates })
symbols_back c gates few names =
    let numbers : List ℕ = map (λ o. o.0) c.outputs in
    goes_on (table_read (number 10) (parts_of c gates).counts (symbols c)) (c.inputs, numbers) (circuit_of (parts_of c gates))
    (table_back (number 10) (parts_of c gates).counts (map decimal c.inputs) (map decimal numbers) c.inputs numbers refl
    (sym (count_names c.outputs)) few (let e = count_names c.outputs in let f = names.few in omega (arith, e, f))
    (numbers_read c.inputs names.inputs) (numbers_read numbers names.outputs))
    ∙ ap (λ (os : List (ℕ × Wire)). Some (record { inputs = c.inputs; outputs = os; gates = gates })) (names_itself c.outputs)

-- what stands before the symbols reads back, whatever these are
pub ascii_parts_back : (c : Circuit) (rest : List ℕ) → IsOrdered c → length c.outputs < 2 ^ 64
    → ascii_parts (unnamed_ascii c ++ rest) ≡ Some (parts_of c c.gates, rest)
ascii_parts_back c rest ordered few_outputs =
    let after_outputs : Counts → List Wire × List ℕ → Option (Parts × List ℕ) = λ k o. and_then (gates_read k.gates (suc k.inputs) o.1) (parts_before k o.0) in
    let after_inputs : Counts → List ℕ → Option (Parts × List ℕ) = λ k t. and_then (outputs_read k.outputs t) (after_outputs k) in
    let after_header : Counts × List ℕ → Option (Parts × List ℕ) = λ k. and_then (inputs_read k.0.inputs 1 k.1) (after_inputs k.0) in
    let after_word : List ℕ → Option (Parts × List ℕ) = λ t. and_then (header_counts t) after_header in
    let rest_o : List ℕ = gate_lines (first_gate c) c.gates ++ rest in
    let rest_i : List ℕ = flat_map output_line c.outputs ++ rest_o in
    let rest_h : List ℕ = input_lines 1 c.inputs ++ rest_i in
    let rest_w : List ℕ = counts c ++ rest_h in
    let found : Counts = record { inputs = length c.inputs; outputs = length c.outputs; gates = length c.gates } in
    let wires : List Wire = map (λ o. o.1) c.outputs in
    let few = ordered.few in
    let written : unnamed_ascii c ++ rest ≡ codes "aag" ++ rest_w =
    append_assoc (beginning c) (gate_lines (first_gate c) c.gates) rest
    ∙ (append_assoc (header c) (input_lines 1 c.inputs ++ flat_map output_line c.outputs) rest_o
    ∙ (ap (λ (t : List ℕ). header c ++ t) (append_assoc (input_lines 1 c.inputs) (flat_map output_line c.outputs) rest_o)
    ∙ append_assoc (codes "aag") (counts c) rest_h)) in
    ap ascii_parts written
    ∙ (goes_on (word (codes "aag") (codes "aag" ++ rest_w)) rest_w after_word (word_back (codes "aag") rest_w)
    ∙ (goes_on (header_counts rest_w) (found, rest_h) after_header
    (header_back (length c.inputs) (length c.outputs) (length c.gates) rest_h (omega (arith, few)) few_outputs)
    ∙ (goes_on (inputs_read (length c.inputs) 1 rest_h) rest_i (after_inputs found) (inputs_back 1 c.inputs rest_i (omega (arith, few)))
    ∙ (goes_on (outputs_read (length c.outputs) rest_i) (wires, rest_o) (after_outputs found)
    (outputs_back (first_gate c + length c.gates) c.outputs rest_o few ordered.outputs)
    ∙ goes_on (gates_read (length c.gates) (first_gate c) rest_o) (c.gates, rest) (parts_before found wires)
    (gates_back (first_gate c) c.gates rest few ordered.gates)))))

pub ascii_back : (c : Circuit) → IsOrdered c → AreNamed c → ascii_circuit (ascii_text c) ≡ Some c
ascii_back c ordered names =
    let few = ordered.few in
    goes_on (ascii_parts (ascii_text c)) (parts_of c c.gates, symbols c) with_names (ascii_parts_back c (symbols c) ordered names.few)
    ∙ symbols_back c c.gates (omega (arith, few)) names

-- ---- the binary format

less_128 : (x : ℕ) → x < 128 → nat_lt x 128 ≡ true
less_128 x less = grind (arith, common_steps)

more_128 : (x : ℕ) → nat_lt (128 + x) 128 ≡ false
more_128 x = grind (arith, common_steps)

-- a number below a bound reads back from this many groups
abbrev IsDelta : ℕ → ℕ → Type 0
IsDelta n bound = (x : ℕ) (rest : List ℕ) → x < bound → delta (groups n x ++ rest) ≡ Some (x, rest)

one_group : (n x : ℕ) (rest : List ℕ) → x < 128 → delta (groups (suc n) x ++ rest) ≡ Some (x, rest)
one_group n x rest less = ap (λ (g : List ℕ). delta (g ++ rest)) (last_group n x less) ∙ rw (less_128 x less) refl

more_groups : (n bound : ℕ) → IsDelta (suc n) bound → IsDelta (suc (suc n)) (128 * bound)
more_groups n bound before x rest less = elim (cases_order_128 x) [
  | inl small ↦ one_group (suc n) x rest small
  | inr large ↦
      let inside : x / 128 < bound = omega (arith, less) in
      let whole : 128 * (x / 128) + (128 + x % 128 - 128) ≡ x = omega arith in
      ap (λ (g : List ℕ). delta (g ++ rest)) (next_group (suc n) x large)
      ∙ (ap (λ (b : Bool). cond b (Some (128 + x % 128, groups (suc n) (x / 128) ++ rest))
      (and_then (delta (groups (suc n) (x / 128) ++ rest)) (λ r. Some (128 * r.0 + (128 + x % 128 - 128), r.1)))) (more_128 (x % 128))
      ∙ (goes_on (delta (groups (suc n) (x / 128) ++ rest)) (x / 128, rest) _ (before (x / 128) rest inside)
      ∙ ap (λ (k : ℕ). Some (k, rest)) whole))
]
  where
    cases_order_128 : (x : ℕ) → (x < 128) ⊎ (128 ≤ x)
    cases_order_128 x = by (nat_lt x 128) refl
      where
        by : (b : Bool) → nat_lt x 128 ≡ b → (x < 128) ⊎ (128 ≤ x)
        by true is = inl (grind (arith, common_steps))
        by false is = inr (grind (arith, common_steps))

number_back : (x : ℕ) (rest : List ℕ) → x < 34359738368 → delta (number_bytes x ++ rest) ≡ Some (x, rest)
number_back x rest less =
    more_groups 3 268435456 (more_groups 2 2097152 (more_groups 1 16384 (more_groups 0 128 (one_group 0)))) x rest less

order_is : (n : ℕ) (g : Gate) → g.left.var < n → g.right.var < n → (lesser g ≤ greater g) × (greater g ≤ 2 * n)
order_is n g left right = by (nat_lt (number_of g.left) (number_of g.right)) refl
  where
    most : (w : Wire) → w.var < n → number_of w ≤ 2 * n
    most w less = at w.negated
      where
        at : (b : Bool) → 2 * w.var + cond b 1 0 ≤ 2 * n
        at true = omega (arith, less)
        at false = omega (arith, less)

    by : (b : Bool) → nat_lt (number_of g.left) (number_of g.right) ≡ b
        → (cond b (number_of g.left) (number_of g.right) ≤ cond b (number_of g.right) (number_of g.left))
        × (cond b (number_of g.right) (number_of g.left) ≤ 2 * n)
    by true is = (let l : number_of g.left < number_of g.right = grind (arith, common_steps) in omega (arith, l), most g.right right)
    by false is = (grind (arith, common_steps), most g.left left)

abbrev gate_of : Wire → Wire → Gate
gate_of left right = record { left = left; right = right }

gate_back : (g : Gate) → gate_of (wire_of (greater g)) (wire_of (lesser g)) ≡ greater_first g
gate_back g = by (nat_lt (number_of g.left) (number_of g.right))
  where
    both_back : (v w : Wire) → gate_of (wire_of (number_of v)) (wire_of (number_of w)) ≡ gate_of v w
    both_back v w = ap (λ (x : Wire). gate_of x (wire_of (number_of w))) (wire_back v) ∙ ap (gate_of v) (wire_back w)

    by : (b : Bool) → gate_of (wire_of (cond b (number_of g.right) (number_of g.left))) (wire_of (cond b (number_of g.left) (number_of g.right)))
        ≡ cond b (gate_of g.right g.left) g
    by true = both_back g.right g.left
    by false = both_back g.left g.right

deltas_back : (n : ℕ) (gates : List Gate) (rest : List ℕ) → n + length gates ≤ 2147483648 → StandBelow n gates
    → deltas_read (length gates) n (gates_bytes n gates ++ rest) ≡ Some (map greater_first gates, rest)
deltas_back n [] rest few below = refl
deltas_back n (g ∷ gates) rest few below =
    let order = order_is n g below.0 below.1 in
    let one = order.0 in
    let two = order.1 in
    let high : ℕ = 2 * n - greater g in
    let low : ℕ = greater g - lesser g in
    let after : List ℕ = gates_bytes (suc n) gates ++ rest in
    let after_h : List ℕ = number_bytes low ++ after in
    let written : gates_bytes n (g ∷ gates) ++ rest ≡ number_bytes high ++ after_h =
    append_assoc (gate_bytes n g) (gates_bytes (suc n) gates) rest ∙ append_assoc (number_bytes high) (number_bytes low) after in
    let left : 2 * n - high ≡ greater g = omega (arith, two) in
    let right : 2 * n - high - low ≡ lesser g = omega (arith, one, two) in
    let more : List Gate = map greater_first gates in
    ap (deltas_read (suc (length gates)) n) written
    ∙ (goes_on (delta (number_bytes high ++ after_h)) (high, after_h) _ (number_back high after_h (omega (arith, few)))
    ∙ (goes_on (delta after_h) (low, after) _ (number_back low after (omega (arith, few, two)))
    ∙ (goes_on (deltas_read (length gates) (suc n) after) (more, rest) _ (deltas_back (suc n) gates rest (omega (arith, few)) below.2)
    ∙ (ap (λ (k : ℕ). Some (gate_of (wire_of k) (wire_of (2 * n - high - low)) ∷ more, rest)) left
    ∙ (ap (λ (k : ℕ). Some (gate_of (wire_of (greater g)) (wire_of k) ∷ more, rest)) right
    ∙ ap (λ (h : Gate). Some (h ∷ more, rest)) (gate_back g))))))

pub binary_parts_back : (c : Circuit) (rest : List ℕ) → IsOrdered c → length c.outputs < 2 ^ 64
    → binary_parts (unnamed_binary c ++ rest) ≡ Some (parts_of c (map greater_first c.gates), rest)
binary_parts_back c rest ordered few_outputs =
    let after_outputs : Counts → List Wire × List ℕ → Option (Parts × List ℕ) = λ k o. and_then (deltas_read k.gates (suc k.inputs) o.1) (parts_before k o.0) in
    let after_header : Counts × List ℕ → Option (Parts × List ℕ) = λ k. and_then (outputs_read k.0.outputs k.1) (after_outputs k.0) in
    let after_word : List ℕ → Option (Parts × List ℕ) = λ t. and_then (header_counts t) after_header in
    let rest_o : List ℕ = gates_bytes (first_gate c) c.gates ++ rest in
    let rest_h : List ℕ = flat_map output_line c.outputs ++ rest_o in
    let rest_w : List ℕ = counts c ++ rest_h in
    let found : Counts = record { inputs = length c.inputs; outputs = length c.outputs; gates = length c.gates } in
    let wires : List Wire = map (λ o. o.1) c.outputs in
    let few = ordered.few in
    let written : unnamed_binary c ++ rest ≡ codes "aig" ++ rest_w =
    append_assoc (binary_beginning c) (gates_bytes (first_gate c) c.gates) rest
    ∙ (append_assoc (codes "aig") (counts c ++ flat_map output_line c.outputs) rest_o
    ∙ ap (λ (t : List ℕ). codes "aig" ++ t) (append_assoc (counts c) (flat_map output_line c.outputs) rest_o)) in
    ap binary_parts written
    ∙ (goes_on (word (codes "aig") (codes "aig" ++ rest_w)) rest_w after_word (word_back (codes "aig") rest_w)
    ∙ (goes_on (header_counts rest_w) (found, rest_h) after_header
    (header_back (length c.inputs) (length c.outputs) (length c.gates) rest_h (omega (arith, few)) few_outputs)
    ∙ (goes_on (outputs_read (length c.outputs) rest_h) (wires, rest_o) (after_outputs found)
    (outputs_back (first_gate c + length c.gates) c.outputs rest_o few ordered.outputs)
    ∙ goes_on (deltas_read (length c.gates) (first_gate c) rest_o) (map greater_first c.gates, rest) (parts_before found wires)
    (deltas_back (first_gate c) c.gates rest few ordered.gates))))

pub binary_back : (c : Circuit) → IsOrdered c → AreNamed c
    → binary_circuit (binary_text c) ≡ Some (record { inputs = c.inputs; outputs = c.outputs; gates = map greater_first c.gates })
binary_back c ordered names =
    let few = ordered.few in
    goes_on (binary_parts (binary_text c)) (parts_of c (map greater_first c.gates), symbols c) with_names (binary_parts_back c (symbols c) ordered names.few)
    ∙ symbols_back c (map greater_first c.gates) (omega (arith, few)) names

pub circuits_read_back : CircuitsReadBack
circuits_read_back c ordered names = (ascii_back c ordered names, binary_back c ordered names)
