-- How many gates decisions take at most.
use Rattle.std.proofs.Common.{arith, ◌≡◌, ◌<◌, ◌≤◌, ◌+◌, ◌*◌, ℕ, zero, suc, Bool, true, false, cond, List, [], ◌∷◌, ◌++◌, Some, slice_get}
use Rattle.std.proofs.Common.{refl, sym, ap, subst, ◌∙◌, length, map, get_or, take, nat_eq, add-one, ◌==◌, eqb-true, inl, inr, ◌⊎◌}
use Rattle.std.proofs.lemmas.Bool.{cases_Bool}
use Rattle.std.proofs.lemmas.List.{length-map}
use Rattle.std.proofs.lemmas.Option.{get_or_from_slice_get, slice_get_within}
use Rattle.std.specs.List.{IsDistinct}
use Rattle.qbf_core.specs.Blocks.{variables}
use Rattle.qbf_core.specs.declared.quantifier.Quantifier.{Quantifier}
use Rattle.qbf_core.specs.Literal.{Literal}
use Rattle.qbf_strategy.specs.Assembling.{IsAt}
use Rattle.qbf_strategy.specs.Chains.{Sayings, with_lists, with_literals}
use Rattle.qbf_strategy.specs.Computing.{size}
use Rattle.qbf_strategy.specs.Costs.{cost, cost_all, cost_among, is_among}
use Rattle.lists.specs.Lists.{count_items}
use Rattle.qbf_strategy.specs.Decisions.{decisions_by, wanted}
use Rattle.qbf_strategy.proofs.ChainedEntries.{once}
use Rattle.aiger.proofs.TrimmedGates.{take_next}

-- ---- one variable more

among_more : (v u : ℕ) (us : List ℕ) → is_among v (us ++ u ∷ []) ≡ cond (is_among v us) true (v == u)
among_more v u [] = by (v == u)
  where
    by : (b : Bool) → cond b true false ≡ b
    by true = refl
    by false = refl
among_more v u (w ∷ us) = by (v == w) (among_more v u us)
  where
    by : (b : Bool) → is_among v (us ++ u ∷ []) ≡ cond (is_among v us) true (v == u)
        → cond b true (is_among v (us ++ u ∷ [])) ≡ cond (cond b true (is_among v us)) true (v == u)
    by true e = refl
    by false e = e

-- the variables before a place
among_take : (ps : List (Quantifier × ℕ)) (n v : ℕ) → is_among v (take n (variables ps)) ≡ true
    → (i : ℕ) × (i < n) × IsAt ps i v
among_take [] zero v is = absurd (cc is)
among_take [] (suc n) v is = absurd (cc is)
among_take (p ∷ ps) zero v is = absurd (cc is)
among_take ((q, u) ∷ ps) (suc n) v is = elim (cases_Bool (v == u)) [
  | inl same ↦ (0, omega arith, (q, ap (λ (x : ℕ). Some (q, x)) (sym (eqb-true v u same))))
  | inr other ↦ let w = among_take ps n v (rw other at is) in (suc w.0, (let less = w.1 in omega (arith, less)), w.2)
]

module _ (kept : List (List Literal)) where
  more : (a b c d k : ℕ) → a + b ≤ c → cond true k 0 + a + b ≤ k + c
  more a b c d k e = omega (arith, e)

  pub cost_more : (us : List ℕ) (v : ℕ) (said : Sayings) → is_among v us ≡ false
      → cost_among kept us said + cost_among kept (v ∷ []) said ≤ cost_among kept (us ++ v ∷ []) said
  cost_more us v [] none = omega arith
  cost_more us v ((k, l) ∷ said) none =
      let rest = cost_more us v said none in
      elim (cases_Bool (l.var == v)) [
        | inl same ↦
            let outside : is_among l.var us ≡ false = ap (λ (x : ℕ). is_among x us) (eqb-true l.var v same) ∙ none in
            let inside : is_among l.var (us ++ v ∷ []) ≡ true = among_more l.var v us ∙ rw (outside, same) refl in
            rw (outside, inside, same) (omega (arith, rest))
        | inr other ↦
            let unchanged : is_among l.var (us ++ v ∷ []) ≡ is_among l.var us = among_more l.var v us ∙ rw other (by (is_among l.var us)) in
            rw (unchanged, other) (omega (arith, rest))
      ]
    where
      by : (b : Bool) → cond b true false ≡ b
      by true = refl
      by false = refl

  pub cost_within : (us : List ℕ) (said : Sayings) → cost_among kept us said ≤ cost_all kept said
  cost_within us [] = omega arith
  cost_within us ((k, l) ∷ said) = let rest = cost_within us said in by (is_among l.var us) rest
    where
      by : (b : Bool) → cost_among kept us said ≤ cost_all kept said
          → cond b (cost kept k) 0 + cost_among kept us said ≤ cost kept k + cost_all kept said
      by true rest = omega (arith, rest)
      by false rest = omega (arith, rest)

  pub cost_next : (ps : List (Quantifier × ℕ)) (i v : ℕ) (said : Sayings) → IsDistinct nat_eq (variables ps) → IsAt ps i v
      → cost_among kept (take i (variables ps)) said + cost_among kept (v ∷ []) said ≤ cost_among kept (take (i + 1) (variables ps)) said
  cost_next ps i v said distinct at =
      let there : slice_get (variables ps) i ≡ Some v = var_at ps i v at in
      let longer : take (i + 1) (variables ps) ≡ take i (variables ps) ++ v ∷ [] = take_next (variables ps) i v there in
      subst (λ (us : List ℕ). cost_among kept (take i (variables ps)) said + cost_among kept (v ∷ []) said ≤ cost_among kept us said)
      (sym longer) (cost_more (take i (variables ps)) v said (new_one ps i v distinct at))
    where
      var_at : (ps : List (Quantifier × ℕ)) (i v : ℕ) → IsAt ps i v → slice_get (variables ps) i ≡ Some v
      var_at [] i v (q, at) = absurd (cc at)
      var_at ((p, u) ∷ ps) zero v (q, at) = let e : (p, u) ≡ (q, v) = cc at in ap (λ (x : Quantifier × ℕ). Some x.1) e
      var_at (p ∷ ps) (suc i) v (q, at) = var_at ps i v (q, at)

      new_one : (ps : List (Quantifier × ℕ)) (i v : ℕ) → IsDistinct nat_eq (variables ps) → IsAt ps i v
          → is_among v (take i (variables ps)) ≡ false
      new_one ps i v distinct at = elim (cases_Bool (is_among v (take i (variables ps)))) [
        | inl there ↦
            let w = among_take ps i v there in
            absurd (let e = once ps w.0 i v distinct w.2 at in let less = w.1 in omega (arith, e, less))
        | inr none ↦ none
      ]

  -- ---- all decisions

  cost_literals : (mine : Quantifier) (k : ℕ) (ls : List Literal) (said : Sayings)
      → cost_all kept (with_literals mine k ls said) ≡ length ls * cost kept k + cost_all kept said
  cost_literals mine k [] said = omega arith
  cost_literals mine k (l ∷ ls) said =
      cost_literals mine k ls ((k, wanted mine l) ∷ said) ∙ counted (length ls) (cost kept k) (cost_all kept said)
    where
      counted : (n c a : ℕ) → n * c + (c + a) ≡ suc n * c + a
      counted n c a = omega arith

  cost_lists : (mine : Quantifier) (k : ℕ) (keeps removed : List (List Literal)) (said : Sayings) → length removed ≤ length keeps
      → ((i : ℕ) (lits : List Literal) → slice_get keeps i ≡ Some lits → length (get_or kept (k + i) []) ≡ length lits)
      → cost_all kept (with_lists mine k removed said) ≤ size (decisions_by mine keeps removed) + cost_all kept said
  cost_lists mine k [] [] said few are = omega arith
  cost_lists mine k (ls ∷ keeps) [] said few are = omega arith
  cost_lists mine k [] (r ∷ removed) said few are = absurd (omega arith)
  cost_lists mine k (ls ∷ keeps) (r ∷ removed) said few are =
      let z : k + 0 ≡ k = omega arith in
      let here : length (get_or kept k []) ≡ length ls = subst (λ (n : ℕ). length (get_or kept n []) ≡ length ls) z (are 0 ls refl) in
      let rest = cost_lists mine (suc k) keeps removed (with_literals mine k r said) (omega arith)
      (λ i lits at. let e : k + suc i ≡ suc k + i = omega arith in
      subst (λ (n : ℕ). length (get_or kept n []) ≡ length lits) e (are (suc i) lits at)) in
      let here_all = cost_literals mine k r said in
      let sets : length (map (wanted mine) r) ≡ length r = length-map r (wanted mine) in
      let when : length (map (wanted mine) ls) ≡ length ls = length-map ls (wanted mine) in
      let product : length (map (wanted mine) r) * suc (length (map (wanted mine) ls)) ≡ length r * cost kept k =
      rw (sets, when, here) refl in
      omega (arith, rest, here_all, product)

pub cost_is : (mine : Quantifier) (kept removed : List (List Literal)) → length removed ≤ length kept
    → cost_all kept (with_lists mine 0 removed []) ≤ size (decisions_by mine kept removed)
cost_is mine kept removed few =
    let all = cost_lists kept mine 0 kept removed [] few
    (λ i lits at. let z : 0 + i ≡ i = omega arith in
    ap (λ (n : ℕ). length (get_or kept n [])) z ∙ ap length (get_or_from_slice_get kept i lits [] at)) in
    omega (arith, all)

pub count_is : (mine : Quantifier) (kept removed : List (List Literal)) → length removed ≤ length kept
    → length removed + count_items removed ≤ size (decisions_by mine kept removed)
count_is mine [] [] few = omega arith
count_is mine (ls ∷ kept) [] few = omega arith
count_is mine [] (r ∷ removed) few = absurd (omega arith)
count_is mine (ls ∷ kept) (r ∷ removed) few =
    let rest = count_is mine kept removed (omega arith) in
    let sets : length (map (wanted mine) r) ≡ length r = length-map r (wanted mine) in
    let product : length r ≤ length (map (wanted mine) r) * suc (length (map (wanted mine) ls)) =
    rw sets (at_least (length r) (length (map (wanted mine) ls))) in
    omega (arith, rest, product)
  where
    at_least : (n c : ℕ) → n ≤ n * suc c
    at_least zero c = omega arith
    at_least (suc n) c = let rest = at_least n c in omega (arith, rest)

-- ---- how many literals are set

pub list_count : (lists : List (List Literal)) (k : ℕ) (lits : List Literal) (old now : ℕ) → slice_get lists k ≡ Some lits
    → now ≤ old + length lits → now ≤ old + length (get_or lists k [])
list_count lists k lits old now at few =
    let count : length (get_or lists k []) ≡ length lits = ap length (get_or_from_slice_get lists k lits [] at) in omega (arith, count, few)

pub list_too_long : (lists : List (List Literal)) (k : ℕ) (lits : List Literal) (old now : ℕ) → slice_get lists k ≡ Some lits
    → now ≤ old + length lits → (4294967295 ≤ now) ⊎ (2147483648 ≤ k) → (4294967295 ≤ old + length (get_or lists k [])) ⊎ (2147483648 ≤ k)
list_too_long lists k lits old now at few (inl many) = let count = list_count lists k lits old now at few in inl (omega (arith, count, many))
list_too_long lists k lits old now at few (inr late) = inr late

literals_take : (lists : List (List Literal)) (k : ℕ) → k < length lists
    → count_items (take (k + 1) lists) ≡ count_items (take k lists) + length (get_or lists k [])
literals_take lists k less = rw (add-one) (from lists k less)
  where
    from : (lists : List (List Literal)) (k : ℕ) → k < length lists
        → count_items (take (suc k) lists) ≡ count_items (take k lists) + length (get_or lists k [])
    from [] k less = absurd (omega arith)
    from (ls ∷ lists) zero less = omega arith
    from (ls ∷ lists) (suc k) less = let rest = from lists k (omega arith) in omega (arith, rest)

literals_within : (lists : List (List Literal)) (k : ℕ) → count_items (take k lists) ≤ count_items lists
literals_within [] zero = omega arith
literals_within [] (suc k) = omega arith
literals_within (ls ∷ lists) zero = omega arith
literals_within (ls ∷ lists) (suc k) = let rest = literals_within lists k in omega (arith, rest)

pub lists_count : (lists : List (List Literal)) (room k now new : ℕ) → k < length lists → now ≤ room + count_items (take k lists)
    → new ≤ now + length (get_or lists k []) → new ≤ room + count_items (take (k + 1) lists)
lists_count lists room k now new less count one = let e = literals_take lists k less in omega (arith, e, count, one)

pub lists_too_long : (lists : List (List Literal)) (room k now : ℕ) → k < length lists → now ≤ room + count_items (take k lists)
    → (4294967295 ≤ now + length (get_or lists k [])) ⊎ (2147483648 ≤ k)
    → (4294967295 ≤ room + count_items lists) ⊎ (2147483648 ≤ length lists)
lists_too_long lists room k now less count (inl many) =
    let e = literals_take lists k less in let all = literals_within lists (k + 1) in inl (omega (arith, e, count, all, many))
lists_too_long lists room k now less count (inr late) = inr (omega (arith, less, late))

pub circuit_too_long : (mine : Quantifier) (kept removed : List (List Literal)) (inputs : ℕ) → length removed ≤ length kept
    → (4294967295 ≤ count_items removed + count_items removed) ⊎ (2147483648 ≤ length removed) → 2147483647 ≤ inputs + size (decisions_by mine kept removed)
circuit_too_long mine kept removed inputs few (inl many) = let count = count_is mine kept removed few in omega (arith, count, many)
circuit_too_long mine kept removed inputs few (inr late) = let count = count_is mine kept removed few in omega (arith, count, late)
