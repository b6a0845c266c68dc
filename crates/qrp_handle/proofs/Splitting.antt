-- Clauses that are written in one list, taken one after the other.
use Rattle.std.proofs.Common.{◌≡◌, ◌≢◌, ◌+◌, ◌<◌, ◌≤◌, ℕ, zero, suc, ℤ, pos, List, [], ◌∷◌, ◌++◌, ap, append_assoc, arith, drop, get_or, length, map, refl, subst, sym, take, tests, ◌∙◌}
use Rattle.std.proofs.lemmas.List.{drop_all, map-append, take_all}
use Rattle.std.proofs.lemmas.Grind.{common_steps}
use Rattle.std.specs.List.{AllByRecursion}
use Rattle.qbf_core.specs.WrittenLiterals.{literal_of}
use Rattle.qrp_handle.specs.Many.{AreAdded, clauses_of, with_first}
use Rattle.qrp_handle.specs.declared.proof.Proof.{Proof}

-- a number that is not 0
abbrev pub IsLiteral : ℤ → Type 0
IsLiteral z = z ≢ pos 0

-- a number that is not 0 comes first
front : (x : ℤ) (xs : List ℤ) → IsLiteral x → clauses_of (x ∷ xs) ≡ with_first x (clauses_of xs)
front x xs this = grind (arith, common_steps, tests)

-- the first clause ends at the first zero
pub first_split : (xs : List ℤ) (i : ℕ) (d : ℤ) → i < length xs → AllByRecursion IsLiteral (take i xs) → get_or xs i d ≡ pos 0
    → clauses_of xs ≡ take i xs ∷ clauses_of (drop (i + 1) xs)
first_split [] i d less free is = absurd (omega (arith, less))
first_split (x ∷ xs) zero d less free is = grind (arith, common_steps, tests)
first_split (x ∷ xs) (suc i) d less free is =
    let rest = first_split xs i d (omega (arith, less)) free.1 is in
    let further : suc (i + 1) ≡ suc i + 1 = omega arith in
    front x xs free.0 ∙ ap (with_first x) rest ∙ ap (λ (k : ℕ). (x ∷ take i xs) ∷ clauses_of (drop k (x ∷ xs))) further

whole : (x : ℤ) (xs : List ℤ) → AllByRecursion IsLiteral (x ∷ xs) → clauses_of (x ∷ xs) ≡ (x ∷ xs) ∷ []
whole x [] free = front x [] free.0
whole x (y ∷ ys) free = front x (y ∷ ys) free.0 ∙ ap (with_first x) (whole y ys free.1)

-- without a zero the list is one clause
pub whole_split : (xs : List ℤ) (i : ℕ) → xs ≢ [] → length xs ≤ i → AllByRecursion IsLiteral (take i xs)
    → clauses_of xs ≡ take (length xs) xs ∷ clauses_of (drop (length xs + 1) xs)
whole_split [] i some up free = absurd (some refl)
whole_split (x ∷ xs) i some up free =
    let list = x ∷ xs in
    let all = take_all i list up in
    let own = take_all (length list) list (omega arith) in
    let none = drop_all (length list + 1) list (omega arith) in
    whole x xs (subst (λ (zs : List ℤ). AllByRecursion IsLiteral zs) all free)
    ∙ ap (λ (zs : List ℤ). zs ∷ []) (sym own)
    ∙ ap (λ (zs : List ℤ). take (length list) list ∷ clauses_of zs) (sym none)

-- the clause after so many is taken
pub record IsNext (cs : List (List ℤ)) (count : ℕ) (c : List ℤ) (rest : List (List ℤ)) : Type 0 where
  pub left : drop (count + 1) cs ≡ rest
  pub so_far : take (count + 1) cs ≡ take count cs ++ c ∷ []
  pub this : get_or cs count [] ≡ c
  pub within : count < length cs

pub next_clause : (cs : List (List ℤ)) (count : ℕ) (c : List ℤ) (rest : List (List ℤ)) → drop count cs ≡ c ∷ rest → IsNext cs count c rest
next_clause [] zero c rest e = absurd (cc e)
next_clause [] (suc count) c rest e = absurd (cc e)
next_clause (x ∷ cs) zero c rest e = grind (arith, common_steps)
next_clause (x ∷ cs) (suc count) c rest e =
    let below = next_clause cs count c rest e in
    let further : suc count + 1 ≡ suc (count + 1) = omega arith in
    record {
      left = ap (λ (k : ℕ). drop k (x ∷ cs)) further ∙ below.left;
      so_far = ap (λ (k : ℕ). take k (x ∷ cs)) further ∙ ap (λ (ds : List (List ℤ)). x ∷ ds) below.so_far;
      this = below.this;
      within = omega (arith, below.within);
    }

-- one more clause is added
pub one_more_added : (zs : List ℤ) (count : ℕ) (c : List ℤ) (p q r : Proof) → AreAdded count zs p q
    → r ≡ record q { formula = record q.formula { clauses = q.formula.clauses ++ map literal_of c ∷ [] } }
    → take (count + 1) (clauses_of zs) ≡ take count (clauses_of zs) ++ c ∷ [] → AreAdded (count + 1) zs p r
one_more_added zs count c p q r so_far this taken = grind (arith, common_steps, map-append, append_assoc)

emptied : (cs : List (List ℤ)) (count : ℕ) → drop count cs ≡ [] → count ≤ length cs → count ≡ length cs
emptied [] count none within = omega (arith, within)
emptied (x ∷ cs) zero none within = absurd (cc none)
emptied (x ∷ cs) (suc count) none within = let below = emptied cs count none (omega (arith, within)) in omega (arith, below)

-- no number is left, so all clauses were taken
pub all_taken : (cs : List (List ℤ)) (count : ℕ) (zs : List ℤ) → drop count cs ≡ clauses_of zs → length zs ≡ 0 → count ≤ length cs
    → count ≡ length cs
all_taken cs count [] left none within = emptied cs count left within
all_taken cs count (z ∷ zs) left none within = absurd (omega (arith, none))
