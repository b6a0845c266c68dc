-- One variable more, and one gate more.
use Rattle.std.proofs.Common.{arith, ◌≡◌, ℕ, ◌+◌, ◌≤◌, true, List, [], ◌∷◌, ◌++◌, length, Ok, nat_lt, sym, ap, subst, ◌∙◌}
use Rattle.std.proofs.Common.{length-append, inl, inr}
use Rattle.std.specs.Prelude.{bytes_eq}
use Rattle.std.specs.List.{AllByRecursion, list_any}
use Rattle.std.proofs.lemmas.Bool.{cases_Bool}
use Rattle.qbf_core.proofs.Cited.{eqb_tells}
use Rattle.qbf_core.specs.declared.quantifier.Quantifier.{Quantifier}
use Rattle.qbf_core.specs.Blocks.{Block, is_bound, pairs, variables}
use Rattle.qcir.specs.Names.{Name, with_name}

-- a name that is given goes last
pub name_last : (names more : List Name) (w : Name) → with_name names w ≡ Ok more → more ≡ names ++ w ∷ []
name_last names more w is =
    elim (cases_Bool (nat_lt (length names) 2147483647)) [
      | inl few ↦ elim (cases_Bool (list_any (bytes_eq w) names)) [
        | inl there ↦ let e = rw (few, there) at is in cc
        | inr fresh ↦ let e = rw (few, fresh) at is in cc
      ]
      | inr full ↦ let e = rw full at is in cc
    ]

pub one_longer : (names more : List Name) (w : Name) → with_name names w ≡ Ok more → length more ≡ length names + 1
one_longer names more w is = ap length (name_last names more w is) ∙ length-append names (w ∷ [])

-- a bound variable is one of those that are bounded
pub within : (ps : List (Quantifier × ℕ)) (v n : ℕ) → AllByRecursion (λ w. w ≤ n) (variables ps) → is_bound v ps ≡ true → v ≤ n
within [] v n all there = absurd (cc there)
within (p ∷ ps) v n all there =
    elim (eqb_tells v p.1) [
      | inl (t, is) ↦ rw is all.0
      | inr (f, _) ↦ (let h : is_bound v ps ≡ true = rw f at there in within ps v n all.1 h)
    ]

pub still_within : (vs : List ℕ) (n m : ℕ) → n ≤ m → AllByRecursion (λ w. w ≤ n) vs → AllByRecursion (λ w. w ≤ m) vs
still_within [] n m more all = tt
still_within (v ∷ vs) n m more all = (omega (arith, all.0), still_within vs n m more all.1)

pub one_within : (ps : List (Quantifier × ℕ)) (q : Quantifier) (v n : ℕ) → v ≤ n → AllByRecursion (λ w. w ≤ n) (variables ps)
    → AllByRecursion (λ w. w ≤ n) (variables (ps ++ (q, v) ∷ []))
one_within [] q v n own all = (own, tt)
one_within (p ∷ ps) q v n own all = (all.0, one_within ps q v n own all.1)

pub grown : (bs cs : List Block) (n m : ℕ) → cs ≡ bs → n ≤ m → AllByRecursion (λ w. w ≤ n) (variables (pairs bs))
    → AllByRecursion (λ w. w ≤ m) (variables (pairs cs))
grown bs cs n m same more all = rw same (still_within (variables (pairs bs)) n m more all)

pub one_grown : (bs cs : List Block) (q : Quantifier) (n m : ℕ) → pairs cs ≡ pairs bs ++ (q, m) ∷ [] → n ≤ m
    → AllByRecursion (λ w. w ≤ n) (variables (pairs bs)) → AllByRecursion (λ w. w ≤ m) (variables (pairs cs))
one_grown bs cs q n m pushed more all =
    let P : List (Quantifier × ℕ) → Type 0 = λ ps. AllByRecursion (λ w. w ≤ m) (variables ps) in
    subst P (sym pushed) (one_within (pairs bs) q m m (omega arith) (still_within (variables (pairs bs)) n m more all))
