-- Whether all of some literals are set, or some of them, by recursion.
use Rattle.std.specs.Prelude.{◌&&◌, ◌||◌}
use Rattle.std.specs.List.{list_all, list_any}
use Rattle.gate_clauses.proofs.Cited.{◌≡◌, Bool, true, false, cond, List, [], ◌∷◌, ◌∙◌, refl, ap, Literal, are_set, is_set}

abbrev pub any_set : List Literal → List Literal → Bool
any_set [] s = false
any_set (l ∷ ls) s = cond (is_set l s) true (any_set ls s)

pub any_is : (ls s : List Literal) → list_any (λ l. is_set l s) ls ≡ any_set ls s
any_is [] s = refl
any_is (l ∷ ls) s = by (is_set l s) (list_any (λ m. is_set m s) ls) ∙ ap (λ (b : Bool). cond (is_set l s) true b) (any_is ls s)
  where
    by : (b c : Bool) → (b || c) ≡ cond b true c
    by true c = refl
    by false c = refl

pub all_is : (ls s : List Literal) → list_all (λ l. is_set l s) ls ≡ are_set ls s
all_is [] s = refl
all_is (l ∷ ls) s = by (is_set l s) (list_all (λ m. is_set m s) ls) ∙ ap (λ (b : Bool). cond (is_set l s) b false) (all_is ls s)
  where
    by : (b c : Bool) → (b && c) ≡ cond b c false
    by true c = refl
    by false c = refl
