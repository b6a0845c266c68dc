-- The literals that are set are those of the list.
use Rattle.qbf_core.proofs.Cited.{◌≡◌, Bool, true, false, cond, List, [], ◌∷◌, inl, inr, refl, false≢true, Literal, literal_eq, ◌∈◌}
use Rattle.qbf_core.proofs.Members.{lit_decides}
use Rattle.qbf_completeness.specs.Setting.{is_set}

set_by : (b : Bool) (l m : Literal) (s : List Literal) → (b ≡ true → l ≡ m) → (is_set l s ≡ true → l ∈ s) → cond b true (is_set l s) ≡ true
    → l ∈ (m ∷ s)
set_by true l m s same later t = inl (same refl)
set_by false l m s same later t = inr (later t)

pub set_in : (l : Literal) (s : List Literal) → is_set l s ≡ true → l ∈ s
set_in l [] t = absurd (false≢true t)
set_in l (m ∷ s) t = set_by (literal_eq l m) l m s (lit_decides l m).0 (set_in l s) t

by_first : (b c : Bool) → b ≡ true → cond b true c ≡ true
by_first true c e = refl
by_first false c e = absurd (false≢true e)

by_second : (b c : Bool) → c ≡ true → cond b true c ≡ true
by_second true c e = refl
by_second false c e = e

pub in_set : (l : Literal) (s : List Literal) → l ∈ s → is_set l s ≡ true
in_set l [] h = absurd h
in_set l (m ∷ s) (inl e) = by_first (literal_eq l m) (is_set l s) ((lit_decides l m).1 e)
in_set l (m ∷ s) (inr h) = by_second (literal_eq l m) (is_set l s) (in_set l s h)
