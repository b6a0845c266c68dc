-- Names by their numbers, and literals by their names.
use Rattle.std.proofs.Common.{arith, ◌≡◌, ℕ, zero, suc, ◌+◌, ◌-◌, ◌<◌, Bool, true, false, List, [], ◌∷◌, ◌++◌, length, map, refl, sym, ap, ◌∙◌}
use Rattle.std.proofs.Common.{inl, inr, Ok, Err, Result, Option, Some, None, slice_get, nat_lt, unwrap_or}
use Rattle.std.specs.Prelude.{bytes_eq, position}
use Rattle.std.specs.Cmp.Lexicographic.{nat_list_eq_equiv}
use Rattle.std.specs.List.{AllByRecursion, IsDistinct, list_any, position_or_len}
use Rattle.std.proofs.lemmas.Bool.{cases_Bool}
use Rattle.std.proofs.lemmas.Bool.Decides.{nat_tests}
use Rattle.std.proofs.lemmas.Map.Keys.{IsDistinct-head, IsDistinct-tail}
use Rattle.std.proofs.lemmas.Slice.Eq.{bytes_eq-Decides}
use Rattle.qbf_core.specs.Literal.{Literal}
use Rattle.lists.proofs.DistinctNumbers.{all_at, front_all, middle}
use Rattle.qcir_tokens.proofs.Runs.{IsWord}
use Rattle.qcir.specs.declared.fault.QuestionFault.{QuestionFault}
use Rattle.qcir.specs.Names.{Name, literal_at, literal_named}
use Rattle.qcir.specs.Reading.{and_literal}
use Rattle.qcir.specs.Texts.{name_of}
use Rattle.qcir.proofs.Numbers.{IsUpTo}
use Rattle.qcir.proofs.Statements.{all_named, by_name}

-- the name at a place stays, and a further one goes last
stays_at : (names more : List Name) (i : ℕ) → i < length names → slice_get (names ++ more) i ≡ slice_get names i
stays_at [] more i within = absurd (omega arith)
stays_at (n ∷ names) more zero within = cc
stays_at (n ∷ names) more (suc i) within = stays_at names more i (omega arith)

last_at : (names more : List Name) (w : Name) → slice_get (names ++ w ∷ more) (length names) ≡ Some w
last_at [] more w = cc
last_at (n ∷ names) more w = last_at names more w

stays : (names more : List Name) (v : ℕ) → IsUpTo (length names) v → name_of (names ++ more) v ≡ name_of names v
stays names more v range = rw (stays_at names more (v - 1) (omega (arith, range.0, range.1))) refl

pub last_is : (names more : List Name) (w : Name) → name_of (names ++ w ∷ more) (length names + 1) ≡ w
last_is names more w =
    let e : length names + 1 - 1 ≡ length names = omega arith in rw (e, last_at names more w) refl

name_at_is : (names : List Name) (i : ℕ) → AllByRecursion IsWord names → i < length names → (w : Name) × (slice_get names i ≡ Some w) × IsWord w
name_at_is [] i named within = absurd (omega arith)
name_at_is (n ∷ names) zero named within = (n, cc, named.0)
name_at_is (n ∷ names) (suc i) named within = name_at_is names i named.1 (omega arith)

pub name_is : (names : List Name) (v : ℕ) → AllByRecursion IsWord names → IsUpTo (length names) v → IsWord (name_of names v)
name_is names v named range =
    let found = name_at_is names (v - 1) named (omega (arith, range.0, range.1)) in
    let at = found.1 in
    rw at found.2

-- ---- the name of a literal that was read

place_has : (w : Name) (names more : List Name) (i : ℕ) → position_or_len (bytes_eq w) names ≡ i → i < length names
    → slice_get (names ++ more) i ≡ Some w
place_has w [] more i at within = absurd (omega arith)
place_has w (n ∷ names) more zero at within =
    elim (cases_Bool (bytes_eq w n)) [
      | inl e ↦ (let same : w ≡ n = grind (arith, bytes_eq-Decides) in rw same cc)
      | inr e ↦ (let h = rw e at at in absurd (omega (arith, h)))
    ]
place_has w (n ∷ names) more (suc i) at within =
    elim (cases_Bool (bytes_eq w n)) [
      | inl e ↦ (let h = rw e at at in absurd (omega (arith, h)))
      | inr e ↦ (let h = rw e at at in place_has w names more i (omega (arith, h)) (omega arith))
    ]

position_has : (w : Name) (names more : List Name) (i : ℕ) → position (bytes_eq w) names ≡ Some i → slice_get (names ++ more) i ≡ Some w
position_has w names more i at =
    elim (cases_Bool (nat_lt (position_or_len (bytes_eq w) names) (length names))) [
      | inl e ↦ (let h = rw e at at in let same : position_or_len (bytes_eq w) names ≡ i = cc in
          let within : position_or_len (bytes_eq w) names < length names = grind (arith, nat_tests) in
          place_has w names more i same (omega (arith, same, within)))
      | inr e ↦ (let h = rw e at at in absurd cc)
    ]

named_at : (w : Name) (names more : List Name) (negative : Bool) (o : Option ℕ) (l : Literal) → position (bytes_eq w) names ≡ o
    → literal_at negative o ≡ Ok l → by_name (names ++ more) l ≡ (negative, w)
named_at w names more negative None l at is = absurd cc
named_at w names more negative (Some i) l at is =
    let made : Literal = record { var = i + 1; negative = negative } in
    let e : made ≡ l = cc in
    let less : i + 1 - 1 ≡ i = omega arith in
    let here : by_name (names ++ more) made ≡ (negative, w) = rw (less, position_has w names more i at) refl in
    ap (by_name (names ++ more)) (sym e) ∙ here

pub literal_has : (w : Name) (names more : List Name) (negative : Bool) (l : Literal) → literal_named names negative w ≡ Ok l
    → by_name (names ++ more) l ≡ (negative, w)
literal_has w names more negative l is = named_at w names more negative (position (bytes_eq w) names) l refl is

and_both : (r : Result Literal QuestionFault) (rest : Result (List Literal) QuestionFault) (ls : List Literal) → and_literal r rest ≡ Ok ls
    → (l : Literal) × (ms : List Literal) × (r ≡ Ok l) × (rest ≡ Ok ms) × (ls ≡ l ∷ ms)
and_both (Err f) rest ls is = absurd cc
and_both (Ok l) (Err f) ls is = absurd cc
and_both (Ok l) (Ok ms) ls is = (l, ms, refl, refl, cc)

pub literals_have : (ms : List (Bool × Name)) (names more : List Name) (ls : List Literal) → all_named names ms ≡ Ok ls
    → map (by_name (names ++ more)) ls ≡ ms
literals_have [] names more ls is = let none : [] ≡ ls = cc in ap (map (by_name (names ++ more))) (sym none)
literals_have (m ∷ ms) names more ls is =
    let both = and_both (literal_named names m.0 m.1) (all_named names ms) ls is in
    let one : by_name (names ++ more) both.0 ≡ m = literal_has m.1 names more m.0 both.0 both.2 in
    let rest = literals_have ms names more both.1 both.3 in
    ap (map (by_name (names ++ more))) both.4
    ∙ (ap (λ (k : Bool × Name). k ∷ map (by_name (names ++ more)) both.1) one ∙ ap (λ (ks : List (Bool × Name)). m ∷ ks) rest)

-- ---- the literal of a name

-- the name at a place is found there, if no name is given twice
place_is : (names : List Name) (i : ℕ) (w : Name) → IsDistinct bytes_eq names → slice_get names i ≡ Some w
    → position_or_len (bytes_eq w) names ≡ i
place_is [] i w distinct at = absurd (cc at)
place_is (n ∷ names) zero w distinct at =
    let same : n ≡ w = cc at in
    let e : bytes_eq w n ≡ true = (bytes_eq-Decides w n).1 (sym same) in rw e refl
place_is (n ∷ names) (suc i) w distinct at =
    let apart = all_at (λ m. bytes_eq n m ≡ false) names i w (IsDistinct-head bytes_eq n names distinct) at in
    let e : bytes_eq w n ≡ false = nat_list_eq_equiv.symm w n ∙ apart in
    let rest = place_is names i w (IsDistinct-tail bytes_eq n names distinct) at in
    rw e (omega (arith, rest))

some_name : (names : List Name) (i : ℕ) → i < length names → slice_get names i ≡ Some (unwrap_or (slice_get names i) [])
some_name [] i within = absurd (omega arith)
some_name (n ∷ names) zero within = refl
some_name (n ∷ names) (suc i) within = some_name names i (omega arith)

position_is : (names : List Name) (i : ℕ) (w : Name) → IsDistinct bytes_eq names → i < length names → slice_get names i ≡ Some w
    → position (bytes_eq w) names ≡ Some i
position_is names i w distinct within at =
    let place = place_is names i w distinct at in
    let e : nat_lt i (length names) ≡ true = grind (arith, nat_tests) in rw (place, e) refl

pub literal_back : (names more : List Name) (l : Literal) → IsDistinct bytes_eq names → IsUpTo (length names) l.var
    → literal_named names l.negative (name_of (names ++ more) l.var) ≡ Ok l
literal_back names more l distinct range =
    let i = l.var - 1 in
    let within : i < length names = omega (arith, range.0, range.1) in
    let number : l.var - 1 + 1 ≡ l.var = omega (arith, range.0) in
    ap (literal_named names l.negative) (stays names more l.var range)
    ∙ (ap (literal_at l.negative) (position_is names i (name_of names l.var) distinct within (some_name names i within))
    ∙ ap (λ (v : ℕ). Ok (record { var = v; negative = l.negative })) number)

-- a name that comes later is not there yet
pub new_name : (names more : List Name) (w : Name) → IsDistinct bytes_eq (names ++ w ∷ more) → list_any (bytes_eq w) names ≡ false
new_name [] more w distinct = refl
new_name (n ∷ names) more w distinct =
    let apart = middle (λ m. bytes_eq n m ≡ false) names more w (IsDistinct-head bytes_eq n (names ++ w ∷ more) distinct) in
    let e : bytes_eq w n ≡ false = nat_list_eq_equiv.symm w n ∙ apart in
    rw e (new_name names more w (IsDistinct-tail bytes_eq n (names ++ w ∷ more) distinct))

-- the names in front are distinct
pub front_names : (names more : List Name) → IsDistinct bytes_eq (names ++ more) → IsDistinct bytes_eq names
unfolding IsDistinct
front_names [] more distinct = tt
front_names (n ∷ names) more distinct =
    (front_all (λ m. bytes_eq n m ≡ false) names more distinct.0, front_names names more distinct.1)
