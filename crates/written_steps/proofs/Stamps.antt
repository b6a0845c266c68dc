-- Numbers with the stamp of a time.
use Rattle.qrp_rules.proofs.Cited.{common_steps, ◌≡◌, ◌<◌, ◌+◌, ◌⊎◌, ℕ, zero, suc, Bool, true, false, List, [], ◌∷◌, length, get_or}
use Rattle.qrp_rules.proofs.Cited.{arith, rules, cases_eq, eqb-true, set, length-set, Literal}
use Rattle.written_steps.proofs.Cited.{AreUpTo, code}
use Rattle.std.proofs.Common.{◌*◌, if◌then◌else◌}
use Rattle.std.proofs.lemmas.Bool.{eq-eqb}
use Rattle.std.proofs.Math.ListN.{replicate}
use Rattle.std.proofs.lemmas.List.{get_or-set_same, get_or-set_other}
use Rattle.qbf_core.proofs.Order.{same_lit}
use Rattle.written_steps.specs.Seen.{members_by_stamp}

-- the number is in the set
abbrev pub Holds : List Bool → ℕ → Type 0
Holds s n = get_or s n false ≡ true

pub stamp_of : (xs : List ℕ) (now n : ℕ) → Holds (members_by_stamp xs now) n → (n < length xs) × (get_or xs n 0 ≡ now)
stamp_of [] now n h = cc h
stamp_of (x ∷ xs) now zero h = (omega arith, eqb-true x now h)
stamp_of (x ∷ xs) now (suc n) h = let w = stamp_of xs now n h in ((let less : n < length xs = w.0 in omega arith), w.1)

pub of_stamp : (xs : List ℕ) (now n : ℕ) → n < length xs → get_or xs n 0 ≡ now → Holds (members_by_stamp xs now) n
of_stamp [] now n less e = absurd (omega arith)
of_stamp (x ∷ xs) now zero less e = eq-eqb x now e
of_stamp (x ∷ xs) now (suc n) less e = of_stamp xs now n (omega arith) e

-- no number has the stamp of a time to come
pub none_later : (xs : List ℕ) (last now n : ℕ) → AreUpTo xs last → last < now → Holds (members_by_stamp xs now) n → ⊥
none_later xs last now n upto later h = search (rules, stamp_of)

pub zeros_upto : (xs : List ℕ) (k : ℕ) → xs ≡ replicate k 0 → AreUpTo xs 0
zeros_upto xs k e n = grind (arith, common_steps)

-- one number more
pub stamp_more : (xs : List ℕ) (i now n : ℕ) → i < length xs → Holds (members_by_stamp (set xs i now) now) n → Holds (members_by_stamp xs now) n ⊎ (n ≡ i)
stamp_more xs i now n less h = search (rules, cases_eq, stamp_of, set, length-set, of_stamp, get_or-set_other)

pub more_stamp : (xs : List ℕ) (i now n : ℕ) → i < length xs → Holds (members_by_stamp xs now) n ⊎ (n ≡ i) → Holds (members_by_stamp (set xs i now) now) n
more_stamp xs i now n less h = search (rules, set, length-set, cases_eq, of_stamp, get_or-set_same, stamp_of, get_or-set_other)

code_by : (m n : ℕ) (a b : Bool) → 2 * m + (if a then 1 else 0) ≡ 2 * n + (if b then 1 else 0) → (m ≡ n) × (a ≡ b)
code_by m n a b e = search rules

pub code_one : (l m : Literal) → code l ≡ code m → l ≡ m
code_one l m e = let w = code_by l.var m.var l.negative m.negative e in same_lit l m w.0 w.1
