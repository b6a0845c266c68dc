-- Steps along the bytes ahead.
use Rattle.qbf_tokens.proofs.Cited.{arith, ◌≡◌, ℕ, false, List, [], ◌∷◌, ◌++◌, Option, Some, None, ap, sym, ◌∙◌, append_assoc, common_steps}
use Rattle.qbf_tokens.proofs.Cited.{AllByRecursion, IsUnbroken, IsWithinLine, is_line_end}
use Rattle.qbf_text.proofs.Cited.{take, drop, Consumes, ahead, first_of}
use Rattle.qbf_tokens.proofs.CanonicalTokens.{all_appended}
use Rattle.std.proofs.KnownBytes.{Consumes-trans}
use Rattle.std.proofs.lemmas.List.{take-append-drop}

pub all_push : (P : ℕ → Type 0) (xs : List ℕ) (x : ℕ) → AllByRecursion P xs → P x → AllByRecursion P (xs ++ x ∷ [])
all_push P xs x h p = grind (arith, common_steps)

-- the bytes that were taken so far, and one more
pub taken_more : (a b : Option (List ℕ)) (pending : List ℕ) (rem : Option (List ℕ)) (xs : List ℕ) (x : ℕ)
    → Consumes a b xs → Consumes b (ahead pending rem) [] → Some x ≡ first_of pending
    → Consumes a (ahead (drop 1 pending) rem) (xs ++ x ∷ [])
taken_more a b pending rem xs x p q h = grind (arith, common_steps)

-- ---- skipping to the end of a line

pub record IsSkipping (old new : Option (List ℕ)) : Type 0 where
  pub skipped : List ℕ
  pub within : IsWithinLine skipped
  pub taken : Consumes old new skipped

pub skip_more : (a b : Option (List ℕ)) (pending : List ℕ) (rem : Option (List ℕ)) (x : ℕ)
    → IsSkipping a b → Consumes b (ahead pending rem) [] → Some x ≡ first_of pending → is_line_end x ≡ false
    → IsSkipping a (ahead (drop 1 pending) rem)
skip_more a b pending rem x s q h e =
    record {
      skipped = s.skipped ++ x ∷ [];
      within = all_push _ s.skipped x s.within e;
      taken = taken_more a b pending rem s.skipped x s.taken q h;
    }

-- the first bytes of those ahead are taken
pub part : (pending : List ℕ) (rem : Option (List ℕ)) (n : ℕ) → Consumes (ahead pending rem) (ahead (drop n pending) rem) (take n pending)
part pending None n = tt
part pending (Some r) n = ap (λ l. l ++ r) (sym (take-append-drop n pending)) ∙ append_assoc (take n pending) (drop n pending) r

pub skip_part : (a : Option (List ℕ)) (pending : List ℕ) (rem : Option (List ℕ)) (n : ℕ) → IsSkipping a (ahead pending rem)
    → IsWithinLine (take n pending) → IsSkipping a (ahead (drop n pending) rem)
skip_part a pending rem n s h =
    record {
      skipped = s.skipped ++ take n pending;
      within = all_appended _ s.skipped (take n pending) s.within h;
      taken = Consumes-trans a (ahead pending rem) (ahead (drop n pending) rem) s.skipped (take n pending) s.taken (part pending rem n);
    }

-- ---- reading a run

-- the bytes that were taken after the first one; `Reads` says of bytes that they were read
pub record IsReading (old new : Option (List ℕ)) (Reads : List ℕ → Type 0) (first : ℕ) : Type 0 where
  pub more : List ℕ
  pub kept : Reads (first ∷ more)
  pub unbroken : IsUnbroken more
  pub taken : Consumes old new more
