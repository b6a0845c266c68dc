-- The tokens that are left if the bytes ahead may be unknown.
use Rattle.qbf_tokens.proofs.Cited.{rules, ◌≡◌, ℕ, Bool, true, false, List, [], ◌∷◌, Option, Some, arith, ⊤, nat_tests, is_line_end}
use Rattle.qbf_tokens.proofs.Cited.{is_comment_byte}
use Rattle.qbf_text.proofs.Cited.{IfSome, drop, Consumes, Consumes-nil, Comments, ahead, first_of}
use Rattle.qbf_tokens.proofs.ByteByByte.{IsToken}
use Rattle.qbf_text.proofs.BytesAhead.{taken_more}

pub always : (t : Option (List ℕ)) → IfSome t (λ _. ⊤)
always t = search rules

-- ---- in the words of the loop

-- the byte that was peeked is taken
pub took_at : (t : Option (List ℕ)) (pending after : List ℕ) (rem : Option (List ℕ)) (b : ℕ) → after ≡ drop 1 pending
    → Consumes t (ahead pending rem) [] → Some b ≡ first_of pending → Consumes t (ahead after rem) (b ∷ [])
took_at t pending after rem b e p h = rw e (taken_more t t pending rem [] b (Consumes-nil t) p h)

pub no_line_end_at : (b : ℕ) → (b ≡ 10 → ⊥) → is_line_end b ≡ false
no_line_end_at b h = grind (arith, nat_tests)

pub token_after : (f : Comments) (begun : Bool) (b : ℕ) (more : List ℕ) → begun ≡ true → IsToken f begun (b ∷ more)
token_after f begun b more e = search rules

pub token_open : (f : Comments) (begun : Bool) (b : ℕ) (more : List ℕ) → is_comment_byte f b ≡ false → IsToken f begun (b ∷ more)
token_open f begun b more e = search rules
