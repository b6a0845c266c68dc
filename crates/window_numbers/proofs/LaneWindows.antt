-- Masks as windows of zeros and ones.
use Rattle.std.proofs.Common.{ℕ, zero, suc, ◌≡◌, ◌+◌, ◌≤◌, List, [], ◌∷◌, ◌++◌, length, arith, refl, ◌∙◌}
use Rattle.std.specs.Simd.Lanes.{chunk, pick_l}
use Rattle.std.specs.List.{range_with_len}
use Rattle.std.proofs.lemmas.List.{length-append}
use Rattle.std.proofs.lemmas.Simd.{pick_l_whole, length-chunk}
use Rattle.window_numbers.specs.Lanes.{mask_of}

abbrev masks : List ℕ
masks = 0 ∷ 0 ∷ 0 ∷ 0 ∷ 0 ∷ 0 ∷ 0 ∷ 0 ∷ 255 ∷ 255 ∷ 255 ∷ 255 ∷ 255 ∷ 255 ∷ 255 ∷ 255 ∷ []

pub mask_at : (n : ℕ) → n ≤ 8 → chunk n 8 masks ≡ mask_of n
mask_at zero h = refl
mask_at (suc zero) h = refl
mask_at (suc (suc zero)) h = refl
mask_at (suc (suc (suc zero))) h = refl
mask_at (suc (suc (suc (suc zero)))) h = refl
mask_at (suc (suc (suc (suc (suc zero))))) h = refl
mask_at (suc (suc (suc (suc (suc (suc zero)))))) h = refl
mask_at (suc (suc (suc (suc (suc (suc (suc zero))))))) h = refl
mask_at (suc (suc (suc (suc (suc (suc (suc (suc zero)))))))) h = refl
mask_at (suc (suc (suc (suc (suc (suc (suc (suc (suc n))))))))) h = absurd (omega arith)

-- the bytes of two words, picked one by one
pub all_bytes : (p q : ℕ) (bytes : List ℕ) → (p + 8 ≤ length bytes) × (q + 8 ≤ length bytes)
    → pick_l 0 (chunk p 8 bytes ++ chunk q 8 bytes) (range_with_len 0 16) ≡ chunk p 8 bytes ++ chunk q 8 bytes
all_bytes p q bytes room =
    pick_l_whole 0 (chunk p 8 bytes ++ chunk q 8 bytes) 16 (length-append (chunk p 8 bytes) (chunk q 8 bytes)
    ∙ omega (arith, length-chunk p 8 bytes room.0, length-chunk q 8 bytes room.1))
