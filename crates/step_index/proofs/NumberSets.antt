-- One more number in a set that has a bit for each.
use Rattle.std.proofs.Common.{rules, ◌≡◌, ℕ, ◌*◌, ◌/◌, ◌%◌, ◌^◌, ◌<◌, List, ◌⊎◌, inl, inr, refl, sym, ap, subst, ◌∙◌, length, get_or, set}
use Rattle.std.proofs.Common.{bit_or, arith, get_or-set_same, get_or-set_other}
use Rattle.std.specs.Prelude.{◌↔◌}
use Rattle.std.specs.Int.{w64, bit_at}
use Rattle.std.proofs.lemmas.Bool.{cases_eq}
use Rattle.std.proofs.lemmas.Grind.{get_or_default_zero}
use Rattle.std.proofs.lemmas.Nat.Bits.{bit_at_set_same, bit_at_set_other}
use Rattle.step_index.specs.NumberSets.{HasBit}

-- the words were made longer, and the bit of a number was set
module _ (words grown : List ℕ) (m : ℕ) (same : (n : ℕ) → get_or grown n 0 ≡ get_or words n 0) (reached : m / 64 < length grown) where
  abbrev pub word : ℕ
  word = bit_or (get_or grown (m / 64) 0) (1 * 2 ^ (m % 64) % 2 ^ 64)

  there : (n : ℕ) → n / 64 ≡ m / 64 → get_or (set grown (m / 64) word) (n / 64) 0 ≡ word
  there n e = ap (λ (k : ℕ). get_or (set grown (m / 64) word) k 0) e ∙ get_or-set_same grown (m / 64) word 0 reached

  found : (n : ℕ) → n ≡ m → HasBit (set grown (m / 64) word) n
  found n e = subst (HasBit (set grown (m / 64) word)) (sym e)
      (ap (λ (w : ℕ). bit_at w (m % 64)) (there m refl) ∙ bit_at_set_same w64 (get_or grown (m / 64) 0) (m % 64) (omega arith))

  kept : (n : ℕ) → (n ≡ m → ⊥) → bit_at (get_or (set grown (m / 64) word) (n / 64) 0) (n % 64) ≡ bit_at (get_or words (n / 64) 0) (n % 64)
  kept n apart = elim (cases_eq (n / 64) (m / 64)) [
    | inl e ↦
        ap (λ (w : ℕ). bit_at w (n % 64)) (there n e)
        ∙ bit_at_set_other w64 (get_or grown (m / 64) 0) (m % 64) (omega arith) (n % 64) (λ bit. apart (omega (arith, e, bit)))
        ∙ ap (λ (w : ℕ). bit_at w (n % 64)) (same (m / 64) ∙ ap (λ (k : ℕ). get_or words k 0) (sym e))
    | inr other ↦ ap (λ (w : ℕ). bit_at w (n % 64)) (get_or-set_other grown (m / 64) (n / 64) word 0 other ∙ same (n / 64))
  ]

  pub has_one_more : (n : ℕ) → HasBit (set grown (m / 64) word) n ↔ (HasBit words n ⊎ (n ≡ m))
  has_one_more n = search (rules, found, kept)

pub ruleset inserted = (get_or_default_zero, has_one_more)
