-- Values with their signs, lane by lane.
use Rattle.std.proofs.lemmas.Grind.{common_steps}
use Rattle.std.proofs.Common.{ℕ, zero, suc, ◌≡◌, ◌+◌, ◌-◌, ◌%◌, ◌^◌, ◌<◌, cond, ltb, List, [], ◌∷◌, map, length, replicate, arith, refl}
use Rattle.std.proofs.Common.{ap, ap₂, ◌∙◌, w32}
use Rattle.std.specs.Int.{cast_signed}
use Rattle.std.specs.Simd.Lanes.{zip2, Each1, sel_l, top}
use Rattle.std.proofs.lemmas.Simd.{tops_compared}
use Rattle.std.proofs.lemmas.Int.{to_z_pos}
use Rattle.window_numbers.specs.Lanes.{with_sign}

abbrev negated : ℕ → ℕ → ℕ
negated a b = (a + (4294967296 - b)) % 4294967296

signed_lane : (v s : ℕ) → v < 2 ^ 31 → cast_signed w32 (cond (ltb 2147483647 s) (negated 0 v) v) ≡ with_sign v s
signed_lane v s small = grind (arith, common_steps, to_z_pos)

lane_by_lane : (n : ℕ) (vs ss : List ℕ) → length ss ≡ n → Each1 (λ v. v < 2 ^ 31) vs
    → map (cast_signed w32) (sel_l (zip2 ltb (replicate n 2147483647) ss) (zip2 negated (replicate n 0) (map (λ v. v) vs))
    (map (λ v. v) vs)) ≡ zip2 with_sign vs ss
lane_by_lane zero [] [] e h = refl
lane_by_lane zero (v ∷ vs) [] e h = refl
lane_by_lane zero vs (s ∷ ss) e h = absurd (omega arith)
lane_by_lane (suc n) vs [] e h = absurd (omega arith)
lane_by_lane (suc n) [] (s ∷ ss) e h = refl
lane_by_lane (suc n) (v ∷ vs) (s ∷ ss) e h = ap₂ (λ z zs. z ∷ zs) (signed_lane v s h.0) (lane_by_lane n vs ss (omega (arith, e)) h.1)

pub signed_lanes : (vs ss : List ℕ) → length ss ≡ 4 → Each1 (λ v. v < 2 ^ 31) vs
    → map (cast_signed w32)
    (sel_l (map (top 31) (zip2 (λ a b. cond (ltb a b) 4294967295 0) (replicate 4 2147483647) ss))
    (zip2 negated (replicate 4 0) (map (λ v. v) vs)) (map (λ v. v) vs))
    ≡ zip2 with_sign vs ss
signed_lanes vs ss e h =
    ap (λ ms. map (cast_signed w32) (sel_l ms (zip2 negated (replicate 4 0) (map (λ v. v) vs)) (map (λ v. v) vs)))
    (tops_compared w32 ltb (replicate 4 2147483647) ss)
    ∙ lane_by_lane 4 vs ss e h
