-- Numbers that are put in the place of others.
use Rattle.qbf_tokens.proofs.Cited.{◌≡◌, ℕ, ◌+◌, ◌-◌, ◌^◌, ◌<◌, ◌≤◌, List, [], ◌∷◌, ◌++◌, length, refl, sym, ap, ◌∙◌, arith}
use Rattle.window_numbers.proofs.Cited.{zero, suc, take, drop, get_or}
use Rattle.std.specs.Prelude.{ℤ, pos, negsuc, unsigned_abs, set}
use Rattle.std.specs.Simd.Lanes.{put_chunk}
use Rattle.std.proofs.Common.{SFits, w32, to_z, of_z, map, length-drop}
use Rattle.std.proofs.lemmas.Int.{to_z-of_z}
use Rattle.std.proofs.lemmas.List.{get_or-set_same, get_or-set_other, length-set, get_or-append_right, get_or-take, length-take}
use Rattle.std.proofs.lemmas.Simd.{get_or-put_chunk_at, length-put_chunk}
use Rattle.std.proofs.Math.ListN.{get_or-append}
use borrow.Rule.Slice.PartMut.{put_mid, mid_of, post_of, same_len_mid}
use Rattle.window_numbers.specs.Numbers.{IsPut, AreShort}
use Rattle.window_numbers.specs.Values.{parted, value_of}
use Rattle.window_numbers.proofs.PartedNumbers.{length_parted, parted_at, short_is}

fits : (v : ℤ) → unsigned_abs v < 2 ^ 31 → SFits w32 v
fits (pos d) small = record { sfits = small }
fits (negsuc d) small = record { sfits = omega (arith, small) }

-- lanes of 32 bits give the values that were put in them
pub lanes_are : (values : List ℤ) → AreShort values → map (to_z w32) (map (of_z w32) values) ≡ values
lanes_are [] short = refl
lanes_are (v ∷ vs) short =
    ap (λ x. x ∷ map (to_z w32) (map (of_z w32) vs)) (to_z-of_z w32 v (fits v short.0)) ∙ ap (λ l. v ∷ l) (lanes_are vs short.1)

-- one number
pub put_one : (xs : List ℤ) (k : ℕ) (v : ℤ) → k < length xs → IsPut xs (set xs k v) (v ∷ []) k
put_one xs k v within = record {
  same_len = length-set xs k v;
  before = λ j less. get_or-set_other xs k j v (pos 0) (λ e. omega (arith, e, less));
  there = here;
}
  where
    here : (i : ℕ) → i < 1 → get_or (set xs k v) (k + i) (pos 0) ≡ get_or (v ∷ []) i (pos 0)
    here zero few = let same : k + 0 ≡ k = omega arith in rw same (get_or-set_same xs k v (pos 0) within)
    here (suc i) few = absurd (omega (arith, few))

pub put_alone : (xs : List ℤ) (k : ℕ) (v : ℤ) → SFits w32 v → k < length xs → IsPut xs (set xs k (to_z w32 (of_z w32 v))) (v ∷ []) k
put_alone xs k v short within = rw (to_z-of_z w32 v short) (put_one xs k v within)

-- numbers in the place of the first of a part
module _ (xs values : List ℤ) (k rest : ℕ) (room : k + rest ≡ length xs) (few : length values ≤ rest) where
  abbrev part : List ℤ
  part = put_chunk 0 (mid_of k rest xs) values

  part_len : length part ≡ rest
  part_len = length-put_chunk 0 (mid_of k rest xs) values ∙ omega (arith, room, length-take rest (drop k xs), length-drop k xs)

  front_len : length (take k xs) ≡ k
  front_len = omega (arith, room, length-take k xs)

  all_len : length (put_mid k rest xs part) ≡ length xs
  all_len = same_len_mid k rest xs part (length-put_chunk 0 (mid_of k rest xs) values)

  there : (i : ℕ) → i < length values → get_or (put_mid k rest xs part) (k + i) (pos 0) ≡ get_or values i (pos 0)
  there i less =
      let same : k + i - k ≡ i = omega arith in
      let inside : i < length part = omega (arith, part_len, less, few) in
      let mid_long : 0 + length values ≤ length (mid_of k rest xs) =
      omega (arith, room, few, length-take rest (drop k xs), length-drop k xs) in
      get_or-append_right (take k xs) (part ++ post_of k rest xs) k (k + i) (pos 0) front_len (omega arith)
      ∙ ap (λ j. get_or (part ++ post_of k rest xs) j (pos 0)) same
      ∙ get_or-append part (post_of k rest xs) (pos 0) i inside
      ∙ ap (λ j. get_or part j (pos 0)) (let none : i ≡ 0 + i = omega arith in none)
      ∙ get_or-put_chunk_at 0 (mid_of k rest xs) values i (pos 0) less mid_long

  put_part : IsPut xs (put_mid k rest xs (put_chunk 0 (mid_of k rest xs) values)) values k
  put_part = record {
    same_len = all_len;
    before = λ j less.
        get_or-append (take k xs) (part ++ post_of k rest xs) (pos 0) j (omega (arith, front_len, less)) ∙ get_or-take k xs j (pos 0) less;
    there = there;
  }

pub put_lanes : (xs values : List ℤ) (k rest : ℕ) → k + rest ≡ length xs → length values ≤ rest → AreShort values
    → IsPut xs (put_mid k rest xs (put_chunk 0 (mid_of k rest xs) (map (to_z w32) (map (of_z w32) values)))) values k
put_lanes xs values k rest room few short = rw (lanes_are values short) (put_part xs values k rest room few)

-- ---- numbers in two parts

each_short : (vs : List ℤ) (i : ℕ) → AreShort vs → i < length vs → unsigned_abs (get_or vs i (pos 0)) < 2 ^ 31
each_short [] i h less = absurd (omega (arith, less))
each_short (v ∷ vs) zero h less = h.0
each_short (v ∷ vs) (suc i) h less = each_short vs i h.1 (omega (arith, less))

-- short numbers are put, and the long ones stay
pub lift : (xs ys : List ℤ) (ls : List ℕ) (values : List ℤ) (k : ℕ) → AreShort values → IsPut xs ys values k
    → IsPut (parted xs ls) (parted ys ls) values k
lift xs ys ls values k short p = record {
  same_len = length_parted ys ls ∙ p.same_len ∙ sym (length_parted xs ls);
  before = λ j less.
      parted_at ys ls j ∙ ap (λ s. value_of s (get_or ls j 0)) (p.before j less) ∙ sym (parted_at xs ls j);
  there = λ i less.
      parted_at ys ls (k + i) ∙ ap (λ s. value_of s (get_or ls (k + i) 0)) (p.there i less)
      ∙ short_is (get_or values i (pos 0)) (get_or ls (k + i) 0) (each_short values i short less);
}

-- a number in two parts is put
pub put_both : (xs : List ℤ) (ls : List ℕ) (k : ℕ) (s : ℤ) (l : ℕ) → SFits w32 s → k < length xs → k < length ls
    → IsPut (parted xs ls) (parted (set xs k (to_z w32 (of_z w32 s))) (set ls k l)) (value_of s l ∷ []) k
put_both xs ls k s l fits in_xs in_ls = rw (to_z-of_z w32 s fits) (record {
  same_len = length_parted (set xs k s) (set ls k l) ∙ length-set xs k s ∙ sym (length_parted xs ls);
  before = λ j less.
      let other : j ≡ k → ⊥ = λ e. omega (arith, e, less) in
      parted_at (set xs k s) (set ls k l) j
      ∙ ap (λ x. value_of x (get_or (set ls k l) j 0)) (get_or-set_other xs k j s (pos 0) other)
      ∙ ap (λ x. value_of (get_or xs j (pos 0)) x) (get_or-set_other ls k j l 0 other)
      ∙ sym (parted_at xs ls j);
  there = here;
})
  where
    here : (i : ℕ) → i < 1 → get_or (parted (set xs k s) (set ls k l)) (k + i) (pos 0) ≡ get_or (value_of s l ∷ []) i (pos 0)
    here zero few =
        let same : k + 0 ≡ k = omega arith in
        rw same (parted_at (set xs k s) (set ls k l) k
        ∙ ap (λ x. value_of x (get_or (set ls k l) k 0)) (get_or-set_same xs k s (pos 0) in_xs)
        ∙ ap (value_of s) (get_or-set_same ls k l 0 in_ls))
    here (suc i) few = absurd (omega (arith, few))
