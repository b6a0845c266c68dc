-- Names as they are kept: keys, each of which stands for its bytes.
use Rattle.std.proofs.Common.{arith, ◌≡◌, ℕ, ◌<◌, ◌≤◌, true, false, cond, List, [], ◌∷◌, ◌++◌, map, Option, Some, None, nat_lt, length}
use Rattle.std.proofs.Common.{Ok, Err, refl, sym, ap, ◌∙◌}
use Rattle.std.specs.Prelude.{position, bytes_eq}
use Rattle.std.specs.List.{list_any, position_or_len}
use Rattle.std.proofs.lemmas.Bool.Decides.{nat_tests}
use Rattle.std.proofs.lemmas.List.{length-map, map-append}
use Rattle.qcir.specs.declared.fault.QuestionFault.TheVariants.{Q4, Q10}
use Rattle.qcir.specs.Names.{with_name}

module _ {B : Type 0} (bytes : B → List ℕ) where
  len_of : (q : List ℕ) (ks : List B) → position_or_len (λ k. bytes_eq q (bytes k)) ks ≡ position_or_len (bytes_eq q) (map bytes ks)
  len_of q [] = refl
  len_of q (k ∷ ks) = rw (len_of q ks) refl

  pub place_of : (q : List ℕ) (ks : List B) → position (λ k. bytes_eq q (bytes k)) ks ≡ position (bytes_eq q) (map bytes ks)
  place_of q ks =
      let F : ℕ → ℕ → Option ℕ = λ n m. cond (nat_lt n m) (Some n) None in
      ap (λ n. F n (length ks)) (len_of q ks) ∙ ap (λ m. F (position_or_len (bytes_eq q) (map bytes ks)) m) (sym (length-map ks bytes))

  pub any_of : (q : List ℕ) (ks : List B) → list_any (λ k. bytes_eq q (bytes k)) ks ≡ list_any (bytes_eq q) (map bytes ks)
  any_of q [] = refl
  any_of q (k ∷ ks) = rw (any_of q ks) refl

  -- a new name goes last
  pub given_new : (k : B) (ks new : List B) → length ks < 2147483647 → new ≡ ks ++ k ∷ []
      → list_any (λ l. bytes_eq (bytes k) (bytes l)) ks ≡ false → with_name (map bytes ks) (bytes k) ≡ Ok (map bytes new)
  given_new k ks new few is fresh =
      let e : nat_lt (length (map bytes ks)) 2147483647 ≡ true = grind (arith, nat_tests, length-map ks bytes) in
      let f : list_any (bytes_eq (bytes k)) (map bytes ks) ≡ false = sym (any_of (bytes k) ks) ∙ fresh in
      let n : map bytes new ≡ map bytes ks ++ bytes k ∷ [] = ap (map bytes) is ∙ map-append bytes ks (k ∷ []) in
      rw (e, f) (ap Ok (sym n))

  -- one that is given already is refused
  pub given_again : (k : B) (ks : List B) → length ks < 2147483647
      → list_any (λ l. bytes_eq (bytes k) (bytes l)) ks ≡ true → with_name (map bytes ks) (bytes k) ≡ Err Q4
  given_again k ks few there =
      let e : nat_lt (length (map bytes ks)) 2147483647 ≡ true = grind (arith, nat_tests, length-map ks bytes) in
      let f : list_any (bytes_eq (bytes k)) (map bytes ks) ≡ true = sym (any_of (bytes k) ks) ∙ there in
      rw (e, f) refl

  -- and so is one too many
  pub given_full : (w : List ℕ) (ks : List B) → 2147483647 ≤ length ks → with_name (map bytes ks) w ≡ Err Q10
  given_full w ks full =
      let e : nat_lt (length (map bytes ks)) 2147483647 ≡ false = grind (arith, nat_tests, length-map ks bytes) in rw e refl
