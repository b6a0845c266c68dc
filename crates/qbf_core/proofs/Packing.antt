-- Literals in bytes.
use Rattle.qbf_core.proofs.Cited.{arith, common_steps, refl, ap, subst, sym, ◌∙◌, ◌≡◌, ◌≤◌, ◌<◌, ◌-◌, List, [], ◌∷◌, ℕ, zero, suc, length, take, map, slice_get, Some}
use Rattle.qbf_core.proofs.Cited.{Literal, AllByRecursion}
use Rattle.lists.proofs.DistinctNumbers.{all_at}
use Rattle.std.specs.Int.{w8, w16, w32, cast_signed, cast_unsigned, from_le_bytes, to_le_bytes}
use Rattle.std.proofs.lemmas.Int.{to_z-of_z}
use Rattle.std.proofs.lemmas.Nat.{from_le_bytes-to_le_bytes_2, from_le_bytes-to_le_bytes_4}
use Rattle.std.proofs.Common.{Bool, true, false, FitsSigned, ◌^◌}
use Rattle.std.specs.Int.{Width}
use Rattle.std.specs.Prelude.{Result, Ok, Err, OnErr, OnOk, ◌++◌, get_or}
use Rattle.std.proofs.lemmas.List.{length-map}
use Rattle.lists.specs.Lists.{Growing}
use mir.ValLaws as laws
use Rattle.qbf_core.specs.Literal.{signed}
use Rattle.qbf_core.specs.WrittenLiterals.{literal_of}
use Rattle.qbf_core.specs.Packed.{fours, is_place, kept_in, literal_in, ones, packed, twos, unpacked, AreLiterals, IsKept, Packs}

-- what exceeds no number exceeds no greater one
pub wider : (xs : List Literal) (m n : ℕ) → m ≤ n → AllByRecursion (λ l. l.var ≤ m) xs → AllByRecursion (λ l. l.var ≤ n) xs
wider [] m n le all = tt
wider (x ∷ xs) m n le all = (omega (arith, le, all.0), wider xs m n le all.1)

-- fewer bytes than a literal takes are none
pub no_two : (bytes : List ℕ) → length bytes < 2 → twos bytes ≡ []
no_two [] less = refl
no_two (a ∷ []) less = refl
no_two (a ∷ b ∷ bytes) less = absurd (omega (arith, less))

pub no_four : (bytes : List ℕ) → length bytes < 4 → fours bytes ≡ []
no_four [] less = refl
no_four (a ∷ []) less = refl
no_four (a ∷ b ∷ []) less = refl
no_four (a ∷ b ∷ c ∷ []) less = refl
no_four (a ∷ b ∷ c ∷ d ∷ bytes) less = absurd (omega (arith, less))

-- ---- the literals of packed ones

-- the literal that a literal's number writes
back : (v : ℕ) (b : Bool) → 1 ≤ v → literal_of (signed (record { var = v; negative = b })) ≡ record { var = v; negative = b }
back zero b some = absurd (omega (arith, some))
back (suc v) true some = grind (arith, common_steps)
back (suc v) false some = grind (arith, common_steps)

read_back : (w : Width) (l : Literal) (n : ℕ) → FitsSigned w (signed l) → 1 ≤ l.var → n ≡ cast_unsigned w (signed l)
    → literal_of (cast_signed w n) ≡ l
read_back w l n fits some is =
    ap (λ m. literal_of (cast_signed w m)) is ∙ ap literal_of (to_z-of_z w (signed l) fits) ∙ back l.var l.negative some

fits_one : (v : ℕ) (b : Bool) → v ≤ 127 → FitsSigned w8 (signed (record { var = v; negative = b }))
fits_one zero true less = omega arith
fits_one (suc v) true less = omega (arith, less)
fits_one v false less = omega (arith, less)

fits_two : (v : ℕ) (b : Bool) → v ≤ 32767 → FitsSigned w16 (signed (record { var = v; negative = b }))
fits_two zero true less = omega arith
fits_two (suc v) true less = omega (arith, less)
fits_two v false less = omega (arith, less)

fits_four : (v : ℕ) (b : Bool) → v ≤ 2147483647 → FitsSigned w32 (signed (record { var = v; negative = b }))
fits_four zero true less = omega arith
fits_four (suc v) true less = omega (arith, less)
fits_four v false less = omega (arith, less)

one_back : (l : Literal) → l.var ≤ 127 → 1 ≤ l.var → literal_in w8 (to_le_bytes w8 (cast_unsigned w8 (signed l))) ≡ l
one_back l small some =
    let fits = fits_one l.var l.negative small in
    let less = (laws.of_z_fits w8 (signed l) fits).fits in
    let n : ℕ = cast_unsigned w8 (signed l) in
    let whole : from_le_bytes w8 (to_le_bytes w8 n) ≡ n = omega (arith, less) in
    read_back w8 l (from_le_bytes w8 (to_le_bytes w8 n)) fits some whole

two_back : (l : Literal) → l.var ≤ 32767 → 1 ≤ l.var → literal_in w16 (to_le_bytes w16 (cast_unsigned w16 (signed l))) ≡ l
two_back l small some =
    let fits = fits_two l.var l.negative small in
    read_back w16 l (from_le_bytes w16 (to_le_bytes w16 (cast_unsigned w16 (signed l)))) fits some (from_le_bytes-to_le_bytes_2 (cast_unsigned w16 (signed l)) (laws.of_z_fits w16 (signed l) fits).fits)

four_back : (l : Literal) → l.var ≤ 2147483647 → 1 ≤ l.var → literal_in w32 (to_le_bytes w32 (cast_unsigned w32 (signed l))) ≡ l
four_back l small some =
    let fits = fits_four l.var l.negative small in
    read_back w32 l (from_le_bytes w32 (to_le_bytes w32 (cast_unsigned w32 (signed l)))) fits some (from_le_bytes-to_le_bytes_4 (cast_unsigned w32 (signed l)) (laws.of_z_fits w32 (signed l) fits).fits)

pub ones_packed : (lits : List Literal) → AllByRecursion (λ l. l.var ≤ 127) lits → AreLiterals lits → ones (packed w8 lits) ≡ lits
ones_packed [] small are = refl
ones_packed (l ∷ lits) small are = λ i. one_back l small.0 are.0.0 i ∷ ones_packed lits small.1 are.1 i

pub twos_packed : (lits : List Literal) → AllByRecursion (λ l. l.var ≤ 32767) lits → AreLiterals lits → twos (packed w16 lits) ≡ lits
twos_packed [] small are = refl
twos_packed (l ∷ lits) small are = λ i. two_back l small.0 are.0.0 i ∷ twos_packed lits small.1 are.1 i

pub fours_packed : (lits : List Literal) → AreLiterals lits → fours (packed w32 lits) ≡ lits
fours_packed [] are = refl
fours_packed (l ∷ lits) are = λ i. four_back l are.0.1 are.0.0 i ∷ fours_packed lits are.1 i

-- the literals that are put after the byte of their width
after : (lits : List Literal) (width : ℕ) (rest : List ℕ) (old new : Growing ℕ) → old.unfinished ≡ suc width ∷ []
    → new ≡ record old { unfinished = old.unfinished ++ rest } → unpacked (suc width ∷ rest) ≡ lits → Packs lits new.unfinished
after lits width rest old new is put same = (
  ap (λ (g : Growing ℕ). is_place g.unfinished) put ∙ ap (λ (bytes : List ℕ). is_place (bytes ++ rest)) is,
  ap (λ (g : Growing ℕ). unpacked g.unfinished) put ∙ ap (λ (bytes : List ℕ). unpacked (bytes ++ rest)) is ∙ same,
)

module _ {T E : Type 0} (lits : List Literal) (are : AreLiterals lits) where
  pub ones_put : (r : Result T E) (old new : Growing ℕ) → old.unfinished ≡ 1 ∷ [] → AllByRecursion (λ l. l.var ≤ 127) lits
      → OnOk r (new ≡ record old { unfinished = old.unfinished ++ packed w8 lits }) → OnOk r (Packs lits new.unfinished)
  ones_put (Ok u) old new is small put = after lits 0 (packed w8 lits) old new is put (ones_packed lits small are)
  ones_put (Err e) old new is small put = tt

  pub twos_put : (r : Result T E) (old new : Growing ℕ) → old.unfinished ≡ 2 ∷ [] → AllByRecursion (λ l. l.var ≤ 32767) lits
      → OnOk r (new ≡ record old { unfinished = old.unfinished ++ packed w16 lits }) → OnOk r (Packs lits new.unfinished)
  twos_put (Ok u) old new is small put = after lits 1 (packed w16 lits) old new is put (twos_packed lits small are)
  twos_put (Err e) old new is small put = tt

  pub fours_put : (r : Result T E) (old new : Growing ℕ) → old.unfinished ≡ 4 ∷ []
      → OnOk r (new ≡ record old { unfinished = old.unfinished ++ packed w32 lits }) → OnOk r (Packs lits new.unfinished)
  fours_put (Ok u) old new is put = after lits 3 (packed w32 lits) old new is put (fours_packed lits are)
  fours_put (Err e) old new is put = tt

-- ---- lists of lists

-- bytes that are not a place
pub packed_at : (long : List (List Literal)) (bytes : List ℕ) → is_place bytes ≡ false → kept_in long bytes ≡ unpacked bytes
packed_at long [] none = refl
packed_at long (zero ∷ bytes) none = absurd (cc none)
packed_at long (suc n ∷ bytes) none = refl

pub literals_at : (count : ℕ) (bytes : List ℕ) → is_place bytes ≡ false → IsKept count bytes → AreLiterals (unpacked bytes)
literals_at count [] none kept = kept
literals_at count (zero ∷ bytes) none kept = absurd (cc none)
literals_at count (suc n ∷ bytes) none kept = kept

-- the list at a place, which is kept
pub list_at : (long : List (List Literal)) (whole : List (List ℕ)) (i : ℕ) (bytes : List ℕ) → slice_get whole i ≡ Some bytes
    → slice_get (map (kept_in long) whole) i ≡ Some (kept_in long bytes)
list_at long [] i bytes is = absurd (cc is)
list_at long (x ∷ whole) zero bytes is = let same : x ≡ bytes = cc is in ap (λ (ys : List ℕ). Some (kept_in long ys)) same
list_at long (x ∷ whole) (suc i) bytes is = list_at long whole i bytes is

pub kept_at : (count : ℕ) (whole : List (List ℕ)) (i : ℕ) (bytes : List ℕ) → AllByRecursion (IsKept count) whole
    → slice_get whole i ≡ Some bytes → IsKept count bytes
kept_at count whole i bytes all is = all_at (IsKept count) whole i bytes all is

-- one list more
kept_packed : (count : ℕ) (bytes : List ℕ) → is_place bytes ≡ false → AreLiterals (unpacked bytes) → IsKept count bytes
kept_packed count [] none are = are
kept_packed count (zero ∷ bytes) none are = absurd (cc none)
kept_packed count (suc n ∷ bytes) none are = are

pub all_kept : (count : ℕ) (whole : List (List ℕ)) (bytes : List ℕ) (lits : List Literal) → AllByRecursion (IsKept count) whole
    → Packs lits bytes → AreLiterals lits → AllByRecursion (IsKept count) (whole ++ bytes ∷ [])
all_kept count [] bytes lits all packs are = (kept_packed count bytes packs.0 (subst AreLiterals (sym packs.1) are), tt)
all_kept count (x ∷ whole) bytes lits all packs are = (all.0, all_kept count whole bytes lits all.1 packs are)

pub one_more : (long : List (List Literal)) (whole : List (List ℕ)) (bytes : List ℕ) (lits : List Literal) → kept_in long bytes ≡ lits
    → map (kept_in long) (whole ++ bytes ∷ []) ≡ map (kept_in long) whole ++ lits ∷ []
one_more long [] bytes lits is = ap (λ (ls : List Literal). ls ∷ []) is
one_more long (x ∷ whole) bytes lits is = ap (λ (ls : List (List Literal)). kept_in long x ∷ ls) (one_more long whole bytes lits is)

pub packed_more : (long : List (List Literal)) (whole : List (List ℕ)) (bytes : List ℕ) (lits : List Literal) → Packs lits bytes
    → map (kept_in long) (whole ++ bytes ∷ []) ≡ map (kept_in long) whole ++ lits ∷ []
packed_more long whole bytes lits packs = one_more long whole bytes lits (packed_at long bytes packs.0 ∙ packs.1)

-- one long list more
get_before : (xs : List (List Literal)) (x : List Literal) (i : ℕ) → i < length xs → get_or (xs ++ x ∷ []) i [] ≡ get_or xs i []
get_before [] x i less = absurd (omega (arith, less))
get_before (y ∷ xs) x zero less = refl
get_before (y ∷ xs) x (suc i) less = get_before xs x i (omega (arith, less))

get_last : (xs : List (List Literal)) (x : List Literal) → get_or (xs ++ x ∷ []) (length xs) [] ≡ x
get_last [] x = refl
get_last (y ∷ xs) x = get_last xs x

same_kept : (long : List (List Literal)) (lits : List Literal) (bytes : List ℕ) → IsKept (length long) bytes
    → kept_in (long ++ lits ∷ []) bytes ≡ kept_in long bytes
same_kept long lits [] kept = refl
same_kept long lits (suc n ∷ bytes) kept = refl
same_kept long lits (zero ∷ []) kept = refl
same_kept long lits (zero ∷ a ∷ []) kept = refl
same_kept long lits (zero ∷ a ∷ b ∷ []) kept = refl
same_kept long lits (zero ∷ a ∷ b ∷ c ∷ []) kept = refl
same_kept long lits (zero ∷ a ∷ b ∷ c ∷ d ∷ []) kept = get_before long lits (from_le_bytes w32 (a ∷ b ∷ c ∷ d ∷ [])) kept
same_kept long lits (zero ∷ a ∷ b ∷ c ∷ d ∷ e ∷ bytes) kept = refl

pub same_lists : (long : List (List Literal)) (lits : List Literal) (whole : List (List ℕ)) → AllByRecursion (IsKept (length long)) whole
    → map (kept_in (long ++ lits ∷ [])) whole ≡ map (kept_in long) whole
same_lists long lits [] all = refl
same_lists long lits (bytes ∷ whole) all = λ i. same_kept long lits bytes all.0 i ∷ same_lists long lits whole all.1 i

more_kept : (m n : ℕ) (bytes : List ℕ) → m ≤ n → IsKept m bytes → IsKept n bytes
more_kept m n [] le kept = kept
more_kept m n (suc k ∷ bytes) le kept = kept
more_kept m n (zero ∷ []) le kept = tt
more_kept m n (zero ∷ a ∷ []) le kept = tt
more_kept m n (zero ∷ a ∷ b ∷ []) le kept = tt
more_kept m n (zero ∷ a ∷ b ∷ c ∷ []) le kept = tt
more_kept m n (zero ∷ a ∷ b ∷ c ∷ d ∷ []) le kept = omega (arith, le, kept)
more_kept m n (zero ∷ a ∷ b ∷ c ∷ d ∷ e ∷ bytes) le kept = tt

pub all_more : (m n : ℕ) (whole : List (List ℕ)) → m ≤ n → AllByRecursion (IsKept m) whole → AllByRecursion (IsKept n) whole
all_more m n [] le all = tt
all_more m n (bytes ∷ whole) le all = (more_kept m n bytes le all.0, all_more m n whole le all.1)

pub long_kept : (long : List (List Literal)) (lits : List Literal) (n : ℕ) → n ≡ length long → n < 2 ^ 32
    → kept_in (long ++ lits ∷ []) (0 ∷ to_le_bytes w32 n) ≡ lits
long_kept long lits n is less =
    ap (λ m. get_or (long ++ lits ∷ []) m []) (from_le_bytes-to_le_bytes_4 n less ∙ is) ∙ get_last long lits

pub place_kept : (n count : ℕ) → n < count → n < 2 ^ 32 → IsKept count (0 ∷ to_le_bytes w32 n)
place_kept n count within less = let same = from_le_bytes-to_le_bytes_4 n less in omega (arith, within, same)

pub long_more : (long : List (List Literal)) (whole : List (List ℕ)) (lits : List Literal) (n : ℕ) → n ≡ length long → n < 2 ^ 32
    → AllByRecursion (IsKept (length long)) whole
    → map (kept_in (long ++ lits ∷ [])) (whole ++ (0 ∷ to_le_bytes w32 n) ∷ []) ≡ map (kept_in long) whole ++ lits ∷ []
long_more long whole lits n is less all =
    one_more (long ++ lits ∷ []) whole (0 ∷ to_le_bytes w32 n) lits (long_kept long lits n is less)
    ∙ ap (λ (ls : List (List Literal)). ls ++ lits ∷ []) (same_lists long lits whole all)

-- what is kept after a long list was put, and the bytes of its place or nothing
pub long_added : {T E : Type 0} (r : Result T E) (long new : List (List Literal)) (whole kept : List (List ℕ)) (lits : List Literal) (n : ℕ)
    (view : List (List Literal)) → new ≡ long ++ lits ∷ [] → n ≡ length long → n < 2 ^ 32 → AllByRecursion (IsKept (length long)) whole
    → map (kept_in long) whole ≡ view → OnOk r (kept ≡ whole ++ (0 ∷ to_le_bytes w32 n) ∷ []) → OnOk r (map (kept_in new) kept ≡ view ++ lits ∷ [])
long_added (Ok u) long new whole kept lits n view put is less all same added =
    ap (λ (ls : List (List Literal)). map (kept_in ls) kept) put ∙ ap (map (kept_in (long ++ lits ∷ []))) added
    ∙ long_more long whole lits n is less all ∙ ap (λ (ls : List (List Literal)). ls ++ lits ∷ []) same
long_added (Err e) long new whole kept lits n view put is less all same added = tt

pub long_refused : {T E : Type 0} (r : Result T E) (long new : List (List Literal)) (whole kept : List (List ℕ)) (lits : List Literal)
    (view : List (List Literal)) → new ≡ long ++ lits ∷ [] → AllByRecursion (IsKept (length long)) whole → map (kept_in long) whole ≡ view
    → OnErr r (kept ≡ whole) → OnErr r (map (kept_in new) kept ≡ view)
long_refused (Ok u) long new whole kept lits view put all same refused = tt
long_refused (Err e) long new whole kept lits view put all same refused =
    ap (λ (ls : List (List Literal)). map (kept_in ls) kept) put ∙ ap (map (kept_in (long ++ lits ∷ []))) refused
    ∙ same_lists long lits whole all ∙ same

-- the first lists
pub first_lists : (long : List (List Literal)) (whole : List (List ℕ)) (n : ℕ)
    → map (kept_in long) (take n whole) ≡ take n (map (kept_in long) whole)
first_lists long [] n = grind (arith, common_steps)
first_lists long (x ∷ whole) zero = refl
first_lists long (x ∷ whole) (suc n) = ap (λ (ls : List (List Literal)). kept_in long x ∷ ls) (first_lists long whole n)

pub all_first : {X : Type 0} (P : X → Type 0) (xs : List X) (n : ℕ) → AllByRecursion P xs → AllByRecursion P (take n xs)
all_first P [] n all = grind (arith, common_steps)
all_first P (x ∷ xs) zero all = tt
all_first P (x ∷ xs) (suc n) all = (all.0, all_first P xs n all.1)

pub last_taken : (long : List (List Literal)) (old new : Growing ℕ) (view : List (List Literal)) → map (kept_in long) old.whole ≡ view
    → new ≡ record { whole = take (length old.whole - 1) old.whole; unfinished = [] }
    → map (kept_in long) new.whole ≡ take (length view - 1) view
last_taken long old new view is taken =
    ap (λ (g : Growing ℕ). map (kept_in long) g.whole) taken ∙ first_lists long old.whole (length old.whole - 1)
    ∙ ap (λ n. take (n - 1) (map (kept_in long) old.whole)) (sym (length-map old.whole (kept_in long)))
    ∙ ap (λ (ls : List (List Literal)). take (length ls - 1) ls) is
