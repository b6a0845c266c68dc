-- The part of a buffer from start to end, and what it holds back of a sink's bytes.
use Rattle.std.proofs.Common.{◌≡◌, ℕ, ◌+◌, ◌-◌, ◌≤◌, List, ◌++◌, length, take, drop, sym, ap, ◌∙◌, arith, drop-drop, take-append-drop}
use Rattle.std.proofs.lemmas.Grind.{common_steps}
use Rattle.std.proofs.lemmas.List.{drop-take, drop-append-le}
use Rattle.std.proofs.lemmas.Slice.{take-put_mid}
use borrow.Rule.Slice.PartMut.{put_mid}

abbrev pub part : List ℕ → ℕ → ℕ → List ℕ
part bytes start end = take (end - start) (drop start bytes)

part_from : (xs : List ℕ) (n m k : ℕ) → k ≡ n + m → drop n (take k xs) ≡ take m (drop n xs)
part_from xs n m k e = rw e (drop-take n m xs)

-- some bytes on
pub part_advance : (bytes : List ℕ) (start end n : ℕ) → start ≤ end → n ≤ length (part bytes start end)
    → part bytes (start + n) end ≡ drop n (part bytes start end)
part_advance bytes start end n order h =
    let inside : start + n ≤ end = grind (arith, common_steps) in
    sym (part_from (drop start bytes) n (end - (start + n)) (end - start) (omega arith)
    ∙ ap (take (end - (start + n))) (drop-drop n start bytes ∙ ap (λ k. drop k bytes) (omega arith)))

-- more bytes after them
pub part_append : (bytes more : List ℕ) (start end room k : ℕ) → start ≤ end → end ≤ length bytes → length more ≡ k
    → part (put_mid end room bytes more) start (end + k) ≡ part bytes start end ++ more
part_append bytes more start end room k order inside long = grind (arith, common_steps, part_from, take-put_mid)

-- digits put from the end on, whatever stands after them
pub part_put : (old new ds rest : List ℕ) (start at : ℕ) → start ≤ at → at ≤ length old → take at new ≡ take at old
    → drop at new ≡ ds ++ rest
    → part new start (at + length ds) ≡ part old start at ++ ds
part_put old new ds rest start at order inside before written =
    let split : new ≡ take at old ++ (ds ++ rest) = sym (take-append-drop at new) ∙ (λ i. before i ++ written i) in
    let front : take (at + length ds) new ≡ take at old ++ ds = rw split (grind (arith, common_steps, inside)) in
    let short : start ≤ length (take at old) = grind (arith, common_steps) in
    sym (part_from new start (at + length ds - start) (at + length ds) (omega arith))
    ∙ ap (drop start) front
    ∙ drop-append-le start (take at old) ds short
    ∙ ap (λ xs. xs ++ ds) (part_from old start (at - start) at (omega arith))

-- nothing is held back
pub part_none : (bytes : List ℕ) (start end : ℕ) → start ≡ end → part bytes 0 0 ≡ part bytes start end
part_none bytes start end same = grind (arith, common_steps)
