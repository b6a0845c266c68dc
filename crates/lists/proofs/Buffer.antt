-- Lists in one buffer.
use Rattle.std.proofs.Common.{◌≡◌, ◌≤◌, ◌<◌, ◌+◌, ◌-◌, ℕ, zero, suc, List, [], ◌∷◌, ◌++◌, length, take, drop, slice_get, slice_range}
use Rattle.std.proofs.Common.{Option, Some, refl, sym, ap, ◌∙◌, arith}
use Rattle.std.proofs.lemmas.Grind.{common_steps}
use Rattle.std.proofs.lemmas.List.{drop_all, drop-append-le, drop-take, length-drop, length-take, length-take-le, take-append-drop}
use Rattle.std.specs.Option.{unwrap_or}
use Rattle.lists.specs.Lists.{count_items, parts, Reaches, start_of, end_of}

-- ---- ranges of a buffer that grows

-- ---- one more part

reach_le : (from : ℕ) (es : List ℕ) (n : ℕ) → Reaches from es n → from ≤ n
reach_le from [] n r = omega (arith, r)
reach_le from (e ∷ es) n r = let m = reach_le e es n r.1 in let x = r.0 in omega (arith, m, x)

reach_more : (from : ℕ) (es : List ℕ) (n m : ℕ) → n ≤ m → Reaches from es n → Reaches from (es ++ m ∷ []) m
reach_more from [] n m h r = (omega (arith, h, r), refl)
reach_more from (e ∷ es) n m h r = (r.0, reach_more e es n m h r.1)

pub grown_parts : {X : Type 0} (xs more : List X) (from : ℕ) (es : List ℕ) (n : ℕ) → Reaches from es n → n ≤ length xs
    → parts (xs ++ more) from es ≡ parts xs from es
grown_parts xs more from [] n r le = refl
grown_parts xs more from (e ∷ es) n r le = grind (arith, common_steps, reach_le, grown_parts xs more e es n r.1 le)

pub closed_parts : {X : Type 0} (xs : List X) (from : ℕ) (es : List ℕ) (n : ℕ) → Reaches from es n
    → parts xs from (es ++ length xs ∷ []) ≡ parts xs from es ++ drop n xs ∷ []
closed_parts xs from [] n r = grind (arith, common_steps)
closed_parts xs from (e ∷ es) n r = ap (λ (cs : List (List _)). slice_range xs from e ∷ cs) (closed_parts xs e es n r.1)

-- ---- the part at a place

pub same_count : {X : Type 0} (lits : List X) (from : ℕ) (es : List ℕ) → length (parts lits from es) ≡ length es
same_count lits from [] = refl
same_count lits from (e ∷ es) = ap suc (same_count lits e es)

pub start_found : (from : ℕ) (es : List ℕ) (i e : ℕ) → slice_get es i ≡ Some e → start_of from es (suc i) ≡ e
start_found from [] i e h = absurd (cc h)
start_found from (x ∷ es) zero e h = cc h
start_found from (x ∷ es) (suc i) e h = start_found x es i e h

pub start_after : (es : List ℕ) (i e : ℕ) → (i ≡ 0 → ⊥) → slice_get es (i - 1) ≡ Some e → e ≡ start_of 0 es i
start_after es i e some h = grind (arith, common_steps, start_found)

pub part_at : {X : Type 0} (lits : List X) (from : ℕ) (es : List ℕ) (i e : ℕ) → slice_get es i ≡ Some e
    → slice_get (parts lits from es) i ≡ Some (slice_range lits (start_of from es i) e)
part_at lits from [] i e h = absurd (cc h)
part_at lits from (x ∷ es) zero e h = let same : x ≡ e = cc h in ap (λ (y : ℕ). Some (slice_range lits from y)) same
part_at lits from (x ∷ es) (suc i) e h = part_at lits x es i e h

pub within_at : (from : ℕ) (es : List ℕ) (i n e : ℕ) → slice_get es i ≡ Some e → Reaches from es n → (start_of from es i ≤ e) × (e ≤ n)
within_at from [] i n e h r = absurd (cc h)
within_at from (x ∷ es) zero n e h r = grind (arith, common_steps, reach_le)
within_at from (x ∷ es) (suc i) n e h r = within_at x es i n e h r.1

-- a place among the parts is one among their ends
pub part_place : {X : Type 0} (xs : List X) (es : List ℕ) (whole : List (List X)) (i : ℕ) → parts xs 0 es ≡ whole
    → i < length whole → i < length es
part_place xs es whole i is less = omega (arith, ap length is, same_count xs 0 es)

-- ---- without the last parts

end_within : (from : ℕ) (es : List ℕ) (n k : ℕ) → Reaches from es n → (from ≤ end_of from (take k es)) × (end_of from (take k es) ≤ n)
end_within from [] n k r = grind (arith, common_steps)
end_within from (e ∷ es) n zero r = (omega arith, reach_le from (e ∷ es) n r)
end_within from (e ∷ es) n (suc k) r = omega (arith, end_within e es n k r.1)

reach_less : (from : ℕ) (es : List ℕ) (n k : ℕ) → Reaches from es n → Reaches from (take k es) (end_of from (take k es))
reach_less from [] n k r = grind (arith, common_steps)
reach_less from (e ∷ es) n zero r = refl
reach_less from (e ∷ es) n (suc k) r = (r.0, reach_less e es n k r.1)

pub fewer_parts : {X : Type 0} (xs : List X) (from : ℕ) (es : List ℕ) (k : ℕ) → parts xs from (take k es) ≡ take k (parts xs from es)
fewer_parts xs from [] k = grind (arith, common_steps)
fewer_parts xs from (e ∷ es) zero = refl
fewer_parts xs from (e ∷ es) (suc k) = ap (λ (ls : List (List _)). slice_range xs from e ∷ ls) (fewer_parts xs e es k)

pub kept_parts : {X : Type 0} (xs : List X) (m from : ℕ) (es : List ℕ) (n : ℕ) → Reaches from es n → n ≤ m → m ≤ length xs
    → parts (take m xs) from es ≡ parts xs from es
kept_parts xs m from es n r h le =
    sym (grown_parts (take m xs) (drop m xs) from es n r (omega (arith, h, length-take-le m xs le)))
    ∙ ap (λ (ys : List _). parts ys from es) (take-append-drop m xs)

-- the first ends reach to the last of them, which is in the buffer
pub fewer_reach : (es es' : List ℕ) (start m k end : ℕ) → es' ≡ take k es → end ≡ end_of 0 es' → Reaches 0 es start → start ≤ m
    → Reaches 0 es' end × (end ≤ m)
fewer_reach es es' start m k end e is r le = grind (arith, common_steps, end_within, reach_less)

last_of : (e : ℕ) (es : List ℕ) (d : ℕ) → unwrap_or (slice_get (e ∷ es) (length es)) d ≡ end_of e es
last_of e [] d = refl
last_of e (x ∷ es) d = last_of x es d

last_kept : (es : List ℕ) → unwrap_or (slice_get es (length es - 1)) 0 ≡ end_of 0 es
last_kept [] = refl
last_kept (e ∷ es) = let k : suc (length es) - 1 ≡ length es = omega arith in rw k (last_of e es 0)

pub last_is : (es : List ℕ) (n e : ℕ) → n ≡ length es → slice_get es (n - 1) ≡ Some e → e ≡ end_of 0 es
last_is es n e len h = sym (ap (λ (o : Option ℕ). unwrap_or o 0) (rw len at h)) ∙ last_kept es

-- ---- lists that grow

pub closed_reach : (es : List ℕ) (n m : ℕ) → n ≤ m → Reaches 0 es n → Reaches 0 (es ++ m ∷ []) m
closed_reach es n m h r = reach_more 0 es n m h r

pub drop_kept : {X : Type 0} (xs : List X) (n : ℕ) → drop n (take n xs) ≡ []
drop_kept xs n = grind (arith, common_steps)

-- whole lists lie before the unfinished one
pub counted : {X : Type 0} (xs : List X) (from : ℕ) (es : List ℕ) (n : ℕ) → Reaches from es n → n ≤ length xs
    → count_items (parts xs from es) + from ≡ n
counted xs from [] n r le = omega (arith, r)
counted xs from (e ∷ es) n r le =
    let rest = counted xs e es n r.1 le in
    let before = reach_le e es n r.1 in
    let x = r.0 in
    let part : length (slice_range xs from e) ≡ e - from =
    length-take-le (e - from) (drop from xs) (omega (arith, length-drop from xs, before, le)) in
    omega (arith, rest, part, x)

pub drop_counted : {X : Type 0} (xs : List X) (n : ℕ) → n ≤ length xs → length xs ≡ n + length (drop n xs)
drop_counted xs n le = omega (arith, length-drop n xs, le)

-- the first items, or all if there are no more
pub first_parts : {X : Type 0} (xs : List X) (m from : ℕ) (es : List ℕ) (n : ℕ) → Reaches from es n → n ≤ m → n ≤ length xs
    → parts (take m xs) from es ≡ parts xs from es
first_parts xs m from es n r h le =
    sym (grown_parts (take m xs) (drop m xs) from es n r (omega (arith, h, le, length-take m xs)))
    ∙ ap (λ (ys : List _). parts ys from es) (take-append-drop m xs)

pub drop_first : {X : Type 0} (xs : List X) (n m : ℕ) → n ≤ m → drop n (take m xs) ≡ take (m - n) (drop n xs)
drop_first xs n m h =
    let same : m ≡ n + (m - n) = omega (arith, h) in ap (λ k. drop n (take k xs)) same ∙ drop-take n (m - n) xs

pub drop_grown : {X : Type 0} (xs more : List X) (n : ℕ) → n ≤ length xs → drop n (xs ++ more) ≡ drop n xs ++ more
drop_grown xs more n h = drop-append-le n xs more h

-- the facts after the last list is taken away, after one is whole, and after the unfinished one lost its last items
pub ruleset fewer = (fewer_parts, same_count)

pub ruleset closed = (closed_parts, closed_reach, drop_all)

pub ruleset shorter = (first_parts, drop_first, counted)
