-- How far the sets of a trace agree: one pair more, and one list of pairs more.
use Rattle.trace_check.proofs.Cited.{common_steps, ◌≡◌, ◌≤◌, ◌<◌, ◌+◌, ℕ, zero, suc, List, [], ◌∷◌, ◌++◌, ◌⊎◌, inl, inr, refl, sym, ap, subst}
use Rattle.trace_check.proofs.Cited.{◌∙◌, arith, rules, length, get_or, take, drop, Some, Quantifier, Block, IsBound, pairs}
use Rattle.trace_check.proofs.Cited.{pairs_of_block, in_push, push_in, CheckFault, C1, C2, C3, AllHold, IsFirstFailure, Passes, FailsIn}
use Rattle.std.proofs.Common.{slice_get}
use Rattle.std.proofs.lemmas.List.{append_assoc, append-nil, map-append, map_more, take-append-drop}
use Rattle.std.proofs.lemmas.List.Concat.{flat_map-append}
use Rattle.std.proofs.lemmas.Option.{slice_get_within, get_or_from_slice_get}
use Rattle.qbf_core.specs.Blocks.{Binds, block_in}
use Rattle.qbf_core.proofs.Bound.{binds_in, in_bound}
use Rattle.trace_check.specs.Sets.{set_conditions, PairsAgree, IsPairFault}
use Rattle.trace_check.specs.Passed.{IsPassed}

-- positions of a list with more after it
pub push_at : {A : Type 0} (xs : List A) (y r : A) (i : ℕ) → slice_get (xs ++ y ∷ []) i ≡ Some r
    → ((slice_get xs i ≡ Some r) × (take i (xs ++ y ∷ []) ≡ take i xs)) ⊎ ((r ≡ y) × (take i (xs ++ y ∷ []) ≡ xs))
push_at [] y r zero e = inr ((let s : r ≡ y = cc e in s), refl)
push_at [] y r (suc i) e = cc e
push_at (x ∷ xs) y r zero e = inl (e, refl)
push_at (x ∷ xs) y r (suc i) e = search (rules, push_at xs y r i e)

here_at : {A : Type 0} (xs ys : List A) (y : A) → (slice_get (xs ++ y ∷ ys) (length xs) ≡ Some y) × (take (length xs) (xs ++ y ∷ ys) ≡ xs)
here_at [] ys y = (refl, refl)
here_at (x ∷ xs) ys y = let w = here_at xs ys y in (w.0, ap (λ zs. x ∷ zs) w.1)

before_at : {A : Type 0} (xs ys : List A) (r : A) (j : ℕ) → j < length xs → slice_get (xs ++ ys) j ≡ Some r
    → (slice_get xs j ≡ Some r) × (take j (xs ++ ys) ≡ take j xs)
before_at [] ys r j less e = absurd (omega arith)
before_at (x ∷ xs) ys r zero less e = (e, refl)
before_at (x ∷ xs) ys r (suc j) less e = let w = before_at xs ys r j (omega arith) e in (w.0, ap (λ zs. x ∷ zs) w.1)

bound_by : (blocks : List Block) (q : Quantifier) (v : ℕ) → Binds blocks q v → IsBound blocks v
bound_by blocks q v binds = in_bound (pairs blocks) q v (binds_in (pairs blocks) q v binds)

-- one pair more
pub passes_one : (blocks : List Block) (highest n : ℕ) (q : Quantifier) (v : ℕ) → Binds blocks q v → block_in v blocks ≡ Some n
    → highest ≤ n
    → Passes blocks highest ((q, v) ∷ []) n
passes_one blocks highest n q v binds at le before passed = record {
  agree = λ i r e. elim (push_at before (q, v) r i e) [
    | inl w ↦ subst (λ bs. AllHold (set_conditions blocks bs r)) (sym w.1) (passed.agree i r w.0)
    | inr w ↦ subst (λ bs. AllHold (set_conditions blocks bs r)) (sym w.1)
        (subst (λ p. AllHold (set_conditions blocks before p)) (sym w.0) conditions)
  ];
  low = λ k. (
    (λ up p h i e. elim (in_push before (q, v) p h) [
      | inl b ↦ (passed.low k).0 (let l : highest ≤ k = omega arith in l) p b i e
      | inr same ↦
          search rules
    ]),
    (λ all. all (q, v) (push_in before (q, v) (q, v) (inr refl)) n at),
  );
}
  where
    conditions : AllHold (set_conditions blocks before (q, v))
    conditions = (
      bound_by blocks q v binds,
      (
        binds,
        (
          (λ p h i j ei ej. (passed.low j).0 (let is : j ≡ n = cc (ej, at) in let l : highest ≤ j = omega arith in l) p h i ei),
          tt,
        ),
      ),
    )

-- a pair that fails after those that are passed
pub fails_one : (blocks : List Block) (highest : ℕ) (p : Quantifier × ℕ) (fault : CheckFault)
    → ((before : List (Quantifier × ℕ)) → IsPassed blocks before highest → IsFirstFailure (set_conditions blocks before p) fault)
    → FailsIn blocks highest (p ∷ []) fault
fails_one blocks highest p fault fails before rest passed =
    let w = here_at before rest p in
    record {
      position = length before;
      pair = p;
      here = w.0;
      first = subst (λ bs. IsFirstFailure (set_conditions blocks bs p) fault) (sym w.1) (fails before passed);
      earlier = λ j r less e.
          let b = before_at before (p ∷ rest) r j less e in
          subst (λ bs. AllHold (set_conditions blocks bs r)) (sym b.1) (passed.agree j r b.0);
    }

pub fails_unbound : (blocks : List Block) (highest : ℕ) (q : Quantifier) (v : ℕ) → (IsBound blocks v → ⊥)
    → FailsIn blocks highest ((q, v) ∷ []) (C1 v)
fails_unbound blocks highest q v out = fails_one blocks highest (q, v) (C1 v) (λ before passed. inl (out, refl))

pub fails_other : (blocks : List Block) (highest : ℕ) (q : Quantifier) (v : ℕ) → IsBound blocks v → (Binds blocks q v → ⊥)
    → FailsIn blocks highest ((q, v) ∷ []) (C2 v)
fails_other blocks highest q v bound out = fails_one blocks highest (q, v) (C2 v) (λ before passed. inr (bound, inl (out, refl)))

pub fails_early : (blocks : List Block) (highest n : ℕ) (q : Quantifier) (v : ℕ) → Binds blocks q v → block_in v blocks ≡ Some n
    → n < highest
    → FailsIn blocks highest ((q, v) ∷ []) (C3 v)
fails_early blocks highest n q v binds at less = fails_one blocks highest (q, v) (C3 v) (λ before passed.
    inr (
      bound_by blocks q v binds,
      inr (
        binds,
        inl (
          (λ all. let le : highest ≤ n = (passed.low n).1 (λ p h i e. all p h i n e at) in let no : ⊥ = omega arith in no),
          refl,
        ),
      ),
    ))

-- no pair
pub passed_none : (blocks : List Block) → IsPassed blocks [] 0
passed_none blocks = record { agree = λ i r e. absurd (cc e); low = λ k. ((λ le p h. absurd h), (λ all. omega arith)) }

pub passes_none : (blocks : List Block) (highest : ℕ) → Passes blocks highest [] highest
passes_none blocks highest before passed = subst (λ ps. IsPassed blocks ps highest) (sym (append-nil before)) passed

-- one list of pairs more
pub passes_more : (blocks : List Block) (highest n m : ℕ) (ps qs : List (Quantifier × ℕ)) → Passes blocks highest ps n
    → Passes blocks n qs m → Passes blocks highest (ps ++ qs) m
passes_more blocks highest n m ps qs first second before passed =
    subst (λ rs. IsPassed blocks rs m) (append_assoc before ps qs) (second (before ++ ps) (first before passed))

pub fails_more : (blocks : List Block) (highest n : ℕ) (ps qs more : List (Quantifier × ℕ)) (fault : CheckFault)
    → Passes blocks highest ps n → FailsIn blocks n qs fault
    → FailsIn blocks highest ((ps ++ qs) ++ more) fault
fails_more blocks highest n ps qs more fault first second before rest passed =
    subst (λ rs. IsPairFault blocks rs fault) (assoc before ps qs more rest) (second (before ++ ps) (more ++ rest) (first before passed))
  where
    assoc : {A : Type 0} (xs ys zs us vs : List A) → (xs ++ ys) ++ (zs ++ (us ++ vs)) ≡ xs ++ (((ys ++ zs) ++ us) ++ vs)
    assoc xs ys zs us vs = simp append_assoc

-- with no pairs before, and none after
pub agrees_by_passes : (blocks : List Block) (ps : List (Quantifier × ℕ)) (n : ℕ) → Passes blocks 0 ps n → PairsAgree blocks ps
agrees_by_passes blocks ps n passes = (passes [] (passed_none blocks)).agree

pub fault_by_fails : (blocks : List Block) (ps : List (Quantifier × ℕ)) (fault : CheckFault) → FailsIn blocks 0 ps fault
    → IsPairFault blocks ps fault
fault_by_fails blocks ps fault fails = subst (λ rs. IsPairFault blocks rs fault) (append-nil ps) (fails [] [] (passed_none blocks))

-- one variable more of a set
abbrev pub under : Quantifier → List ℕ → List (Quantifier × ℕ)
under q vs = pairs_of_block (record { quantifier = q; vars = vs })

pub under_next : (q : Quantifier) (vs : List ℕ) (i v : ℕ) → i < length vs → v ≡ get_or vs i v
    → under q (take (i + 1) vs) ≡ under q (take i vs) ++ (q, v) ∷ []
under_next q vs i v less e = map_more (λ (w : ℕ). (q, w)) vs i v less ∙ ap (λ (w : ℕ). under q (take i vs) ++ (q, w) ∷ []) (sym e)

pub under_rest : (q : Quantifier) (vs : List ℕ) (i v : ℕ) → i < length vs → v ≡ get_or vs i v
    → (under q (take i vs) ++ (q, v) ∷ []) ++ under q (drop (i + 1) vs) ≡ under q vs
under_rest q vs i v less e =
    ap (λ (ps : List (Quantifier × ℕ)). ps ++ under q (drop (i + 1) vs)) (sym (under_next q vs i v less e))
    ∙ sym (map-append (λ (w : ℕ). (q, w)) (take (i + 1) vs) (drop (i + 1) vs))
    ∙ ap (under q) (take-append-drop (i + 1) vs)

-- one set more
pub sets_next : (sets : List Block) (i : ℕ) (s : Block) → i < length sets → s ≡ get_or sets i s
    → pairs (take (i + 1) sets) ≡ pairs (take i sets) ++ pairs_of_block s
sets_next sets i s less e = grind (arith, common_steps)

pub sets_rest : (sets : List Block) (i : ℕ) (s : Block) → i < length sets → s ≡ get_or sets i s
    → (pairs (take i sets) ++ pairs_of_block s) ++ pairs (drop (i + 1) sets) ≡ pairs sets
sets_rest sets i s less e =
    ap (λ (ps : List (Quantifier × ℕ)). ps ++ pairs (drop (i + 1) sets)) (sym (sets_next sets i s less e))
    ∙ sym (flat_map-append pairs_of_block (take (i + 1) sets) (drop (i + 1) sets))
    ∙ ap pairs (take-append-drop (i + 1) sets)

-- the same, of the set that stands at a place
pub next_set : (sets : List Block) (i : ℕ) (s : Block) → slice_get sets i ≡ Some s
    → pairs (take (i + 1) sets) ≡ pairs (take i sets) ++ pairs_of_block s
next_set sets i s at = sets_next sets i s (slice_get_within sets i s at) (sym (get_or_from_slice_get sets i s s at))

pub rest_of_sets : (sets : List Block) (i : ℕ) (s : Block) → slice_get sets i ≡ Some s
    → (pairs (take i sets) ++ pairs_of_block s) ++ pairs (drop (i + 1) sets) ≡ pairs sets
rest_of_sets sets i s at = sets_rest sets i s (slice_get_within sets i s at) (sym (get_or_from_slice_get sets i s s at))
