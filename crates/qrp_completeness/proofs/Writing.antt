-- A set that the rules derive is written as steps, one after the other, numbered from 1.
use Rattle.trace_check.proofs.Cited.{◌≡◌, ℕ, suc, ◌+◌, ◌<◌, ◌≤◌, List, [], ◌∷◌, ◌++◌, inl, inr, refl, sym, ap, ◌∙◌, subst, length, false, arith, nat_eq, Literal, ◌∈◌, IsClean, Side, resolvent, AreBound, Qbf, Rules, AllHold, Inference, IsAt, numbers, IsNumberOf, lits_of, in_push, push_in, append_left}
use Rattle.std.proofs.Common.{length-append, eq-eqb, ne_eqb, ◌||◌}
use Rattle.std.proofs.lemmas.Bool.Decides.{eqb_tells}
use Rattle.std.proofs.lemmas.List.{map-append}
use Rattle.std.specs.List.{IsDistinct, list_any}
use Rattle.qbf_core.proofs.Bound.{all_in, bound_within}
use Rattle.lists.proofs.DistinctNumbers.{push_distinct}
use Rattle.qbf_core.proofs.Inferences.{resolvent_clean, resolvent_bound}
use Rattle.qbf_core.proofs.Order.{clean_within}
use Rattle.lists.proofs.PushedItems.{pushed_old}
use Rattle.trace_check.proofs.SetsAgree.{push_at}
use Rattle.trace_check.specs.Unreduced.{FollowsUnreduced, unreduced_antecedents}
use Rattle.qbf_completeness.specs.Derivations.{IsDerived, initial, reduced, resolved}
use Rattle.qrp_completeness.proofs.RulesHold.{initial_holds, resolvent_holds}

-- ---- numbers of steps

-- a step has this number, and the first one has these literals
abbrev pub HasStep : List Inference → ℕ → List Literal → Type 0
HasStep steps m lits = IsNumberOf steps m × (lits_of steps m ≡ lits)

kept_lits : (steps more : List Inference) (m : ℕ) → IsNumberOf steps m → lits_of (steps ++ more) m ≡ lits_of steps m
kept_lits [] more m (s, h, is) = absurd h
kept_lits (x ∷ steps) more m (s, h, is) = elim (eqb_tells x.number m) [
  | inl (t, e) ↦ rw t refl
  | inr (f, ne) ↦ elim h [
    | inl same ↦ absurd (ne (let g : Inference → ℕ = λ y. y.number in sym (ap g same) ∙ is))
    | inr k ↦ rw f (kept_lits steps more m (s, k, is))
  ]
]

new_lits : (steps : List Inference) (x : Inference) → ((s : Inference) → s ∈ steps → s.number < x.number)
    → lits_of (steps ++ x ∷ []) x.number ≡ x.lits
new_lits [] x below = rw (eq-eqb x.number x.number refl) refl
new_lits (y ∷ steps) x below = rw (ne_eqb y.number x.number (λ e. let less = below y (inl refl) in omega (arith, less, e)))
    (new_lits steps x (λ s h. below s (inr h)))

unused : (steps : List Inference) (n : ℕ) → ((s : Inference) → s ∈ steps → s.number < n) → list_any (nat_eq n) (numbers steps) ≡ false
unused [] n below = refl
unused (x ∷ steps) n below =
    let here : nat_eq n x.number ≡ false = ne_eqb n x.number (λ e. let less = below x (inl refl) in omega (arith, less, e)) in
    ap (λ b. b || list_any (nat_eq n) (numbers steps)) here ∙ unused steps n (λ s h. below s (inr h))

-- ---- steps that follow, and one more

-- the parts of a step are in range
pub record IsPlain (f : Qbf) (s : Inference) : Type 0 where
  pub from : 1 ≤ s.number
  pub bound : AreBound f.blocks s.lits
  pub ants : (n : ℕ) → n ∈ s.ants → (1 ≤ n) × (n < s.number)
  pub few : length s.ants ≤ 2

-- each step follows from those before it and is in range, no number is above their count, and none comes twice
pub record IsSound (side : Side) (f : Qbf) (steps : List Inference) : Type 0 where
  pub follows : (rules : Rules) (i : ℕ) (s : Inference) → IsAt steps i s → FollowsUnreduced rules side f steps i
  pub plain : (s : Inference) → s ∈ steps → IsPlain f s × (s.number ≤ length steps)
  pub distinct : IsDistinct nat_eq (numbers steps)

module _ (side : Side) (f : Qbf) (steps : List Inference) (sound : IsSound side f steps) (lits : List Literal) (ants : List ℕ) where
  abbrev pub added : Inference
  added = record { number = suc (length steps); lits = lits; ants = ants }

  abbrev pub longer : List Inference
  longer = steps ++ added ∷ []

  longer_by_one : length longer ≡ suc (length steps)
  longer_by_one = omega (arith, length-append steps (added ∷ []))

  pub below : (s : Inference) → s ∈ steps → s.number < suc (length steps)
  below s h = let to : s.number ≤ length steps = (sound.plain s h).1 in omega (arith, to)

  module _ (fits : IsClean lits × AreBound f.blocks lits) (names : (n : ℕ) → n ∈ ants → IsNumberOf steps n)
      (two : length ants ≤ 2) (all : (by : Rules) → AllHold (unreduced_antecedents by side f steps ants lits)) where
    new_plain : IsPlain f added
    new_plain = record {
      from = omega arith;
      bound = fits.1;
      ants = λ n h. let w = names n h in
          let from : 1 ≤ w.0.number = (sound.plain w.0 w.1).0.from in
          let less : w.0.number < suc (length steps) = below w.0 w.1 in
          let is : w.0.number ≡ n = w.2 in
          (omega (arith, from, is), omega (arith, less, is));
      few = two;
    }

    pub push : IsSound side f longer
    push = record {
      follows = λ by i s h. elim (push_at steps added s i h) [
        | inl w ↦ (let old = sound.follows by i s w.0 in record {
          step = old.step;
          here = pushed_old steps added i old.step old.here;
          clean = old.clean;
          bound = old.bound;
          numbers = rw w.1 old.numbers;
          all = rw w.1 old.all;
        })
        | inr w ↦ record {
          step = added;
          here = subst (λ z. IsAt longer i z) w.0 h;
          clean = fits.0;
          bound = fits.1;
          numbers = rw w.1 names;
          all = rw w.1 (all by);
        }
      ];
      plain = λ s h. elim (in_push steps added s h) [
        | inl k ↦ (let old = sound.plain s k in (old.0, omega (arith, old.1, longer_by_one)))
        | inr e ↦ subst (λ z. IsPlain f z × (z.number ≤ length longer)) (sym e) (new_plain, omega (arith, longer_by_one))
      ];
      distinct = subst (λ ns. IsDistinct nat_eq ns) (sym (map-append (λ s. s.number) steps (added ∷ [])))
          (push_distinct (numbers steps) (suc (length steps)) sound.distinct (unused steps (suc (length steps)) below));
    }

-- ---- a derived set, as steps

-- n steps more, of which the last has these literals
pub record Written (side : Side) (f : Qbf) (before : List Inference) (lits : List Literal) (n : ℕ) : Type 0 where
  pub front : List Inference
  pub last : Inference
  pub sound : IsSound side f (front ++ last ∷ [])
  pub of_last : last.lits ≡ lits
  pub named : HasStep (front ++ last ∷ []) last.number lits
  pub kept : (m : ℕ) (k : List Literal) → HasStep before m k → HasStep (front ++ last ∷ []) m k
  pub count : length (front ++ last ∷ []) ≡ length before + n

one_more : (side : Side) (f : Qbf) (before steps : List Inference) (k : ℕ) → IsSound side f steps
    → ((m : ℕ) (l : List Literal) → HasStep before m l → HasStep steps m l) → length steps ≡ length before + k
    → (lits : List Literal) (ants : List ℕ) → IsClean lits × AreBound f.blocks lits → ((n : ℕ) → n ∈ ants → IsNumberOf steps n)
    → length ants ≤ 2 → ((by : Rules) → AllHold (unreduced_antecedents by side f steps ants lits)) → Written side f before lits (suc k)
one_more side f before steps k sound kept count lits ants fits names two all =
    let last : Inference = added side f steps sound lits ants in record {
      front = steps;
      last = last;
      sound = push side f steps sound lits ants fits names two all;
      of_last = refl;
      named = ((last, push_in steps last last (inr refl), refl), new_lits steps last (below side f steps sound lits ants));
      kept = λ m l h. let w = kept m l h in
          ((w.0.0, append_left steps (last ∷ []) w.0.0 w.0.1, w.0.2), kept_lits steps (last ∷ []) m w.0 ∙ w.1);
      count = omega (arith, count, length-append steps (last ∷ []));
    }

fit : (side : Side) (f : Qbf) {n : ℕ} {lits : List Literal} → IsDerived side f n lits → IsClean lits × AreBound f.blocks lits
fit side f (initial h clean bound) = (clean, bound)
fit side f (reduced {from = a} {to = t} d reduct) =
    let w = fit side f d in (clean_within a t w.0 reduct.within, bound_within f.blocks a t w.1 reduct.within)
fit side f (resolved {a = a} {b = b} x d e clash binds) =
    let v = fit side f d in
    let w = fit side f e in
    (resolvent_clean a b x v.0 w.0 clash, resolvent_bound f.blocks a b (resolvent a b x) x v.1 w.1 (λ l h. h))

pub write : (side : Side) (f : Qbf) {n : ℕ} {lits : List Literal} → IsDerived side f n lits → (before : List Inference) → IsSound side f before
    → Written side f before lits n
write side f (initial {lits = l} h clean bound) before sound =
    one_more side f before before 0 sound (λ m k has. has) (omega arith) l [] (clean, bound) (λ m none. absurd none) (omega arith)
    (λ by. initial_holds by side f before l h)
write side f (reduced {n = n} {from = a} {to = t} d reduct) before sound =
    let w = write side f d before sound in
    let steps : List Inference = w.front ++ w.last ∷ [] in
    one_more side f before steps n w.sound w.kept w.count t (w.last.number ∷ []) (fit side f (reduced d reduct))
    (all_in (λ k. IsNumberOf steps k) (w.last.number ∷ []) (w.named.0, tt)) (omega arith)
    (λ by. rw w.named.1 (reduct.within, (reduct.each, tt)))
write side f (resolved {m = m} {n = n} {a = a} {b = b} x d e clash binds) before sound =
    let v = write side f d before sound in
    let w = write side f e (v.front ++ v.last ∷ []) v.sound in
    let steps : List Inference = w.front ++ w.last ∷ [] in
    let of_a : HasStep steps v.last.number a = w.kept v.last.number a v.named in
    one_more side f before steps (m + n) w.sound (λ k l h. w.kept k l (v.kept k l h)) (omega (arith, v.count, w.count)) (resolvent a b x)
    (v.last.number ∷ w.last.number ∷ []) (fit side f (resolved x d e clash binds))
    (all_in (λ k. IsNumberOf steps k) (v.last.number ∷ w.last.number ∷ []) (of_a.0, (w.named.0, tt))) (omega arith)
    (λ by. rw (of_a.1, w.named.1) (resolvent_holds by side f a b (resolvent a b x) x clash binds (λ l h. h) (λ l h. h)))

pub nothing_written : (side : Side) (f : Qbf) → IsSound side f []
unfolding IsDistinct
nothing_written side f = record { follows = λ by i s h. absurd (cc h); plain = λ s none. absurd none; distinct = tt }
