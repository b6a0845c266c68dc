-- The rules derive what the player of a side wins: at each place of the game they derive a set that is reached there.
use Rattle.qbf_core.proofs.Cited.{arith, ◌≡◌, ℕ, suc, ◌+◌, ◌<◌, ◌≤◌, List, [], ◌∷◌, ◌++◌, ◌⊎◌, inl, inr, refl, sym, ap}
use Rattle.qbf_core.proofs.Cited.{◌∙◌, subst, cond, cases_eq, Literal, positive, negative, negated, ◌∈◌, IsClean, Side, Clauses, Cubes, Clashes}
use Rattle.qbf_core.proofs.Cited.{resolvent, reduced_quantifier, deciding_quantifier, IsBound, pairs, variables, Qbf}
use Rattle.qbf_core.specs.declared.quantifier.Quantifier.{Quantifier}
use Rattle.std.proofs.Common.{◌^◌, ◌*◌, if◌then◌else◌, pow-suc, pow_pos}
use Rattle.qbf_core.specs.Blocks.{Binds, IsBefore, is_quantifier}
use Rattle.qbf_core.specs.Rules.{IsReduct, without}
use Rattle.qbf_core.proofs.Bound.{apart_of, binds_in, in_binds, in_bound, block, closed_each, Distinct, in_all}
use Rattle.qbf_core.proofs.Members.{split_each, in_append, lit_is}
use Rattle.qbf_core.proofs.Game.{Wins, Leaf, leaf_keeps, who}
use Rattle.qbf_core.proofs.Reduction.{Ascending}
use Rattle.qbf_core.proofs.Leaves.{leaf_is_clean, pairs_ascend}
use Rattle.qbf_core.proofs.Sides.{wanted, wanted_negated, Reached}
use Rattle.qbf_core.proofs.Inferences.{in_without, from_without}
use Rattle.qbf_completeness.specs.Derivations.{IsDerived, initial, reduced, resolved}
use Rattle.qbf_completeness.specs.Laws.{count_of, Completeness}
use Rattle.qbf_completeness.proofs.Players.{chosen_mine, chosen_theirs, mine_is, theirs_is, ends, won}
use Rattle.qbf_completeness.proofs.SameBlock.{stands_before}

-- a set that is derived at a place of the game: each literal that it wants set is set there
record Found (side : Side) (f : Qbf) (s : List Literal) (most : ℕ) : Type 0 where
  pub count : ℕ
  pub few : count ≤ most
  pub lits : List Literal
  pub derived : IsDerived side f count lits
  pub reached : Reached side lits s

abbrev pub var_of : Literal → ℕ
var_of l = l.var

-- ---- at the end of the game

found_at_end : (side : Side) (f : Qbf)
    → ((clause : List Literal) → clause ∈ f.clauses → (l : Literal) → l ∈ clause → IsBound f.blocks l.var)
    → (s : List Literal) → IsClean s → ((l : Literal) → l ∈ s → IsBound f.blocks l.var) → ends side f s → Found side f s 1
found_at_end Clauses f closed s clean bound (clause, h, all) =
    let is_clean : IsClean clause = λ l k n. clean (wanted Clauses l) (all l k) (all (negated l) n) in
    let itself : IsReduct Clauses f.blocks clause clause = record { within = λ l k. k; each = λ l k. inl k } in
    record {
      count = 1;
      few = omega arith;
      lits = clause;
      derived = initial (clause, h, is_clean, itself) is_clean (in_all (λ l. IsBound f.blocks l.var) clause (closed clause h));
      reached = all;
    }
found_at_end Cubes f closed s clean bound holds = record {
  count = 1;
  few = omega arith;
  lits = s;
  derived = initial (λ clause h. inr (holds clause h)) clean (in_all (λ l. IsBound f.blocks l.var) s bound);
  reached = λ l h. h;
}

-- ---- before a variable of the player

module _ (side : Side) (f : Qbf) (apart : Distinct (variables (pairs f.blocks))) (v : ℕ) (s : List Literal)
    (before : (l : Literal) → l ∈ s → block f.blocks l.var ≤ block f.blocks v) where
  earlier : (x : Literal) → x.var ≡ v → (reduced_quantifier side, v) ∈ pairs f.blocks
      → (m : Literal) → wanted side m ∈ (x ∷ s) → Binds f.blocks (deciding_quantifier side) m.var → IsBefore f.blocks m.var v
  earlier x is mine m h binds =
      stands_before side f.blocks m.var v apart (binds_in (pairs f.blocks) (deciding_quantifier side) m.var binds) mine (elim h [
        | inl e ↦ (let same : block f.blocks m.var ≡ block f.blocks v = ap (block f.blocks) (ap var_of e ∙ is) in omega (arith, same))
        | inr k ↦ before (wanted side m) k
      ])

  reduce : (x : Literal) → x.var ≡ v → (reduced_quantifier side, v) ∈ pairs f.blocks
      → (n : ℕ) → Found side f (x ∷ s) n → Found side f s (suc n)
  reduce x is mine n found = record {
    count = suc found.count;
    few = omega (arith, found.few);
    lits = without v found.lits;
    derived = reduced found.derived (record { within = λ l h. (from_without v found.lits l h).0; each = each });
    reached = λ l h. let w = from_without v found.lits l h in
        elim (found.reached l w.0) [ inl e ↦ absurd (w.1 (ap var_of e ∙ is)) | inr k ↦ k ];
  }
    where
      each : (l : Literal) → l ∈ found.lits
          → (l ∈ without v found.lits)
          ⊎ (Binds f.blocks (reduced_quantifier side) l.var
          × ((m : Literal) → m ∈ found.lits → Binds f.blocks (deciding_quantifier side) m.var → IsBefore f.blocks m.var l.var))
      each l h = elim (cases_eq l.var v) [
        | inl e ↦ inr (
          subst (λ w. Binds f.blocks (reduced_quantifier side) w) (sym e) (in_binds (pairs f.blocks) (reduced_quantifier side) v apart mine),
          λ m k b. subst (λ w. IsBefore f.blocks m.var w) (sym e) (earlier x is mine m (found.reached m k) b),
        )
        | inr ne ↦ inl (in_without v found.lits l h ne)
      ]

-- ---- before one of the opponent

wanted_of_negated : (side : Side) (l : Literal) → wanted side (negated l) ≡ negated (wanted side l)
wanted_of_negated Clauses l = refl
wanted_of_negated Cubes l = refl

pub clash_at : (a b : List Literal) (l : Literal) → l ∈ a → negated l ∈ b → Clashes a b l.var
clash_at a b l h k = elim (lit_is l l.var refl) [
  | inl e ↦ inl (subst (λ z. z ∈ a) e h, subst (λ z. z ∈ b) (ap negated e) k)
  | inr e ↦ inr (subst (λ z. z ∈ a) e h, subst (λ z. z ∈ b) (ap negated e) k)
]

clash_of : (side : Side) (v : ℕ) (a b : List Literal) (l m : Literal) → l ∈ a → m ∈ b → wanted side l ≡ positive v
    → wanted side m ≡ negative v → Clashes a b v
clash_of side v a b l m h k is so = subst (λ w. Clashes a b w) (ap var_of is)
    (clash_at a b l h (subst (λ z. z ∈ b) (wanted_negated side l m (ap negated is ∙ sym so)) k))

module _ (side : Side) (f : Qbf) (v : ℕ) (s : List Literal) (clean : IsClean s) (n : ℕ) (a : Found side f (positive v ∷ s) n)
    (b : Found side f (negative v ∷ s) n) where
  needs : (x : Literal) (lits : List Literal) → Reached side lits (x ∷ s)
      → ((l : Literal) × (l ∈ lits) × (wanted side l ≡ x)) ⊎ Reached side lits s
  needs x lits reached = split_each (λ l. wanted side l ∈ s) (λ l. wanted side l ≡ x) lits
      (λ l h. elim (reached l h) [ inl e ↦ inr e | inr k ↦ inl k ])

  -- a literal of a whose negation is in b is one of v
  both_signs : (p : Literal) → p ∈ a.lits → negated p ∈ b.lits → p.var ≡ v
  both_signs p h k = by (a.reached p h) (b.reached (negated p) k)
    where
      by : wanted side p ∈ (positive v ∷ s) → wanted side (negated p) ∈ (negative v ∷ s) → p.var ≡ v
      by (inl e) other = ap var_of e
      by (inr m) (inl e) = ap var_of e
      by (inr m) (inr o) = absurd (clean (wanted side p) m (subst (λ z. z ∈ s) (wanted_of_negated side p) o))

  only : (w : ℕ) → Clashes a.lits b.lits w → w ≡ v
  only w (inl (p, o)) = both_signs (positive w) p o
  only w (inr (o, p)) = both_signs (negative w) o p

  resolve : (deciding_quantifier side, v) ∈ pairs f.blocks → Distinct (variables (pairs f.blocks)) → Found side f s (suc (n + n))
  resolve theirs apart = by (needs (positive v) a.lits a.reached) (needs (negative v) b.lits b.reached)
    where
      by : ((l : Literal) × (l ∈ a.lits) × (wanted side l ≡ positive v)) ⊎ Reached side a.lits s
          → ((l : Literal) × (l ∈ b.lits) × (wanted side l ≡ negative v)) ⊎ Reached side b.lits s
          → Found side f s (suc (n + n))
      by (inr all) other = record { count = a.count; few = omega (arith, a.few); lits = a.lits; derived = a.derived; reached = all }
      by (inl one) (inr all) = record { count = b.count; few = omega (arith, b.few); lits = b.lits; derived = b.derived; reached = all }
      by (inl (l, h, is)) (inl (m, k, so)) = record {
        count = suc (a.count + b.count);
        few = omega (arith, a.few, b.few);
        lits = resolvent a.lits b.lits v;
        derived = resolved v a.derived b.derived
            (record { clashes = clash_of side v a.lits b.lits l m h k is so; only = only })
            (in_binds (pairs f.blocks) (deciding_quantifier side) v apart theirs);
        reached = λ o r.
            let w = from_without v (a.lits ++ b.lits) o r in
            elim (in_append a.lits b.lits o w.0) [
              | inl i ↦ elim (a.reached o i) [ inl e ↦ absurd (w.1 (ap var_of e)) | inr d ↦ d ]
              | inr i ↦ elim (b.reached o i) [ inl e ↦ absurd (w.1 (ap var_of e)) | inr d ↦ d ]
            ];
      }

-- ---- at all places

-- the most steps below a place: one for each variable of the player, and both branches of each of the opponent's
abbrev pub tree_steps : Side → List (Quantifier × ℕ) → ℕ
tree_steps side [] = 1
tree_steps side ((q, v) ∷ rest) =
    if is_quantifier q (reduced_quantifier side) then suc (tree_steps side rest) else suc (tree_steps side rest + tree_steps side rest)

tree_limit : (side : Side) (rest : List (Quantifier × ℕ))
    → tree_steps side rest < (2 + count_of (reduced_quantifier side) rest) * 2 ^ count_of (deciding_quantifier side) rest
tree_limit side [] = omega arith
tree_limit side ((q, v) ∷ rest) = by (count_of (reduced_quantifier side) rest) (count_of (deciding_quantifier side) rest) (who side q)
    (tree_limit side rest)
  where
    by : (p d : ℕ) → (q ≡ reduced_quantifier side) ⊎ (q ≡ deciding_quantifier side)
        → tree_steps side rest < (2 + p) * 2 ^ d
        → cond (is_quantifier q (reduced_quantifier side)) (suc (tree_steps side rest)) (suc (tree_steps side rest + tree_steps side rest))
        < (2 + cond (is_quantifier q (reduced_quantifier side)) (suc p) p) * 2 ^ cond (is_quantifier q (deciding_quantifier side)) (suc d) d
    by p d (inl mine) less = rw ((mine_is side q mine).0, (mine_is side q mine).1) (omega (arith, less, pow_pos d))
    by p d (inr theirs) less = rw ((theirs_is side q theirs).0, (theirs_is side q theirs).1)
        (let twice : (2 + p) * 2 ^ suc d ≡ (2 + p) * (2 ^ d * 2) = ap (λ x. (2 + p) * x) (pow-suc 2 d) in omega (arith, less, twice))

-- a place of the game: s is set, and the rest of the prefix is left
record IsPlace (f : Qbf) (rest : List (Quantifier × ℕ)) (s : List Literal) : Type 0 where
  pub up : Ascending (block f.blocks) rest
  pub inside : (p : Quantifier) (v : ℕ) → (p, v) ∈ rest → (p, v) ∈ pairs f.blocks
  pub clean : (t : List Literal) → Leaf rest s t → IsClean t
  pub bound : (l : Literal) → l ∈ s → IsBound f.blocks l.var
  pub before : (l : Literal) → l ∈ s → (p : Quantifier) (w : ℕ) → (p, w) ∈ rest → block f.blocks l.var ≤ block f.blocks w

next_place : (f : Qbf) (q : Quantifier) (v : ℕ) (rest : List (Quantifier × ℕ)) (s : List Literal) (x : Literal) → x.var ≡ v
    → ((t : List Literal) → Leaf rest (x ∷ s) t → Leaf ((q, v) ∷ rest) s t) → IsPlace f ((q, v) ∷ rest) s → IsPlace f rest (x ∷ s)
next_place f q v rest s x is below place = record {
  up = place.up.1;
  inside = λ p u h. place.inside p u (inr h);
  clean = λ t b. place.clean t (below t b);
  bound = λ l. elim [
    | inl e ↦ subst (λ u. IsBound f.blocks u) (sym (ap var_of e ∙ is)) (in_bound (pairs f.blocks) q v (place.inside q v (inl refl)))
    | inr h ↦ place.bound l h
  ];
  before = λ l. elim [
    | inl e ↦ λ p u k. subst (λ n. block f.blocks n ≤ block f.blocks u) (sym (ap var_of e ∙ is)) (place.up.0 p u k)
    | inr h ↦ λ p u k. place.before l h p u (inr k)
  ];
}

some_leaf : (rest : List (Quantifier × ℕ)) (s : List Literal) → (t : List Literal) × Leaf rest s t
some_leaf [] s = (s, refl)
some_leaf ((p, v) ∷ rest) s = let w = some_leaf rest (positive v ∷ s) in (w.0, inl w.1)

clean_here : (f : Qbf) (rest : List (Quantifier × ℕ)) (s : List Literal) → IsPlace f rest s → IsClean s
clean_here f rest s place l h k =
    let w = some_leaf rest s in place.clean w.0 w.1 l (leaf_keeps rest s w.0 w.1 l h) (leaf_keeps rest s w.0 w.1 (negated l) k)

module _ (side : Side) (f : Qbf) (apart : Distinct (variables (pairs f.blocks)))
    (closed : (clause : List Literal) → clause ∈ f.clauses → (l : Literal) → l ∈ clause → IsBound f.blocks l.var) where
  found : (rest : List (Quantifier × ℕ)) (s : List Literal) → IsPlace f rest s → Wins side rest (ends side f) s
      → Found side f s (tree_steps side rest)
  found [] s place w = found_at_end side f closed s (place.clean s refl) place.bound w
  found ((q, v) ∷ rest) s place w =
      let set = next_place f q v rest s (positive v) refl (λ t b. inl b) place in
      let unset = next_place f q v rest s (negative v) refl (λ t b. inr b) place in
      elim (who side q) [
        | inl mine ↦ elim (chosen_mine side q _ _ mine w) [
          | inl a ↦ by_one mine (positive v) refl (found rest (positive v ∷ s) set a)
          | inr a ↦ by_one mine (negative v) refl (found rest (negative v ∷ s) unset a)
        ]
        | inr theirs ↦ (
            let both = chosen_theirs side q _ _ theirs w in
            by_both theirs (found rest (positive v ∷ s) set both.0) (found rest (negative v ∷ s) unset both.1))
      ]
    where
      is_in : (p : Quantifier) → q ≡ p → (p, v) ∈ pairs f.blocks
      is_in p e = subst (λ r. (r, v) ∈ pairs f.blocks) e (place.inside q v (inl refl))

      by_one : q ≡ reduced_quantifier side → (x : Literal) → x.var ≡ v → Found side f (x ∷ s) (tree_steps side rest)
          → Found side f s (tree_steps side ((q, v) ∷ rest))
      by_one mine x is a = rw (mine_is side q mine).0
          (reduce side f apart v s (λ l h. place.before l h q v (inl refl)) x is (is_in (reduced_quantifier side) mine) (tree_steps side rest) a)

      by_both : q ≡ deciding_quantifier side → Found side f (positive v ∷ s) (tree_steps side rest)
          → Found side f (negative v ∷ s) (tree_steps side rest) → Found side f s (tree_steps side ((q, v) ∷ rest))
      by_both theirs a b = rw (theirs_is side q theirs).0
          (resolve side f v s (clean_here f ((q, v) ∷ rest) s place) (tree_steps side rest) a b (is_in (deciding_quantifier side) theirs) apart)

none_left : (side : Side) (lits : List Literal) → Reached side lits [] → lits ≡ []
none_left side [] reached = refl
none_left side (l ∷ lits) reached = absurd (reached l (inl refl))

pub completeness : Completeness
completeness f side closed says =
    let apart = apart_of (variables (pairs f.blocks)) closed.distinct in
    let start : IsPlace f (pairs f.blocks) [] = record {
      up = pairs_ascend f.blocks apart;
      inside = λ p v h. h;
      clean = λ t b. leaf_is_clean f.blocks t apart b;
      bound = λ l h. absurd h;
      before = λ l h. absurd h;
    } in
    let w = found side f apart (closed_each f.blocks f.clauses closed.bound) (pairs f.blocks) [] start (won side f closed says) in (
      w.count,
      omega (arith, w.few, tree_limit side (pairs f.blocks)),
      subst (λ lits. IsDerived side f w.count lits) (none_left side w.lits w.reached) w.derived,
    )
