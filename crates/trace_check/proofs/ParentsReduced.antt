-- Parents that are reduced before they are resolved: reductions of the parents, a resolution, and a reduction of the resolvent.
use Rattle.trace_check.proofs.Cited.{common_steps, arith, ◌≡◌, ℕ, List, [], ◌∷◌, ◌++◌, ◌⊎◌, inl, inr, refl, sym, subst, rules, cases_eq}
use Rattle.trace_check.proofs.Cited.{Literal, ◌∈◌, ◌⊆◌, IsClean, Side, IsReduct, Clashes, resolvent, Block, IsBound, AreBound, bound_each}
use Rattle.trace_check.proofs.Cited.{Qbf, IsClosed, in_append, append_left, append_right}
use Rattle.qbf_core.specs.Rules.{IsReducible, IsOnlyClash}
use Rattle.qbf_core.proofs.Bound.{bound_within}
use Rattle.qrp_rules.specs.Conditions.{IsReducibleInParents}
use Rattle.qbf_core.proofs.Members.{in_or_not}
use Rattle.qbf_core.proofs.Inferences.{in_without, from_without, resolvent_clean, resolvent_bound}
use Rattle.trace_check.proofs.AddedSets.{AreGood, Grown, one_grown, grown_on, reduct_grows, resolvent_grows}
use Rattle.qbf_core.proofs.Order.{clean_within}

-- a literal that is taken out of a resolvent is reducible in it, or in each parent that has it
pub record Resolved (side : Side) (f : Qbf) (a b lits : List Literal) : Type 0 where
  pub pivot : ℕ
  pub clash : IsOnlyClash a b pivot
  pub within : lits ⊆ resolvent a b pivot
  pub each : (l : Literal) → l ∈ resolvent a b pivot
      → (l ∈ lits) ⊎ (IsReducible side f.blocks (resolvent a b pivot) l ⊎ IsReducibleInParents side f.blocks a b l)

-- the members that are to stay
pub record Picked (P Q : Literal → Type 0) (all : List Literal) : Type 0 where
  pub some : List Literal
  pub within : some ⊆ all
  pub stays : (l : Literal) → l ∈ some → P l
  pub each : (l : Literal) → l ∈ all → (l ∈ some) ⊎ Q l

pick : (P Q : Literal → Type 0) (all : List Literal) → ((l : Literal) → l ∈ all → P l ⊎ Q l) → Picked P Q all
pick P Q [] choose = record { some = []; within = λ l h. h; stays = λ l h. absurd h; each = λ l h. absurd h }
pick P Q (x ∷ all) choose = by_choice (choose x (inl refl)) (pick P Q all (λ l h. choose l (inr h)))
  where
    by_choice : P x ⊎ Q x → Picked P Q all → Picked P Q (x ∷ all)
    by_choice (inl p) rest = record {
      some = x ∷ rest.some;
      within = λ l. elim [ inl e ↦ inl e | inr h ↦ inr (rest.within l h) ];
      stays = λ l. elim [ inl e ↦ subst P (sym e) p | inr h ↦ rest.stays l h ];
      each = λ l. elim [ inl e ↦ inl (inl e) | inr h ↦ elim (rest.each l h) [ inl k ↦ inl (inr k) | inr q ↦ inr q ] ];
    }
    by_choice (inr q) rest = grind (arith, common_steps)

reducible_fewer : (side : Side) (blocks : List Block) (all some : List Literal) (l : Literal) → some ⊆ all → IsReducible side blocks all l
    → IsReducible side blocks some l
reducible_fewer side blocks all some l within red = (red.0, λ m h. red.1 m (within m h))

module _ (side : Side) (f : Qbf) (a b lits : List Literal) (resolved : Resolved side f a b lits) where
  -- the literals that a parent keeps before the resolution, and those that are taken out of it
  abbrev pub Stays : Literal → Type 0
  Stays l = (l.var ≡ resolved.pivot) ⊎ ((l ∈ lits) ⊎ IsReducible side f.blocks (resolvent a b resolved.pivot) l)

  abbrev pub Goes : Literal → Type 0
  Goes l = (l.var ≡ resolved.pivot → ⊥) × (l ∈ lits → ⊥) × IsReducibleInParents side f.blocks a b l

  choose : (l : Literal) → l ∈ (a ++ b) → Stays l ⊎ Goes l
  choose l h = elim (cases_eq l.var resolved.pivot) [
    | inl e ↦ inl (inl e)
    | inr ne ↦ elim (in_or_not l lits) [
      | inl is ↦ inl (inr (inl is))
      | inr out ↦ elim (resolved.each l (in_without resolved.pivot (a ++ b) l h ne)) [
        | inl is ↦ inl (inr (inl is))
        | inr why ↦ elim why [ inl red ↦ inl (inr (inr red)) | inr both ↦ inr (ne, out, both) ]
      ]
    ]
  ]

  picked_a : Picked Stays Goes a
  picked_a = pick Stays Goes a (λ l h. choose l (append_left a b l h))

  picked_b : Picked Stays Goes b
  picked_b = pick Stays Goes b (λ l h. choose l (append_right a b l h))

  reduct_a : IsReduct side f.blocks a picked_a.some
  reduct_a = search (rules, picked_a)

  reduct_b : IsReduct side f.blocks b picked_b.some
  reduct_b = search (rules, picked_b)

  stays_a : (l : Literal) → l ∈ a → (Goes l → ⊥) → l ∈ picked_a.some
  stays_a l h stay = elim (picked_a.each l h) [ inl k ↦ k | inr goes ↦ absurd (stay goes) ]

  stays_b : (l : Literal) → l ∈ b → (Goes l → ⊥) → l ∈ picked_b.some
  stays_b l h stay = elim (picked_b.each l h) [ inl k ↦ k | inr goes ↦ absurd (stay goes) ]

  clash_stays : Clashes a b resolved.pivot → Clashes picked_a.some picked_b.some resolved.pivot
  clash_stays h = search rules

  clash_only : (v : ℕ) → Clashes picked_a.some picked_b.some v → Clashes a b v
  clash_only v h = search rules

  clash : IsOnlyClash picked_a.some picked_b.some resolved.pivot
  clash = record { clashes = clash_stays resolved.clash.clashes; only = λ v c. resolved.clash.only v (clash_only v c) }

  abbrev rest : List Literal
  rest = resolvent picked_a.some picked_b.some resolved.pivot

  rest_within : rest ⊆ resolvent a b resolved.pivot
  rest_within l h = let w = from_without resolved.pivot (picked_a.some ++ picked_b.some) l h in
      in_without resolved.pivot (a ++ b) l
      (elim (in_append picked_a.some picked_b.some l w.0) [
        | inl k ↦ append_left a b l (picked_a.within l k)
        | inr k ↦ append_right a b l (picked_b.within l k)
      ])
      w.1

  -- the literals that are left are a reduct of the resolvent of the reduced parents
  reduct : IsReduct side f.blocks rest lits
  reduct = record {
    within = λ l h. let w = from_without resolved.pivot (a ++ b) l (resolved.within l h) in
        in_without resolved.pivot (picked_a.some ++ picked_b.some) l
        (elim (in_append a b l w.0) [
          | inl k ↦ append_left picked_a.some picked_b.some l (stays_a l k (λ goes. goes.1 h))
          | inr k ↦ append_right picked_a.some picked_b.some l (stays_b l k (λ goes. goes.1 h))
        ])
        w.1;
    each = λ l h. let w = from_without resolved.pivot (picked_a.some ++ picked_b.some) l h in
        why l w.1 (elim (in_append picked_a.some picked_b.some l w.0) [ inl k ↦ picked_a.stays l k | inr k ↦ picked_b.stays l k ]);
  }
    where
      why : (l : Literal) → (l.var ≡ resolved.pivot → ⊥) → Stays l → (l ∈ lits) ⊎ IsReducible side f.blocks rest l
      why l ne (inl e) = absurd (ne e)
      why l ne (inr (inl is)) = inl is
      why l ne (inr (inr red)) = inr (reducible_fewer side f.blocks (resolvent a b resolved.pivot) rest l rest_within red)

  pivot_bound : AreBound f.blocks a → IsBound f.blocks resolved.pivot
  pivot_bound bound = search (rules, bound_each)

  -- the reduced parents, their resolvent and its reduct are added one after the other
  pub resolved_grown : (sets : List (List Literal)) → IsClosed f → AreGood f sets → a ∈ sets → b ∈ sets
      → IsClean lits → AreBound f.blocks lits → Grown side f sets lits
  resolved_grown sets closed good in_a in_b clean bound =
      let of_a = good a in_a in
      let of_b = good b in_b in
      let clean_a = clean_within a picked_a.some of_a.0 picked_a.within in
      let clean_b = clean_within b picked_b.some of_b.0 picked_b.within in
      let bound_a = bound_within f.blocks a picked_a.some of_a.1 picked_a.within in
      let bound_b = bound_within f.blocks b picked_b.some of_b.1 picked_b.within in
      grown_on side f sets picked_a.some lits
      (one_grown side f sets picked_a.some (reduct_grows side f sets a picked_a.some closed good in_a reduct_a) good clean_a bound_a)
      (λ one good_1 more_1 here_a.
      grown_on side f one picked_b.some lits (one_grown side f one picked_b.some
      (reduct_grows side f one b picked_b.some closed good_1 (more_1 b in_b) reduct_b) good_1 clean_b bound_b)
      (λ two good_2 more_2 here_b.
      grown_on side f two rest lits
      (one_grown side f two rest (resolvent_grows side f two picked_a.some picked_b.some resolved.pivot closed good_2
      (more_2 picked_a.some here_a) here_b clash.clashes (pivot_bound of_a.1)) good_2
      (resolvent_clean picked_a.some picked_b.some resolved.pivot clean_a clean_b clash) (resolvent_bound f.blocks a b rest resolved.pivot of_a.1 of_b.1 rest_within))
      (λ three good_3 more_3 here. one_grown side f three lits
      (reduct_grows side f three rest lits closed good_3 here reduct) good_3 clean bound)))
