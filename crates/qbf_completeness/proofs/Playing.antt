-- Who wins has a strategy, and who has a strategy wins.
use Rattle.qbf_core.proofs.Cited.{◌≡◌, ℕ, Bool, true, false, cond, eqb, List, [], ◌∷◌, ◌⊎◌, inl, inr, refl, sym, ap, ◌∙◌}
use Rattle.qbf_core.proofs.Cited.{subst, Literal, positive, negative, is_quantifier, ◌∈◌, MatrixHolds}
use Rattle.qbf_core.proofs.Cited.{Side, Clauses, Cubes, reduced_quantifier, deciding_quantifier, pairs, variables}
use Rattle.qbf_core.specs.declared.quantifier.Quantifier.{Quantifier}
use Rattle.std.proofs.Common.{eq-eqb, ne_eqb}
use Rattle.qbf_core.proofs.Bound.{apart_of, Distinct}
use Rattle.qbf_core.proofs.Game.{Wins, Chosen, who, choose, chosen_on, wins_weaker}
use Rattle.qbf_core.proofs.Leaves.{leaf_is_clean}
use Rattle.qbf_core.proofs.Sides.{Falsified}
use Rattle.qbf_core.proofs.Inferences.{true_if_won, false_if_won, not_both}
use Rattle.qbf_completeness.specs.Strategies.{Strategy, play, literal_of, TruthIsWon, FalsityIsWon}
use Rattle.qbf_completeness.proofs.Players.{chosen_mine, chosen_theirs, mine_is, theirs_is, won}

-- the same moves give the same end
same_play : (mine : Quantifier) (rest : List (Quantifier × ℕ)) (e g : Strategy) (u h : ℕ → Bool) (s : List Literal)
    → ((w : ℕ) → w ∈ variables rest → (before : List Bool) → e w before ≡ g w before)
    → ((w : ℕ) → w ∈ variables rest → u w ≡ h w)
    → play mine rest e u s ≡ play mine rest g h s
same_play mine [] e g u h s moves values = refl
same_play mine ((q, v) ∷ rest) e g u h s moves values = by (is_quantifier q mine)
    (same_play mine rest e g u h (literal_of v (g v []) ∷ s) (λ w k p. moves w (inr k) p) (λ w k. values w (inr k)))
    (same_play mine rest (λ w p. e w (h v ∷ p)) (λ w p. g w (h v ∷ p)) u h (literal_of v (h v) ∷ s) (λ w k p. moves w (inr k) (h v ∷ p))
    (λ w k. values w (inr k)))
  where
    by : (t : Bool)
        → play mine rest e u (literal_of v (g v []) ∷ s) ≡ play mine rest g h (literal_of v (g v []) ∷ s)
        → play mine rest (λ w p. e w (h v ∷ p)) u (literal_of v (h v) ∷ s) ≡ play mine rest (λ w p. g w (h v ∷ p)) h (literal_of v (h v) ∷ s)
        → cond t (play mine rest e u (literal_of v (e v []) ∷ s)) (play mine rest (λ w p. e w (u v ∷ p)) u (literal_of v (u v) ∷ s))
        ≡ cond t (play mine rest g h (literal_of v (g v []) ∷ s)) (play mine rest (λ w p. g w (h v ∷ p)) h (literal_of v (h v) ∷ s))
    by true one other = ap (λ b. play mine rest e u (literal_of v b ∷ s)) (moves v (inl refl) []) ∙ one
    by false one other = ap (λ b. play mine rest (λ w p. e w (b ∷ p)) u (literal_of v b ∷ s)) (values v (inl refl)) ∙ other

-- the same values with that of v changed
changed_at : {B : Type 0} → ℕ → B → (ℕ → B) → ℕ → B
changed_at v b g w = cond (eqb w v) b (g w)

changed_here : {B : Type 0} (v : ℕ) (b : B) (g : ℕ → B) → changed_at v b g v ≡ b
unfolding changed_at
changed_here v b g = rw (eq-eqb v v refl) refl

changed_elsewhere : {B : Type 0} (v : ℕ) (b : B) (g : ℕ → B) (w : ℕ) → (w ≡ v → ⊥) → changed_at v b g w ≡ g w
unfolding changed_at
changed_elsewhere v b g w other = rw (ne_eqb w v other) refl

-- the strategy that goes on with e after true, and with g after false
after_value : Strategy → Strategy → Strategy
after_value e g w [] = true
after_value e g w (true ∷ before) = e w before
after_value e g w (false ∷ before) = g w before

-- a strategy that brings about the end
abbrev pub HasStrategy : Side → List (Quantifier × ℕ) → (List Literal → Type 0) → List Literal → Type 0
HasStrategy side rest end s = (e : Strategy) × ((u : ℕ → Bool) → end (play (reduced_quantifier side) rest e u s))

module _ (side : Side) (q : Quantifier) (v : ℕ) (rest : List (Quantifier × ℕ)) (end : List Literal → Type 0) (s : List Literal)
    (apart : Distinct (variables ((q, v) ∷ rest))) where
  apart_from : (w : ℕ) → w ∈ variables rest → w ≡ v → ⊥
  apart_from w h e = apart.0 (subst (λ n. n ∈ variables rest) e h)

  my_move : q ≡ reduced_quantifier side → (b : Bool) → HasStrategy side rest end (literal_of v b ∷ s) → HasStrategy side ((q, v) ∷ rest) end s
  my_move mine b (e, wins) =
      let moves : Strategy = changed_at v (λ before. b) e in (
        moves,
        λ u. rw (mine_is side q mine).0
            (subst end (sym (ap (λ m. play (reduced_quantifier side) rest moves u (literal_of v (m []) ∷ s)) (changed_here v (λ before. b) e)
            ∙ same_play (reduced_quantifier side) rest moves e u u (literal_of v b ∷ s)
            (λ w h p. ap (λ m. m p) (changed_elsewhere v (λ before. b) e w (apart_from w h))) (λ w h. refl))) (wins u)),
      )

  their_move : q ≡ deciding_quantifier side → HasStrategy side rest end (positive v ∷ s) → HasStrategy side rest end (negative v ∷ s)
      → HasStrategy side ((q, v) ∷ rest) end s
  unfolding after_value
  their_move theirs (e, wins) (g, wins_too) = (after_value e g, λ u. rw (theirs_is side q theirs).0 (by u (u v)))
    where
      by : (u : ℕ → Bool) (b : Bool)
          → end (play (reduced_quantifier side) rest (λ w before. after_value e g w (b ∷ before)) u (literal_of v b ∷ s))
      by u true = wins u
      by u false = wins_too u

  my_move_back : q ≡ reduced_quantifier side → HasStrategy side ((q, v) ∷ rest) end s
      → HasStrategy side rest end (positive v ∷ s) ⊎ HasStrategy side rest end (negative v ∷ s)
  my_move_back mine (e, wins) = by (e v []) (λ u. rw (mine_is side q mine).0 at wins u)
    where
      by : (b : Bool) → ((u : ℕ → Bool) → end (play (reduced_quantifier side) rest e u (literal_of v b ∷ s)))
          → HasStrategy side rest end (positive v ∷ s) ⊎ HasStrategy side rest end (negative v ∷ s)
      by true w = inl (e, w)
      by false w = inr (e, w)

  their_move_back : q ≡ deciding_quantifier side → HasStrategy side ((q, v) ∷ rest) end s → (b : Bool)
      → HasStrategy side rest end (literal_of v b ∷ s)
  their_move_back theirs (e, wins) b = (
    (λ w before. e w (b ∷ before)),
    λ u.
        let here = rw (theirs_is side q theirs).0 at wins (changed_at v b u) in
        subst end (ap (λ c. play (reduced_quantifier side) rest (λ w before. e w (c ∷ before)) (changed_at v b u) (literal_of v c ∷ s))
        (changed_here v b u)
        ∙ same_play (reduced_quantifier side) rest (λ w before. e w (b ∷ before)) (λ w before. e w (b ∷ before)) (changed_at v b u) u
        (literal_of v b ∷ s) (λ w h p. refl) (λ w h. changed_elsewhere v b u w (apart_from w h))) here,
  )

  -- as the player, or the opponent, moves
  one_move : Chosen side q (HasStrategy side rest end (positive v ∷ s)) (HasStrategy side rest end (negative v ∷ s))
      → HasStrategy side ((q, v) ∷ rest) end s
  one_move w = elim (who side q) [
    | inl mine ↦ elim (chosen_mine side q _ _ mine w) [ inl a ↦ my_move mine true a | inr a ↦ my_move mine false a ]
    | inr theirs ↦ (let both = chosen_theirs side q _ _ theirs w in their_move theirs both.0 both.1)
  ]

  one_move_back : HasStrategy side ((q, v) ∷ rest) end s
      → Chosen side q (HasStrategy side rest end (positive v ∷ s)) (HasStrategy side rest end (negative v ∷ s))
  one_move_back has = choose side q _ _ (λ mine. my_move_back mine has)
      (λ theirs. (their_move_back theirs has true, their_move_back theirs has false))

strategy_of_win : (side : Side) (rest : List (Quantifier × ℕ)) (end : List Literal → Type 0) (s : List Literal) → Distinct (variables rest)
    → Wins side rest end s → HasStrategy side rest end s
strategy_of_win side [] end s apart w = ((λ v before. true), λ u. w)
strategy_of_win side ((q, v) ∷ rest) end s apart w = one_move side q v rest end s apart (chosen_on side q _ _ _ _
    (strategy_of_win side rest end (positive v ∷ s) apart.1) (strategy_of_win side rest end (negative v ∷ s) apart.1) w)

win_of_strategy : (side : Side) (rest : List (Quantifier × ℕ)) (end : List Literal → Type 0) (s : List Literal) → Distinct (variables rest)
    → HasStrategy side rest end s → Wins side rest end s
win_of_strategy side [] end s apart (e, wins) = wins (λ v. true)
win_of_strategy side ((q, v) ∷ rest) end s apart has = chosen_on side q _ _ _ _
    (win_of_strategy side rest end (positive v ∷ s) apart.1) (win_of_strategy side rest end (negative v ∷ s) apart.1)
    (one_move_back side q v rest end s apart has)

pub truth_is_won : TruthIsWon
truth_is_won f closed =
    let apart = apart_of (variables (pairs f.blocks)) closed.distinct in (
      (λ is. strategy_of_win Cubes (pairs f.blocks) (MatrixHolds f.clauses) [] apart (won Cubes f closed is)),
      (λ has. true_if_won (pairs f.blocks) (MatrixHolds f.clauses) []
          (win_of_strategy Cubes (pairs f.blocks) (MatrixHolds f.clauses) [] apart has)),
    )

pub falsity_is_won : FalsityIsWon
falsity_is_won f closed =
    let apart = apart_of (variables (pairs f.blocks)) closed.distinct in
    let fails : List Literal → Type 0 = λ t. MatrixHolds f.clauses t → ⊥ in (
      (λ not_true. strategy_of_win Clauses (pairs f.blocks) fails [] apart
          (wins_weaker Clauses (pairs f.blocks) [] (Falsified f.clauses) fails
          (λ t below no holds. not_both f.clauses t (leaf_is_clean f.blocks t apart below) holds no) (won Clauses f closed not_true))),
      (λ has is. false_if_won (pairs f.blocks) (MatrixHolds f.clauses) fails [] (λ t below holds no. no holds)
          (win_of_strategy Clauses (pairs f.blocks) fails [] apart has) is),
    )
