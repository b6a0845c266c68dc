-- Decisions are a strategy: the value of each variable is a function of the values of the other's variables before it.
use Rattle.qbf_core.proofs.Cited.{◌≡◌, ℕ, Bool, true, false, cond, eqb, List, [], ◌∷◌, inl, inr, refl, ap, ◌∙◌, subst}
use Rattle.qbf_core.proofs.Cited.{Literal, ◌∈◌, is_quantifier, variables}
use Rattle.qbf_core.specs.declared.quantifier.Quantifier.{Quantifier}
use Rattle.std.proofs.Common.{eq-eqb, ne_eqb}
use Rattle.qbf_core.proofs.Bound.{apart_of, Distinct}
use Rattle.qbf_completeness.specs.Strategies.{Strategy, play, literal_of}
use Rattle.qbf_strategy.specs.Decisions.{Decision, decided, play_by}
use Rattle.qbf_strategy.specs.Laws.{DecisionsAreAStrategy}

-- the same moves give the same end
same_play : (mine : Quantifier) (rest : List (Quantifier × ℕ)) (e g : Strategy) (u : ℕ → Bool) (s : List Literal)
    → ((w : ℕ) → w ∈ variables rest → (before : List Bool) → e w before ≡ g w before)
    → play mine rest e u s ≡ play mine rest g u s
same_play mine [] e g u s moves = refl
same_play mine ((q, v) ∷ rest) e g u s moves = by (is_quantifier q mine)
    (same_play mine rest e g u (literal_of v (g v []) ∷ s) (λ w k p. moves w (inr k) p))
    (same_play mine rest (λ w p. e w (u v ∷ p)) (λ w p. g w (u v ∷ p)) u (literal_of v (u v) ∷ s) (λ w k p. moves w (inr k) (u v ∷ p)))
  where
    by : (t : Bool)
        → play mine rest e u (literal_of v (g v []) ∷ s) ≡ play mine rest g u (literal_of v (g v []) ∷ s)
        → play mine rest (λ w p. e w (u v ∷ p)) u (literal_of v (u v) ∷ s)
        ≡ play mine rest (λ w p. g w (u v ∷ p)) u (literal_of v (u v) ∷ s)
        → cond t (play mine rest e u (literal_of v (e v []) ∷ s)) (play mine rest (λ w p. e w (u v ∷ p)) u (literal_of v (u v) ∷ s))
        ≡ cond t (play mine rest g u (literal_of v (g v []) ∷ s)) (play mine rest (λ w p. g w (u v ∷ p)) u (literal_of v (u v) ∷ s))
    by true one other = ap (λ b. play mine rest e u (literal_of v b ∷ s)) (moves v (inl refl) []) ∙ one
    by false one other = other

abbrev first_value : List Bool → Bool
first_value [] = false
first_value (b ∷ bs) = b

abbrev later_values : List Bool → List Bool
later_values [] = []
later_values (b ∷ bs) = bs

-- the value of w by the decisions, from a place of the game on, where the other's variables get these values
abbrev moves : Quantifier → List (Quantifier × ℕ) → (otherwise : ℕ → Bool) → List Decision → List Literal → Strategy
moves mine [] otherwise ds s w before = false
moves mine ((q, v) ∷ rest) otherwise ds s w before =
    cond (is_quantifier q mine)
    (cond (eqb w v) (decided (otherwise v) ds v s)
    (moves mine rest otherwise ds (literal_of v (decided (otherwise v) ds v s) ∷ s) w before))
    (moves mine rest otherwise ds (literal_of v (first_value before) ∷ s) w (later_values before))

module _ (mine : Quantifier) (otherwise : ℕ → Bool) (ds : List Decision) (values : ℕ → Bool) where
  step_played : (c : Bool) (v : ℕ) (rest : List (Quantifier × ℕ)) (s : List Literal) → (v ∈ variables rest → ⊥)
      → ((x : Literal) → play mine rest (moves mine rest otherwise ds (x ∷ s)) values (x ∷ s)
      ≡ play_by mine rest otherwise ds values (x ∷ s))
      → (m : Strategy)
      → ((w : ℕ) (before : List Bool) → m w before ≡ cond c
      (cond (eqb w v) (decided (otherwise v) ds v s)
      (moves mine rest otherwise ds (literal_of v (decided (otherwise v) ds v s) ∷ s) w before))
      (moves mine rest otherwise ds (literal_of v (first_value before) ∷ s) w (later_values before)))
      → cond c (play mine rest m values (literal_of v (m v []) ∷ s))
      (play mine rest (λ w before. m w (values v ∷ before)) values (literal_of v (values v) ∷ s))
      ≡ play_by mine rest otherwise ds values (literal_of v (cond c (decided (otherwise v) ds v s) (values v)) ∷ s)
  step_played true v rest s apart each m is =
      let here : m v [] ≡ decided (otherwise v) ds v s = is v [] ∙ (rw (eq-eqb v v refl) refl) in
      ap (λ b. play mine rest m values (literal_of v b ∷ s)) here
      ∙ (same_play mine rest m (moves mine rest otherwise ds (literal_of v (decided (otherwise v) ds v s) ∷ s)) values
      (literal_of v (decided (otherwise v) ds v s) ∷ s)
      (λ w h before. is w before ∙ (rw (ne_eqb w v (λ e. apart (subst (λ n. n ∈ variables rest) e h))) refl))
      ∙ each (literal_of v (decided (otherwise v) ds v s)))
  step_played false v rest s apart each m is =
      same_play mine rest (λ w before. m w (values v ∷ before)) (moves mine rest otherwise ds (literal_of v (values v) ∷ s)) values
      (literal_of v (values v) ∷ s) (λ w h before. is w (values v ∷ before))
      ∙ each (literal_of v (values v))

  as_played : (rest : List (Quantifier × ℕ)) (s : List Literal) → Distinct (variables rest)
      → play mine rest (moves mine rest otherwise ds s) values s ≡ play_by mine rest otherwise ds values s
  as_played [] s apart = refl
  as_played ((q, v) ∷ rest) s apart =
      step_played (is_quantifier q mine) v rest s apart.0 (λ x. as_played rest (x ∷ s) apart.1) (moves mine ((q, v) ∷ rest) otherwise ds s)
      (λ w before. refl)

pub decisions_are_a_strategy : DecisionsAreAStrategy
decisions_are_a_strategy mine ps otherwise ds distinct =
    (moves mine ps otherwise ds [], λ values. as_played mine otherwise ds values ps [] (apart_of (variables ps) distinct))
