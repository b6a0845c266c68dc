-- The conditions of a step with two antecedents that clash in one variable.
use Rattle.qrp_rules.proofs.Cited.{◌≡◌, ℕ, List, [], ◌∷◌, Option, refl, sym, subst, ◌∙◌, Literal, ◌⊆◌, Block, Side, Clashes, IsOnlyClash}
use Rattle.qrp_rules.proofs.Cited.{resolvent, Rules, RuleFault, S10, S11, S12, Condition, AllowsPivot, IsFaultOf, resolvent_conditions}
use Rattle.qrp_rules.proofs.Cited.{Accounts}
use Rattle.qrp_rules.specs.declared.fault.RuleFault.TheVariants.{S8, S9}
use Rattle.qrp_rules.proofs.FirstFailures.{answer_after}
use Rattle.qrp_rules.proofs.MembersDecide.{same_answer}

module _ (rules : Rules) (side : Side) (blocks : List Block) (a b to : List Literal) where
  -- the conditions of this pivot
  abbrev pub pivot_conditions : ℕ → List (Condition RuleFault)
  pivot_conditions x =
      (S10, AllowsPivot rules side blocks x) ∷ (S11, to ⊆ resolvent a b x) ∷ (S12, Accounts side blocks a b to x) ∷ []

  -- the conditions of each pivot
  abbrev each_conditions : List (Condition RuleFault)
  each_conditions =
      (S10, ((v : ℕ) → Clashes a b v → AllowsPivot rules side blocks v))
      ∷ (S11, ((v : ℕ) → Clashes a b v → to ⊆ resolvent a b v))
      ∷ (S12, ((v : ℕ) → Clashes a b v → Accounts side blocks a b to v))
      ∷ []

  at_each : (x : ℕ) (P : ℕ → Type 0) → IsOnlyClash a b x → P x → (v : ℕ) → Clashes a b v → P v
  at_each x P one h v p = subst P (sym (one.only v p)) h

  -- if one variable clashes, its conditions are all
  pub at_pivot : (x : ℕ) (answer : Option RuleFault) → IsOnlyClash a b x → IsFaultOf (pivot_conditions x) answer
      → IsFaultOf (resolvent_conditions rules side blocks a b to) answer
  at_pivot x answer one is =
      answer_after S8 ((v : ℕ) × Clashes a b v) ((S9, ((u v : ℕ) → Clashes a b u → Clashes a b v → u ≡ v)) ∷ each_conditions) answer
      (x, one.clashes)
      (answer_after S9 ((u v : ℕ) → Clashes a b u → Clashes a b v → u ≡ v) each_conditions answer
      (λ u v p q. one.only u p ∙ sym (one.only v q))
      (same_answer (pivot_conditions x) each_conditions answer (
        refl,
        at_each x (AllowsPivot rules side blocks) one,
        (
          refl,
          at_each x (λ v. to ⊆ resolvent a b v) one,
          (refl, at_each x (Accounts side blocks a b to) one, tt),
        ),
      )
      (refl, (λ h. h x one.clashes), (refl, (λ h. h x one.clashes), (refl, (λ h. h x one.clashes), tt))) is))
