-- The first condition that fails: one at most, and none if all hold.
use Rattle.qrp_rules.proofs.Cited.{rules, ◌≡◌, List, [], ◌∷◌, Option, inl, inr, sym, ◌∙◌, Condition, AllHold, IsFaultOf, IsFirstFailure}

pub no_fault : {Fault : Type 0} (rows : List (Condition Fault)) (fault : Fault) → AllHold rows → IsFirstFailure rows fault → ⊥
no_fault [] fault all fails = fails
no_fault ((name, holds) ∷ rows) fault all (inl (out, is)) = out all.0
no_fault ((name, holds) ∷ rows) fault all (inr (h, later)) = no_fault rows fault all.1 later

pub one_fault : {Fault : Type 0} (rows : List (Condition Fault)) (a b : Fault) → IsFirstFailure rows a → IsFirstFailure rows b → a ≡ b
one_fault [] a b fails other = absurd fails
one_fault ((name, holds) ∷ rows) a b (inl (out, is)) (inl (_, also)) = is ∙ sym also
one_fault ((name, holds) ∷ rows) a b (inr (h, later)) (inr (_, other)) = one_fault rows a b later other
one_fault ((name, holds) ∷ rows) a b (inl (out, is)) (inr (h, other)) = absurd (out h)
one_fault ((name, holds) ∷ rows) a b (inr (h, later)) (inl (out, is)) = absurd (out h)

-- one more condition in front, which holds
pub answer_after : {Fault : Type 0} (name : Fault) (holds : Type 0) (rows : List (Condition Fault)) (answer : Option Fault) → holds
    → IsFaultOf rows answer → IsFaultOf ((name, holds) ∷ rows) answer
answer_after name holds rows answer h all = search rules
