-- The values of literals, by the literals that are set to true.
use Rattle.gate_clauses.proofs.Cited.{◌≡◌, Bool, true, false, cond, not, List, [], ◌∷◌, ◌⊎◌, ◌∙◌, inl, inr, refl, sym, ap, subst}
use Rattle.gate_clauses.proofs.Cited.{cases_Bool, Literal, positive, negative, negated, ◌∈◌, ◌⊆◌, IsClean}
use Rattle.gate_clauses.proofs.Cited.{Gate, And, Or, Xor, Ite, inputs_of, are_set, gate_value, is_set}
use Rattle.gate_clauses.proofs.SetTests.{all_is, any_is, any_set}
use Rattle.qbf_core.proofs.Members.{lit_is}
use Rattle.qbf_completeness.proofs.Setting.{in_set, set_in}

pub out_set : (l : Literal) (s : List Literal) → (l ∈ s → ⊥) → is_set l s ≡ false
out_set l s out = elim (cases_Bool (is_set l s)) [ inl t ↦ absurd (out (set_in l s t)) | inr f ↦ f ]

-- the literal or its negation is set
abbrev pub IsEither : List Literal → Literal → Type 0
IsEither s l = (l ∈ s) ⊎ (negated l ∈ s)

-- and then the negation has the other value
pub negated_value : (s : List Literal) (l : Literal) → IsClean s → IsEither s l → is_set (negated l) s ≡ not (is_set l s)
negated_value s l clean (inl h) = out_set (negated l) s (λ k. clean l h k) ∙ ap not (sym (in_set l s h))
negated_value s l clean (inr k) = in_set (negated l) s k ∙ ap not (sym (out_set l s (λ h. clean l h k)))

-- more literals leave its value
pub kept_value : (s u : List Literal) (l : Literal) → s ⊆ u → IsClean u → IsEither s l → is_set l u ≡ is_set l s
kept_value s u l within clean (inl h) = in_set l u (within l h) ∙ sym (in_set l s h)
kept_value s u l within clean (inr k) =
    out_set l u (λ h. clean l h (within (negated l) k)) ∙ sym (out_set l s (λ h. clean l (within l h) (within (negated l) k)))

pub kept_either : (s u : List Literal) (l : Literal) → s ⊆ u → IsEither s l → IsEither u l
kept_either s u l within (inl h) = inl (within l h)
kept_either s u l within (inr k) = inr (within (negated l) k)

-- a literal of a variable that is set
pub either_of : (s : List Literal) (l : Literal) → (positive l.var ∈ s) ⊎ (negative l.var ∈ s) → IsEither s l
either_of s l h = elim (lit_is l l.var refl) [
  | inl is ↦ subst (λ (x : Literal). IsEither s x) (sym is) h
  | inr is ↦ subst (λ (x : Literal). IsEither s x) (sym is) (elim h [ inl p ↦ inr p | inr n ↦ inl n ])
]

-- a gate whose inputs have the same values
same_all : (ls s u : List Literal) → ((l : Literal) → l ∈ ls → is_set l u ≡ is_set l s) → are_set ls u ≡ are_set ls s
same_all [] s u same = refl
same_all (l ∷ ls) s u same =
    ap (λ (b : Bool). cond b (are_set ls u) false) (same l (inl refl))
    ∙ ap (λ (b : Bool). cond (is_set l s) b false) (same_all ls s u (λ m h. same m (inr h)))

same_any : (ls s u : List Literal) → ((l : Literal) → l ∈ ls → is_set l u ≡ is_set l s) → any_set ls u ≡ any_set ls s
same_any [] s u same = refl
same_any (l ∷ ls) s u same =
    ap (λ (b : Bool). cond b true (any_set ls u)) (same l (inl refl))
    ∙ ap (λ (b : Bool). cond (is_set l s) true b) (same_any ls s u (λ m h. same m (inr h)))

pub same_gate : (g : Gate) (s u : List Literal) → ((l : Literal) → l ∈ inputs_of g → is_set l u ≡ is_set l s)
    → gate_value g u ≡ gate_value g s
same_gate (And ls) s u same = all_is ls u ∙ (same_all ls s u same ∙ sym (all_is ls s))
same_gate (Or ls) s u same = any_is ls u ∙ (same_any ls s u same ∙ sym (any_is ls s))
same_gate (Xor a b) s u same = rw (same a (inl refl), same b (inr (inl refl))) refl
same_gate (Ite a b c) s u same = rw (same a (inl refl), same b (inr (inl refl)), same c (inr (inr (inl refl)))) refl
