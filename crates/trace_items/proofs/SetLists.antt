-- Quantifier sets in a flat buffer.
use Rattle.std.proofs.Common.{ap, arith, length, slice_get, suc, List, Some, [], ℕ, ◌++◌, ◌+◌, ◌∙◌, ◌∷◌, ◌≡◌}
use Rattle.std.specs.Prelude.{take}
use Rattle.std.proofs.lemmas.Grind.{common_steps}
use Rattle.std.proofs.lemmas.List.{take_more}
use Rattle.std.proofs.lemmas.Option.{slice_get_within, get_or_from_slice_get}
use Rattle.qbf_core.specs.Blocks.{Block}
use Rattle.qbf_core.specs.declared.quantifier.Quantifier.{Quantifier}
use Rattle.trace_items.specs.SetLists.{sets_of}

-- there are as many sets as quantifiers
pub sets_count : (qs : List Quantifier) (vars : List (List ℕ)) → length vars ≡ length qs → length (sets_of qs vars) ≡ length qs
sets_count (q ∷ qs) (vs ∷ vars) e = grind (arith, common_steps, sets_count qs vars (omega (arith, e)))
sets_count qs vars e = grind (arith, common_steps)

-- the set at a place has the quantifier and the variables at that place
pub sets_at : (qs : List Quantifier) (vars : List (List ℕ)) (i : ℕ) (q : Quantifier) (vs : List ℕ) → slice_get qs i ≡ Some q
    → slice_get vars i ≡ Some vs → slice_get (sets_of qs vars) i ≡ Some (record { quantifier = q; vars = vs })
sets_at (r ∷ qs) (ws ∷ vars) (suc i) q vs here there = sets_at qs vars i q vs here there
sets_at qs vars i q vs here there = grind (arith, common_steps)

-- one more set
pub sets_more : (qs : List Quantifier) (vars : List (List ℕ)) (q : Quantifier) (vs : List ℕ) → length vars ≡ length qs
    → sets_of (qs ++ q ∷ []) (vars ++ vs ∷ []) ≡ sets_of qs vars ++ record { quantifier = q; vars = vs } ∷ []
sets_more (r ∷ qs) (ws ∷ vars) q vs e = grind (arith, common_steps, sets_more qs vars q vs (omega (arith, e)))
sets_more qs vars q vs e = grind (arith, common_steps)

-- the sets up to the next one
pub taken_next : (sets : List Block) (i : ℕ) (s : Block) → slice_get sets i ≡ Some s → take (i + 1) sets ≡ take i sets ++ s ∷ []
taken_next sets i s at = take_more sets i s (slice_get_within sets i s at)
    ∙ ap (λ (next : Block). take i sets ++ next ∷ []) (get_or_from_slice_get sets i s s at)
