-- Steps in flat buffers.
use Rattle.std.proofs.Common.{◌≡◌, ◌<◌, ◌≤◌, ◌^◌, ◌∙◌, ℕ, suc, List, [], ◌∷◌, ◌++◌, length, slice_get, Some, arith, ap, refl, subst, sym}
use Rattle.std.proofs.lemmas.Grind.{common_steps}
use Rattle.std.proofs.lemmas.List.{length-append, length-map, map-append}
use Rattle.std.specs.List.{AllByRecursion}
use Rattle.qbf_core.specs.Literal.{Literal}
use Rattle.step_index.specs.Numbers.{AreStepNumbers}
use Rattle.trace_items.specs.Antecedents.{list_of_pair}
use Rattle.trace_items.specs.Flat.{kept_of, steps_of, trace_of, ClosesPart, IsFlat, Kept}
use Rattle.trace_items.specs.Inferences.{Inference, IsAt, IsInference}
use Rattle.trace_items.specs.Parts.{IsComplete}
use Rattle.trace_items.specs.StepLists.{with_lists, ListsOfSteps}
use Rattle.trace_items.specs.declared.parts.Part.TheVariants as part
use Rattle.trace_items.specs.declared.parts.Parts.{Parts}

-- the parts of the step at a position
pub numbered_at : (ns : List ℕ) (lits : List (List Literal)) (ants : List (List ℕ)) (i : ℕ) (s : Inference)
    → IsAt (steps_of ns lits ants) i s → (slice_get lits i ≡ Some s.lits) × (slice_get ants i ≡ Some s.ants)
numbered_at (n ∷ ns) (l ∷ lits) (a ∷ ants) (suc i) s h = numbered_at ns lits ants i s h
numbered_at ns lits ants i s h = grind (arith, common_steps)

-- a step in flat buffers has few antecedents
pub few_at : (ns : List ℕ) (lits : List (List Literal)) (ants : List (List ℕ)) (i : ℕ) (a : List ℕ) → length lits ≡ length ns
    → length ants ≡ length ns → AllByRecursion IsInference (steps_of ns lits ants) → slice_get ants i ≡ Some a → length a ≤ 2
few_at (n ∷ ns) (l ∷ lits) (b ∷ ants) (suc i) a e f all h = few_at ns lits ants i a (omega (arith, e)) (omega (arith, f)) all.1 h
few_at ns lits ants i a e f all h = grind (arith, common_steps)

-- ---- one more step

pub numbered_more : (ns : List ℕ) (lits : List (List Literal)) (ants : List (List ℕ)) (s : Inference) → length lits ≡ length ns
    → length ants ≡ length ns
    → steps_of (ns ++ s.number ∷ []) (lits ++ s.lits ∷ []) (ants ++ s.ants ∷ []) ≡ steps_of ns lits ants ++ s ∷ []
numbered_more (n ∷ ns) (l ∷ lits) (a ∷ ants) s e f =
    grind (arith, common_steps, numbered_more ns lits ants s (omega (arith, e)) (omega (arith, f)))
numbered_more ns lits ants s e f = grind (arith, common_steps)

pub flat_pushed : (k : Kept) (s : Inference) → IsFlat k → AreStepNumbers (k.numbers ++ s.number ∷ []) → IsInference s
    → AllByRecursion (λ n. n < 2 ^ 64) s.ants → IsFlat (record k {
      numbers = k.numbers ++ s.number ∷ [];
      lits = k.lits ++ s.lits ∷ [];
      ants = k.ants ++ s.ants ∷ [];
    })
flat_pushed k s f are is fit = grind (arith, common_steps, numbered_more, map-append, length-map, length-append)

-- a step is put after the others
pub step_closes : {A : Type 0} (lists : A → ListsOfSteps) (p : Parts A) (s : A) (n : ℕ) → IsFlat (kept_of lists p)
    → lists s ≡ with_lists (lists p.steps) p.lists.lits.unfinished p.lists.ants
    → AreStepNumbers (p.lists.index ++ n ∷ []) → IsComplete (part.Step n) p.lists
    → ClosesPart lists p (record p { lists = record p.lists { index = p.lists.index ++ n ∷ [] }; steps = s }) (part.Step n)
step_closes lists p s n made added are complete =
    let step : Inference = record { number = n; lits = p.lists.lits.unfinished; ants = list_of_pair p.lists.ants } in
    let kept : ListsOfSteps → Kept = λ k. record (kept_of lists p) { numbers = p.lists.index ++ n ∷ []; lits = k.lits; ants = k.ants } in
    record {
      made = ap (λ (k : ListsOfSteps). trace_of (kept k)) added ∙ ap (λ (xs : List Inference). record (trace_of (kept_of lists p)) { steps = xs })
          (numbered_more p.lists.index (lists p.steps).lits (lists p.steps).ants step made.lits_counted made.ants_counted);
      numbers = refl;
      flat = subst (λ (k : ListsOfSteps). IsFlat (kept k)) (sym added) (flat_pushed (kept_of lists p) step made are
          (record { number = complete.0.0; lits = complete.1; ants = complete.2.numbers; few = complete.2.few }) complete.2.fit);
    }
