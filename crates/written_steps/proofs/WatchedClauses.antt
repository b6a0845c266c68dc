-- Clauses that are watched, while lists are written to, added and taken out.
use Rattle.qbf_core.specs.declared.quantifier.Quantifier.TheVariants.{All}
use Rattle.written_steps.specs.Accepted.{IsAcceptedBy}
use Rattle.qrp_rules.proofs.Cited.{◌⊎◌, ◌≡◌, ◌<◌, ◌+◌, ◌-◌, ℕ, zero, suc, List, [], ◌∷◌, ◌++◌, length, get_or, slice_get}
use Rattle.written_steps.proofs.Cited.{IsAcceptedIf, Has, IsMet, IsWatchedBy, Members, Watch}
use Rattle.qrp_rules.proofs.Cited.{Some, Contains, Bool, true, false, refl, sym, ap, subst, ◌∙◌, inl, inr, arith, take, rules, set}
use Rattle.qrp_rules.proofs.Cited.{cases_eq, length-set, slice_get_within, get_or_from_slice_get, Literal, ◌∈◌, Qbf, Side, Cubes}
use Rattle.qrp_rules.proofs.Cited.{IsInitial, IsTautology, reduced_quantifier, Exists, initial_condition}
use Rattle.qrp_rules.proofs.Cited.{in_got, Contains-push, Result, Ok, Err}
use Rattle.std.proofs.Common.{◌≢◌}
use Rattle.std.specs.Prelude.{⊤, IfOk, IsTrue, OnOk, OnErr}
use Rattle.std.specs.List.{swap_remove}
use Rattle.std.proofs.lemmas.List.{length_push}
use Rattle.written_steps.specs.Watches.{IsTakenOut, IsWatchedIf, KeepsWatches}
use Rattle.lists.proofs.PushedItems.{pushed_new, pushed_old, written_here, written_elsewhere}
use Rattle.std.proofs.lemmas.List.Elements.{Contains-push_cases}

-- the list that is read at the position of a literal's list is that list
pub list_here : (lists : List Watch) (k : ℕ) (w now : Watch) (l : Literal) → slice_get lists k ≡ Some w → w.lit ≡ l
    → now ≡ get_or lists k now → (slice_get lists k ≡ Some now) × (now.lit ≡ l)
list_here lists k w now l at lit is = search (rules, get_or_from_slice_get)

-- a list is written over by one of the same literal that has its clauses too
pub written_keeps : (lists : List Watch) (k : ℕ) (was new : Watch) → slice_get lists k ≡ Some was → new.lit ≡ was.lit
    → ((i : ℕ) → Contains was.clauses.items i → Contains new.clauses.items i) → KeepsWatches lists (set lists k new)
written_keeps lists k was new at lit kept = record {
  watched = λ j l i w. elim (cases_eq j k) [
    | inl e ↦
        let both : Some was ≡ Some w.watch = sym at ∙ subst (λ (n : ℕ). slice_get lists n ≡ Some w.watch) e w.here in
        let same : was ≡ w.watch = cc both in
        subst (λ (n : ℕ). IsWatchedBy (set lists k new) n l i) (sym e) (record {
          watch = new;
          here = written_here lists k new (slice_get_within lists k was at);
          by = lit ∙ ap (λ (z : Watch). z.lit) same ∙ w.by;
          listed = kept i (subst (λ (z : Watch). Contains z.clauses.items i) (sym same) w.listed);
        })
    | inr ne ↦ record { watch = w.watch; here = written_elsewhere lists k j new ne ∙ w.here; by = w.by; listed = w.listed }
  ];
  longer = let same : length (set lists k new) ≡ length lists = length-set lists k new in omega arith;
}

-- a clause that the new list has is watched by its literal
pub written_watches : (lists : List Watch) (k : ℕ) (was new : Watch) (l : Literal) (i : ℕ) → slice_get lists k ≡ Some was → new.lit ≡ l
    → Contains new.clauses.items i → (j : ℕ) × IsWatchedBy (set lists k new) j l i
written_watches lists k was new l i at lit listed =
    (k, record { watch = new; here = written_here lists k new (slice_get_within lists k was at); by = lit; listed = listed })

-- a list is added, or none
pub pushed_or_not : {E : Type 0} (r : Result ⊤ E) (old lists : List Watch) (new : Watch) → OnOk r (lists ≡ old ++ new ∷ [])
    → OnErr r (lists ≡ old) → KeepsWatches old lists
pushed_or_not (Ok u) old lists new ok err = subst (λ (ws : List Watch). KeepsWatches old ws) (sym ok) (record {
  watched = λ k l i w. record { watch = w.watch; here = pushed_old old new k w.watch w.here; by = w.by; listed = w.listed };
  longer = let e : length (old ++ new ∷ []) ≡ length old + 1 = length_push old new in omega arith;
})
pushed_or_not (Err e) old lists new ok err = search rules

pub added_watches : (lists : List Watch) (new : Watch) (l : Literal) (i : ℕ) → new.lit ≡ l → Contains new.clauses.items i
    → (k : ℕ) × IsWatchedBy (lists ++ new ∷ []) k l i
added_watches lists new l i lit listed = (length lists, record { watch = new; here = pushed_new lists new; by = lit; listed = listed })

pub last_one : (i : ℕ) (xs ys : List ℕ) → ys ≡ xs ++ i ∷ [] → Contains ys i
last_one i xs ys e = subst (λ (zs : List ℕ). Contains zs i) (sym e) (Contains-push xs i)

taken_front : {A : Type 0} (xs : List A) (m k : ℕ) → k < m → slice_get (take m xs) k ≡ slice_get xs k
taken_front xs zero k less = absurd (omega arith)
taken_front (x ∷ xs) (suc m) (suc k) less = taken_front xs m k (omega arith)
taken_front xs (suc m) k less = refl

-- an item is taken out, and the last one comes in its place: another item comes before that place only from before it
swapped : {A : Type 0} (xs : List A) (n k : ℕ) (d a : A) → n < length xs → slice_get xs k ≡ Some a → k ≢ n
    → (j : ℕ) × (slice_get (swap_remove xs n d) j ≡ Some a) × (k < suc n → j < n)
swapped {A} xs n k d a inside at ne =
    let last : A = get_or xs (length xs - 1) d in
    let within : k < length xs = slice_get_within xs k a at in
    elim (cases_eq k (length xs - 1)) [
      | inl e ↦ (
        n,
        taken_front (set xs n last) (length xs - 1) n (omega (arith, e, ne, inside, within))
            ∙ written_here xs n last inside
            ∙ ap Some (get_or_from_slice_get xs (length xs - 1) a d (subst (λ (m : ℕ). slice_get xs m ≡ Some a) e at)),
        (λ less. absurd (omega (arith, e, ne, inside, within, less))),
      )
      | inr other ↦ (
        k,
        taken_front (set xs n last) (length xs - 1) k (omega (arith, other, within)) ∙ written_elsewhere xs n k last ne ∙ at,
        (λ less. omega (arith, less, ne)),
      )
    ]

pub taken_out : (lists new : List Watch) (n : ℕ) (watch : Watch) → n < length lists → watch ≡ get_or lists n watch
    → new ≡ swap_remove lists n watch → IsTakenOut lists n watch.clauses.items new
taken_out lists new n watch inside is items k l i w = elim (cases_eq k n) [
  | inl e ↦
      let same : watch ≡ w.watch = is ∙ get_or_from_slice_get lists n w.watch watch (subst (λ (m : ℕ). slice_get lists m ≡ Some w.watch) e w.here) in
      inl (subst (λ (z : Watch). Contains z.clauses.items i) (sym same) w.listed)
  | inr ne ↦
      let s = swapped lists n k watch w.watch inside w.here ne in
      inr (
        s.0,
        record { watch = w.watch; here = subst (λ (ws : List Watch). slice_get ws s.0 ≡ Some w.watch) (sym items) s.1; by = w.by; listed = w.listed },
        s.2,
      )
]

pub met_keeps : (n : ℕ) (f : Qbf) (seen : Members) (old new : List Watch) (i : ℕ) → KeepsWatches old new → IsMet n f seen old i
    → IsMet n f seen new i
met_keeps n f seen old new i kept met = λ clause at. elim (met clause at) [
  | inl t ↦ inl t
  | inr w ↦ inr (w.0, w.1, w.2, kept.watched w.2 w.0 i w.3, w.4)
]

-- a clause is met if one of its literals watches it and was seen
pub met_by : (f : Qbf) (seen : Members) (lists : List Watch) (i : ℕ) (clause : List Literal) (l : Literal) → slice_get f.clauses i ≡ Some clause
    → l ∈ clause → Has seen l → (k : ℕ) × IsWatchedBy lists k l i → IsMet 0 f seen lists i
met_by f seen lists i clause l at held has by = search rules

-- one more clause of the formula is looked at
pub met_next : (f : Qbf) (seen : Members) (old new : List Watch) (n : ℕ) → KeepsWatches old new → IsMet 0 f seen new n
    → ((i : ℕ) → i < n → IsMet 0 f seen old i) → (i : ℕ)
    → i < n + 1 → IsMet 0 f seen new i
met_next f seen old new n kept here before i less = elim (cases_eq i n) [
  | inl e ↦ subst (λ (j : ℕ). IsMet 0 f seen new j) (sym e) here
  | inr ne ↦ met_keeps 0 f seen old new i kept (before i (omega (arith, less, ne)))
]

-- the clause at position i, if there is one, is still to be watched, or is met
abbrev pub IsPending : ℕ → Qbf → Members → List ℕ → List Watch → ℕ → Type 0
IsPending n f seen left lists i =
    (clause : List Literal) → slice_get f.clauses i ≡ Some clause
    → Contains left i ⊎ (IsTautology clause ⊎ ((l : Literal) × (l ∈ clause) × (k : ℕ) × IsWatchedBy lists k l i × ((k < n) ⊎ Has seen l)))

-- a list was taken out
pub pending_taken : (n : ℕ) (f : Qbf) (seen : Members) (old new : List Watch) (taken : List ℕ) → IsTakenOut old n taken new → (i : ℕ)
    → IsMet (n + 1) f seen old i → IsPending n f seen taken new i
pending_taken n f seen old new taken out i was = λ clause at. elim (was clause at) [
  | inl t ↦ inr (inl t)
  | inr w ↦ elim (out w.2 w.0 i w.3) [
    | inl h ↦ inl h
    | inr j ↦ inr (inr (w.0, w.1, j.0, j.1, elim w.4 [ inl less ↦ inl (j.2 (omega (arith, less))) | inr has ↦ inr has ]))
  ]
]

-- one clause of it is met
pub pending_met : (n : ℕ) (f : Qbf) (seen : Members) (left rest : List ℕ) (last : ℕ) (old new : List Watch) → left ≡ rest ++ last ∷ []
    → KeepsWatches old new → IsMet 0 f seen new last → (i : ℕ) → IsPending n f seen left old i → IsPending n f seen rest new i
pending_met n f seen left rest last old new split kept met i was = λ clause at. elim (was clause at) [
  | inl h ↦ elim (Contains-push_cases rest last i (subst (λ (xs : List ℕ). Contains xs i) split h)) [
    | inl older ↦ inl older
    | inr e ↦ search rules
  ]
  | inr (inl t) ↦ inr (inl t)
  | inr (inr w) ↦ inr (inr (w.0, w.1, w.2, kept.watched w.2 w.0 i w.3, w.4))
]

-- if each clause is met, the cube of which the literals were seen is an initial one
pub all_met : (f : Qbf) (cube : List Literal) (seen : Members) (lists : List Watch) → ((l : Literal) → Has seen l → l ∈ cube)
    → ((i : ℕ) → IsMet 0 f seen lists i) → IsInitial Cubes f cube
all_met f cube seen lists within met = search (rules, in_got)

-- and each is watched
pub all_watched : (f : Qbf) (seen : Members) (lists : List Watch) (t : Bool) → (IsTrue t → (i : ℕ) → IsMet 0 f seen lists i) → IsWatchedIf t f lists
all_watched f seen lists true met = λ i clause at. elim (met refl i clause at) [ inl t ↦ inl t | inr w ↦ inr (w.0, w.1, w.2, w.3) ]
all_watched f seen lists false met = tt

-- an initial clause or cube is an initial step of the side that reduces its quantifier
pub accepted_clause : {E : Type 0} (side : Side) (f : Qbf) (lits : List Literal) (r : Result Bool E) → reduced_quantifier side ≡ All
    → IfOk r (IsAcceptedIf f lits) → IfOk r (IsAcceptedBy (initial_condition side f lits ∷ []) f.blocks lits)
accepted_clause side f lits r e h = search rules

pub accepted_cube : {E : Type 0} (side : Side) (f : Qbf) (lits : List Literal) (r : Result Bool E) → reduced_quantifier side ≡ Exists
    → IfOk r (IsAcceptedBy (initial_condition Cubes f lits ∷ []) f.blocks lits)
    → IfOk r (IsAcceptedBy (initial_condition side f lits ∷ []) f.blocks lits)
accepted_cube side f lits r e h = search rules

-- the list at position n is of a literal that was seen, so its clauses are met
pub seen_met : (n : ℕ) (f : Qbf) (seen : Members) (lists : List Watch) (w : Watch) → slice_get lists n ≡ Some w → Has seen w.lit
    → (i : ℕ) → IsMet (n + 1) f seen lists i → IsMet n f seen lists i
seen_met n f seen lists w at has i met = λ clause here. elim (met clause here) [
  | inl tautology ↦ inl tautology
  | inr (l, h, k, by, inr known) ↦ inr (l, h, k, by, inr known)
  | inr (l, h, k, by, inl less) ↦ inr (l, h, k, by, before l k by less)
]
  where
    before : (l : Literal) (k : ℕ) → IsWatchedBy lists k l i → k < n + 1 → (k < n) ⊎ Has seen l
    before l k by less = elim (cases_eq k n) [
      | inl e ↦
          let both : Some by.watch ≡ Some w = sym by.here ∙ subst (λ (m : ℕ). slice_get lists m ≡ Some w) (sym e) at in
          let same : by.watch ≡ w = cc both in
          inr (subst (λ (z : Literal). Has seen z) (sym (ap (λ (z : Watch). z.lit) same) ∙ by.by) has)
      | inr ne ↦ inl (omega arith)
    ]
