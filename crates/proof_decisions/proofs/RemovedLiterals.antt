-- The literals that a step keeps, and those that are removed, one after the other.
use Rattle.qrp_rules.proofs.Cited.{◌≡◌, ◌<◌, ◌≤◌, ◌+◌, ◌⊎◌, ◌↔◌, ◌++◌, ℕ, List, [], ◌∷◌, Option, Some, inl, inr, refl, sym, subst}
use Rattle.qrp_rules.proofs.Cited.{Literal, ◌∈◌, ◌⊆◌, MayOmit, TakesOut, length, take, IsReducible, Side, Block}
use Rattle.written_steps.proofs.Cited.{Has, Members}
use Rattle.qrp_rules.proofs.Cited.{get_or, in_take_all, in_take_more, take_more_in, take_within}
use Rattle.std.proofs.Common.{add-one, arith, zero, suc}
use Rattle.std.proofs.lemmas.List.{length_push}
use Rattle.qbf_core.proofs.Members.{in_push, push_in}
use Rattle.qrp_rules.specs.declared.blocks.Reducible.{Reducible}
use Rattle.std.specs.Prelude.{⊤, Err, IsOk, Ok, OnOk, Result}
use Rattle.lists.specs.Lists.{Growing}
use Rattle.proof_decisions.specs.Removing.{HasJust, IsLeft, MayLeave, Notes, Removes}

-- what holds of a result that is not an error
pub on_ok : {E P Q : Type 0} (r : Result ⊤ E) → (P → Q) → OnOk r P → OnOk r Q
on_ok (Ok _) f p = f p
on_ok (Err _) f p = tt

-- ---- what is kept

module _ {E : Type 0} (own : Reducible) (old new : Growing Literal) (x : Literal) (stays : TakesOut own x.var → ⊥) where
  abbrev IsPushed : Result ⊤ E → Type 0
  IsPushed r = OnOk r (new ≡ record old { unfinished = old.unfinished ++ x ∷ [] })

  pub kept_within : (r : Result ⊤ E) → IsPushed r
      → OnOk r ((l : Literal) → l ∈ new.unfinished → (l ∈ old.unfinished) ⊎ ((l ≡ x) × (TakesOut own x.var → ⊥)))
  kept_within (Ok _) is = λ l h. elim (in_push old.unfinished x l (subst (λ (g : Growing Literal). l ∈ g.unfinished) is h)) [
    | inl k ↦ inl k
    | inr e ↦ inr (e, stays)
  ]
  kept_within (Err _) is = tt

  pub kept_here : (r : Result ⊤ E) → IsPushed r → OnOk r ((x ∈ new.unfinished) ⊎ TakesOut own x.var)
  kept_here (Ok _) is = inl (subst (λ (g : Growing Literal). x ∈ g.unfinished) (sym is) (push_in old.unfinished x x (inr refl)))
  kept_here (Err _) is = tt

-- one more literal is taken
length_more : (lits : List Literal) (i : ℕ) → i < length lits → length (take (i + 1) lits) ≡ length (take i lits) + 1
length_more lits i less = rw (add-one) (from lits i less)
  where
    from : (lits : List Literal) (i : ℕ) → i < length lits → length (take (suc i) lits) ≡ length (take i lits) + 1
    from [] i less = absurd (omega (arith, less))
    from (x ∷ lits) zero less = omega arith
    from (x ∷ lits) (suc i) less = let rest = from lits i (omega (arith, less)) in omega (arith, rest)

-- no more are taken than there are
length_taken : (n : ℕ) (lits : List Literal) → length (take n lits) ≤ length lits
length_taken zero lits = omega arith
length_taken (suc n) [] = omega arith
length_taken (suc n) (x ∷ lits) = let rest = length_taken n lits in omega (arith, rest)

pub left_more : (own : Reducible) (lits : List Literal) (i : ℕ) (x : Literal) (old new : List Literal) → i < length lits → x ≡ get_or lits i x
    → IsLeft own (take i lits) old
    → ((l : Literal) → l ∈ new → (l ∈ old) ⊎ ((l ≡ x) × (TakesOut own x.var → ⊥)))
    → old ⊆ new → (x ∈ new) ⊎ TakesOut own x.var → length new ≤ length old + 1
    → IsLeft own (take (i + 1) lits) new
left_more own lits i x old new less is left within grows here one = record {
  within = λ l h. take_more_in lits i x l less is (elim (within l h) [ inl k ↦ inl (left.within l k) | inr e ↦ inr e.0 ]);
  stays = λ l h. elim (within l h) [
    | inl k ↦ left.stays l k
    | inr e ↦ subst (λ (z : Literal). TakesOut own z.var → ⊥) (sym e.0) e.1
  ];
  each = λ l h. elim (in_take_more lits i x l less is h) [
    | inl k ↦ elim (left.each l k) [ inl there ↦ inl (grows l there) | inr out ↦ inr out ]
    | inr e ↦ subst (λ (z : Literal). (z ∈ new) ⊎ TakesOut own z.var) (sym e) here
  ];
  few = let count = length_more lits i less in let few = left.few in omega (arith, one, count, few);
}

pub left_all : (own : Reducible) (lits : List Literal) (n : ℕ) (kept : List Literal) → length lits ≤ n → IsLeft own (take n lits) kept → IsLeft own lits kept
left_all own lits n kept all left = record {
  within = λ l h. take_within lits n l (left.within l h);
  stays = left.stays;
  each = λ l h. left.each l (in_take_all lits n l all h);
  few = let count = length_taken n lits in let few = left.few in omega (arith, count, few);
}

-- ---- a set of literals

pub put_in : {E : Type 0} (s t : Members) (x : Literal) (r : Result ⊤ E)
    → ((l : Literal) → Has t l ↔ (Has s l ⊎ ((l ≡ x) × IsOk r))) → OnOk r ((l : Literal) → Has t l ↔ (Has s l ⊎ (l ≡ x)))
put_in s t x (Ok _) put = λ l. (
  (λ h. elim ((put l).0 h) [ inl old ↦ inl old | inr e ↦ inr e.0 ]),
  (λ h. (put l).1 (elim h [ inl old ↦ inl old | inr e ↦ inr (e, refl) ])),
)
put_in s t x (Err _) put = tt

pub just_more : (lits : List Literal) (i : ℕ) (x : Literal) (s t : Members) → i < length lits → x ≡ get_or lits i x → HasJust (take i lits) s
    → ((l : Literal) → Has t l ↔ (Has s l ⊎ (l ≡ x))) → HasJust (take (i + 1) lits) t
just_more lits i x s t less is just put l = (
  (λ h. take_more_in lits i x l less is (elim ((put l).0 h) [ inl old ↦ inl ((just l).0 old) | inr e ↦ inr e ])),
  (λ h. (put l).1 (elim (in_take_more lits i x l less is h) [ inl k ↦ inl ((just l).1 k) | inr e ↦ inr e ])),
)

pub just_all : (lits : List Literal) (n : ℕ) (s : Members) → length lits ≤ n → HasJust (take n lits) s → HasJust lits s
just_all lits n s all just l = ((λ h. take_within lits n l ((just l).0 h)), (λ h. (just l).1 (in_take_all lits n l all h)))

-- what is kept is noted, and nothing is removed yet
pub notes_kept : (kept : List Literal) (s : Members) → HasJust kept s → Notes kept [] s
notes_kept kept s just l = ((λ h. inl ((just l).0 h)), (λ h. elim h [ inl k ↦ (just l).1 k | inr none ↦ absurd none ]))

-- ---- what is removed

pub removes_same : (s : Members) (removed : List Literal) (x : Literal) → Has s x → Removes s s removed removed (x ∷ []) (λ l. ⊥)
removes_same s removed x has = record {
  notes = λ kept notes. notes;
  grows = λ l h. h;
  within = λ kept notes l h. inl h;
  covers = λ kept notes l. elim [
    | inl e ↦ inr ((notes l).0 (subst (λ (z : Literal). Has s z) (sym e) has))
    | inr h ↦ absurd h
  ];
  few = omega arith;
}

module _ (s t : Members) (removed : List Literal) (x : Literal) (out : Has s x → ⊥) (put : (l : Literal) → Has t l ↔ (Has s l ⊎ (l ≡ x))) where
  pushed_notes : (kept : List Literal) → Notes kept removed s → Notes kept (removed ++ x ∷ []) t
  pushed_notes kept notes l = (
    (λ h. elim ((put l).0 h) [
      | inl old ↦ elim ((notes l).0 old) [ inl k ↦ inl k | inr r ↦ inr (push_in removed x l (inl r)) ]
      | inr e ↦ inr (push_in removed x l (inr e))
    ]),
    (λ h. (put l).1 (elim h [
      | inl k ↦ inl ((notes l).1 (inl k))
      | inr r ↦ elim (in_push removed x l r) [ inl old ↦ inl ((notes l).1 (inr old)) | inr e ↦ inr e ]
    ])),
  )

  removes_push : Removes s t removed (removed ++ x ∷ []) (x ∷ []) (λ l. ⊥)
  removes_push = record {
    notes = pushed_notes;
    grows = λ l h. push_in removed x l (inl h);
    within = λ kept notes l h. elim (in_push removed x l h) [
      | inl old ↦ inl old
      | inr e ↦ inr (inl e, (λ none. none), (λ k. out (subst (λ (z : Literal). Has s z) e ((notes l).1 (inl k)))))
    ];
    covers = λ kept notes l. elim [ inl e ↦ inr (inr (push_in removed x l (inr e))) | inr h ↦ absurd h ];
    few = let count = length_push removed x in omega (arith, count);
  }

pub removes_pushed : {E : Type 0} (s t : Members) (old new : Growing Literal) (x : Literal) (r : Result ⊤ E) → (Has s x → ⊥)
    → ((l : Literal) → Has t l ↔ (Has s l ⊎ (l ≡ x))) → OnOk r (new ≡ record old { unfinished = old.unfinished ++ x ∷ [] })
    → OnOk r (Removes s t old.unfinished new.unfinished (x ∷ []) (λ l. ⊥))
removes_pushed s t old new x (Ok _) out put is =
    subst (λ (g : Growing Literal). Removes s t old.unfinished g.unfinished (x ∷ []) (λ l. ⊥)) (sym is)
    (removes_push s t old.unfinished x out put)
removes_pushed s t old new x (Err _) out put is = tt

module _ (May : Literal → Type 0) where
  pub removes_aside : (s : Members) (removed : List Literal) (x : Literal) → May x → Removes s s removed removed (x ∷ []) May
  removes_aside s removed x may = record {
    notes = λ kept notes. notes;
    grows = λ l h. h;
    within = λ kept notes l h. inl h;
    covers = λ kept notes l. elim [ inl e ↦ inl (subst May (sym e) may) | inr h ↦ absurd h ];
    few = omega arith;
  }

  pub removes_other : (s t : Members) (old new : List Literal) (x : Literal) → (May x → ⊥) → Removes s t old new (x ∷ []) (λ l. ⊥)
      → Removes s t old new (x ∷ []) May
  removes_other s t old new x out by = record {
    notes = by.notes;
    grows = by.grows;
    within = λ kept notes l h. elim (by.within kept notes l h) [
      | inl k ↦ inl k
      | inr w ↦ inr (w.0, elim w.0 [ inl e ↦ (λ may. out (subst May e may)) | inr none ↦ absurd none ], w.2)
    ];
    covers = λ kept notes l h. elim (by.covers kept notes l h) [ inl none ↦ absurd none | inr there ↦ inr there ];
    few = by.few;
  }

  pub others_none : (s : Members) (removed : List Literal) → Removes s s removed removed [] May
  others_none s removed =
      record { notes = λ kept notes. notes; grows = λ l h. h; within = λ kept notes l h. inl h; covers = λ kept notes l h. absurd h; few = omega arith }

  module _ (lits : List Literal) where
    pub others_more : (i : ℕ) (x : Literal) → i < length lits → x ≡ get_or lits i x → (s t u : Members) (old new newer : List Literal)
        → Removes s t old new (take i lits) May → Removes t u new newer (x ∷ []) May → Removes s u old newer (take (i + 1) lits) May
    others_more i x less is s t u old new newer before one = record {
      notes = λ kept notes. one.notes kept (before.notes kept notes);
      grows = λ l h. one.grows l (before.grows l h);
      within = λ kept notes l h. elim (one.within kept (before.notes kept notes) l h) [
        | inl k ↦ elim (before.within kept notes l k) [
          | inl o ↦ inl o
          | inr w ↦ inr (take_more_in lits i x l less is (inl w.0), w.1, w.2)
        ]
        | inr w ↦ inr (take_more_in lits i x l less is (inr (elim w.0 [ inl e ↦ e | inr none ↦ absurd none ])), w.1, w.2)
      ];
      covers = λ kept notes l h. elim (in_take_more lits i x l less is h) [
        | inl k ↦ elim (before.covers kept notes l k) [
          | inl may ↦ inl may
          | inr (inl there) ↦ inr (inl there)
          | inr (inr r) ↦ inr (inr (one.grows l r))
        ]
        | inr e ↦ one.covers kept (before.notes kept notes) l (inl e)
      ];
      few = let count = length_more lits i less in let few = before.few in let more = one.few in omega (arith, count, few, more);
    }

    pub others_all : (n : ℕ) (s t : Members) (old new : List Literal) → length lits ≤ n → Removes s t old new (take n lits) May
        → Removes s t old new lits May
    others_all n s t old new all before = record {
      notes = before.notes;
      grows = before.grows;
      within = λ kept notes l h. elim (before.within kept notes l h) [
        | inl o ↦ inl o
        | inr w ↦ inr (take_within lits n l w.0, w.1, w.2)
      ];
      covers = λ kept notes l h. before.covers kept notes l (in_take_all lits n l all h);
      few = let count = length_taken n lits in let few = before.few in omega (arith, count, few);
    }

-- the same literals are left aside
pub removes_alike : (s t : Members) (old new lits : List Literal) (May Also : Literal → Type 0) → ((l : Literal) → May l ↔ Also l)
    → Removes s t old new lits May → Removes s t old new lits Also
removes_alike s t old new lits May Also same by = record {
  notes = by.notes;
  grows = by.grows;
  within = λ kept notes l h. elim (by.within kept notes l h) [ inl o ↦ inl o | inr w ↦ inr (w.0, (λ also. w.1 ((same l).1 also)), w.2) ];
  covers = λ kept notes l h. elim (by.covers kept notes l h) [ inl may ↦ inl ((same l).0 may) | inr there ↦ inr there ];
  few = by.few;
}

pub removes_antecedent : {E : Type 0} (s t : Members) (old new lits : List Literal) (side : Side) (blocks : List Block) (within : Reducible)
    (pivot : Option ℕ) (r : Result ⊤ E) → ((l : Literal) → TakesOut within l.var ↔ IsReducible side blocks lits l)
    → OnOk r (Removes s t old new lits (λ l. MayOmit (Some within) pivot l.var))
    → OnOk r (Removes s t old new lits (MayLeave side blocks pivot lits))
removes_antecedent s t old new lits side blocks within pivot r means =
    on_ok r (removes_alike s t old new lits (λ l. MayOmit (Some within) pivot l.var) (MayLeave side blocks pivot lits) (λ l. (
      (λ may. elim may [ inl is ↦ inl is | inr out ↦ inr ((means l).0 out) ]),
      (λ may. elim may [ inl is ↦ inl is | inr red ↦ inr ((means l).1 red) ]),
    )))
