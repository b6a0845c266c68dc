-- A play by decisions: its end is a leaf of the game, and there each variable of the player has the value that is decided there.
use Rattle.qbf_core.proofs.Cited.{arith, ◌≡◌, ◌<◌, ℕ, Bool, true, false, cond, List, [], ◌∷◌, ◌⊎◌, inl, inr, refl, sym}
use Rattle.qbf_core.proofs.Cited.{ap, ◌∙◌, subst, eqb_tells, false≢true, Literal, positive, negative, ◌∈◌, ◌⊆◌, IsClean, is_quantifier}
use Rattle.qbf_core.specs.declared.quantifier.Quantifier.{Quantifier}
use Rattle.std.proofs.lemmas.Bool.{cases_Bool}
use Rattle.qbf_core.proofs.Members.{lit_is}
use Rattle.qbf_core.proofs.Game.{Leaf, leaf_keeps}
use Rattle.qbf_core.proofs.Reduction.{Ascending}
use Rattle.qbf_completeness.specs.Strategies.{literal_of}
use Rattle.qbf_completeness.specs.Setting.{are_set, is_set}
use Rattle.qbf_strategy.specs.Decisions.{Decision, value_in, decided, play_by}
use Rattle.qbf_strategy.proofs.Setting.{all_set, set_all}

leaf_by : (b : Bool) (v : ℕ) (q : Quantifier) (rest : List (Quantifier × ℕ)) (s : List Literal) (end : Literal → List Literal)
    → ((x : Literal) → Leaf rest (x ∷ s) (end x)) → Leaf ((q, v) ∷ rest) s (end (literal_of v b))
leaf_by true v q rest s end each = inl (each (positive v))
leaf_by false v q rest s end each = inr (each (negative v))

pub play_is_leaf : (mine : Quantifier) (rest : List (Quantifier × ℕ)) (otherwise : ℕ → Bool) (ds : List Decision) (values : ℕ
    → Bool) (s : List Literal)
    → Leaf rest s (play_by mine rest otherwise ds values s)
play_is_leaf mine [] otherwise ds values s = refl
play_is_leaf mine ((q, v) ∷ rest) otherwise ds values s =
    leaf_by (cond (is_quantifier q mine) (decided (otherwise v) ds v s) (values v)) v q rest s
    (λ x. play_by mine rest otherwise ds values (x ∷ s))
    (λ x. play_is_leaf mine rest otherwise ds values (x ∷ s))

-- the variable v is set
abbrev pub IsSetIn : List Literal → ℕ → Type 0
IsSetIn s v = (positive v ∈ s) ⊎ (negative v ∈ s)

-- what is decided on v is decided by literals that are set
abbrev pub SeesSet : List Decision → ℕ → List Literal → Type 0
SeesSet ds v s = (d : Decision) → d ∈ ds → (l : Literal) → l ∈ d.sets → l.var ≡ v → (w : Literal) → w ∈ d.when → IsSetIn s w.var

-- no literal of v gives no value
no_value : (ls : List Literal) (v : ℕ) (a : Bool) → ((l : Literal) → l ∈ ls → l.var ≡ v → ⊥) → value_in ls v a ≡ a
no_value [] v a none = refl
no_value (l ∷ ls) v a none = elim (eqb_tells l.var v) [
  | inl (t, e) ↦ absurd (none l (inl refl) e)
  | inr (f, ne) ↦ rw f (no_value ls v a (λ m h. none m (inr h)))
]

-- whether some literal is of v
some_value : (ls : List Literal) (v : ℕ) → ((l : Literal) × (l ∈ ls) × (l.var ≡ v)) ⊎ ((l : Literal) → l ∈ ls → l.var ≡ v → ⊥)
some_value [] v = inr (λ l h e. h)
some_value (k ∷ ls) v = elim (eqb_tells k.var v) [
  | inl (t, e) ↦ inl (k, inl refl, e)
  | inr (f, ne) ↦ elim (some_value ls v) [
    | inl (l, h, e) ↦ inl (l, inr h, e)
    | inr none ↦ inr (λ l. elim [ inl same ↦ (λ e. ne (ap (λ (m : Literal). m.var) (sym same) ∙ e)) | inr h ↦ none l h ])
  ]
]

-- more literals that are set, all of them clean, change no test of literals whose variables are set
same_test : (ls s t : List Literal) → s ⊆ t → IsClean t → ((w : Literal) → w ∈ ls → IsSetIn s w.var) → are_set ls s ≡ are_set ls t
same_test ls s t within clean seen = elim (cases_Bool (are_set ls t)) [
  | inl is ↦ set_all ls s (λ w h. back w (all_set ls t is w h) (seen w h)) ∙ sym is
  | inr isnt ↦ elim (cases_Bool (are_set ls s)) [
    | inl is ↦ absurd (false≢true (sym isnt ∙ set_all ls t (λ w h. within w (all_set ls s is w h))))
    | inr also ↦ also ∙ sym isnt
  ]
]
  where
    back : (w : Literal) → w ∈ t → IsSetIn s w.var → w ∈ s
    back w h (inl p) = elim (lit_is w w.var refl) [
      | inl e ↦ subst (λ z. z ∈ s) (sym e) p
      | inr e ↦ absurd (clean (positive w.var) (within (positive w.var) p) (subst (λ z. z ∈ t) e h))
    ]
    back w h (inr n) = elim (lit_is w w.var refl) [
      | inl e ↦ absurd (clean (negative w.var) (within (negative w.var) n) (subst (λ z. z ∈ t) e h))
      | inr e ↦ subst (λ z. z ∈ s) (sym e) n
    ]

same_by : (a b : Bool) (ls : List Literal) (v : ℕ) (x y : Bool) → a ≡ b → x ≡ y → cond a (value_in ls v x) x ≡ cond b (value_in ls v y) y
same_by true true ls v x y e later = ap (λ z. value_in ls v z) later
same_by false false ls v x y e later = later
same_by true false ls v x y e later = absurd (false≢true (sym e))
same_by false true ls v x y e later = absurd (false≢true e)

at_none : (c : Bool) (ls : List Literal) (v : ℕ) (x : Bool) → ((l : Literal) → l ∈ ls → l.var ≡ v → ⊥) → cond c (value_in ls v x) x ≡ x
at_none true ls v x none = no_value ls v x none
at_none false ls v x none = refl

pub same_decided : (otherwise : Bool) (ds : List Decision) (v : ℕ) (s t : List Literal) → s ⊆ t → IsClean t → SeesSet ds v s
    → decided otherwise ds v s ≡ decided otherwise ds v t
same_decided otherwise [] v s t within clean seen = refl
same_decided otherwise (d ∷ ds) v s t within clean seen =
    let later : decided otherwise ds v s
    ≡ decided otherwise ds v t = same_decided otherwise ds v s t within clean (λ c h. seen c (inr h)) in
    elim (some_value d.sets v) [
      | inl (l, h, e) ↦ same_by (are_set d.when s) (are_set d.when t) d.sets v (decided otherwise ds v s) (decided otherwise ds v t)
          (same_test d.when s t within clean (λ w k. seen d (inl refl) l h e w k)) later
      | inr none ↦ at_none (are_set d.when s) d.sets v (decided otherwise ds v s) none
          ∙ (later ∙ sym (at_none (are_set d.when t) d.sets v (decided otherwise ds v t) none))
    ]

-- decisions on v come out the same, if their literals are set alike
alike_test : (ls s t : List Literal) → ((w : Literal) → w ∈ ls → is_set w s ≡ is_set w t) → are_set ls s ≡ are_set ls t
alike_test [] s t same = refl
alike_test (l ∷ ls) s t same =
    ap (λ b. cond b (are_set ls s) false) (same l (inl refl))
    ∙ ap (λ b. cond (is_set l t) b false) (alike_test ls s t (λ w h. same w (inr h)))

pub decided_alike : (otherwise : Bool) (ds : List Decision) (v : ℕ) (s t : List Literal)
    → ((d : Decision) → d ∈ ds → (l : Literal) → l ∈ d.sets → l.var ≡ v → (w : Literal) → w ∈ d.when → is_set w s ≡ is_set w t)
    → decided otherwise ds v s ≡ decided otherwise ds v t
decided_alike otherwise [] v s t same = refl
decided_alike otherwise (d ∷ ds) v s t same =
    let later : decided otherwise ds v s ≡ decided otherwise ds v t = decided_alike otherwise ds v s t (λ c h. same c (inr h)) in
    elim (some_value d.sets v) [
      | inl (l, h, e) ↦ same_by (are_set d.when s) (are_set d.when t) d.sets v (decided otherwise ds v s) (decided otherwise ds v t)
          (alike_test d.when s t (λ w k. same d (inl refl) l h e w k)) later
      | inr none ↦ at_none (are_set d.when s) d.sets v (decided otherwise ds v s) none
          ∙ (later ∙ sym (at_none (are_set d.when t) d.sets v (decided otherwise ds v t) none))
    ]

set_here : (u : ℕ) (b : Bool) (s : List Literal) → IsSetIn (literal_of u b ∷ s) u
set_here u true s = inl (inl refl)
set_here u false s = inr (inl refl)

set_still : (x : Literal) (s : List Literal) (w : ℕ) → IsSetIn s w → IsSetIn (x ∷ s) w
set_still x s w (inl p) = inl (inr p)
set_still x s w (inr n) = inr (inr n)

module _ (mine : Quantifier) (otherwise : ℕ → Bool) (ds : List Decision) (values : ℕ → Bool) (number : ℕ → ℕ) (IsOf : ℕ → Type 0) where
  -- decisions on v see variables that stand before it, by these numbers
  abbrev pub SeesBefore : ℕ → Type 0
  SeesBefore v = (d : Decision) → d ∈ ds → (l : Literal) → l ∈ d.sets → l.var ≡ v → (w : Literal) → w ∈ d.when
      → IsOf w.var × (number w.var < number v)

  -- a variable that is none of the rest is set
  abbrev pub Placed : List (Quantifier × ℕ) → List Literal → Type 0
  Placed rest s = (w : ℕ) → IsOf w → ((p : Quantifier) × ((p, w) ∈ rest)) ⊎ IsSetIn s w

  sees_set : (p : Quantifier) (u : ℕ) (rest : List (Quantifier × ℕ)) (s : List Literal) → Ascending number ((p, u) ∷ rest)
      → Placed ((p, u) ∷ rest) s → SeesBefore u → SeesSet ds u s
  sees_set p u rest s up placed sees d h l k e w m =
      let before = sees d h l k e w m in
      elim (placed w.var before.0) [
        | inl (r, inl same) ↦
            let var_of : Quantifier × ℕ → ℕ = λ a. a.1 in
            let is : w.var ≡ u = ap var_of same in
            let less : number w.var < number u = before.1 in
            absurd (omega (arith, subst (λ n. number n < number u) is less))
        | inl (r, inr later) ↦ absurd (omega (arith, before.1, up.0 r w.var later))
        | inr is ↦ is
      ]

  played_here : (p : Quantifier) (u : ℕ) (rest : List (Quantifier × ℕ)) (s : List Literal) → Ascending number ((p, u) ∷ rest)
      → Placed ((p, u) ∷ rest) s → SeesBefore u
      → IsClean (play_by mine rest otherwise ds values (literal_of u (decided (otherwise u) ds u s) ∷ s))
      → literal_of u (decided (otherwise u) ds u (play_by mine rest otherwise ds values (literal_of u (decided (otherwise u) ds u s) ∷ s)))
      ∈ play_by mine rest otherwise ds values (literal_of u (decided (otherwise u) ds u s) ∷ s)
  played_here p u rest s up placed sees clean =
      let x : Literal = literal_of u (decided (otherwise u) ds u s) in
      let t : List Literal = play_by mine rest otherwise ds values (x ∷ s) in
      let keeps : (x ∷ s) ⊆ t = leaf_keeps rest (x ∷ s) t (play_is_leaf mine rest otherwise ds values (x ∷ s)) in
      let same : decided (otherwise u) ds u s
      ≡ decided (otherwise u) ds u t = same_decided (otherwise u) ds u s t (λ l h. keeps l (inr h)) clean
      (sees_set p u rest s up placed sees) in
      subst (λ b. literal_of u b ∈ t) same (keeps x (inl refl))

  placed_next : (p : Quantifier) (u : ℕ) (b : Bool) (rest : List (Quantifier × ℕ)) (s : List Literal) → Placed ((p, u) ∷ rest) s
      → Placed rest (literal_of u b ∷ s)
  placed_next p u b rest s placed w k = elim (placed w k) [
    | inl (r, inl same) ↦
        let var_of : Quantifier × ℕ → ℕ = λ a. a.1 in
        inr (subst (λ n. IsSetIn (literal_of u b ∷ s) n) (sym (ap var_of same)) (set_here u b s))
    | inl (r, inr later) ↦ inl (r, later)
    | inr is ↦ inr (set_still (literal_of u b) s w is)
  ]

  pub played : (rest : List (Quantifier × ℕ)) (s : List Literal) → Ascending number rest → Placed rest s
      → IsClean (play_by mine rest otherwise ds values s)
      → (q : Quantifier) (v : ℕ) → (q, v) ∈ rest → is_quantifier q mine ≡ true → SeesBefore v
      → literal_of v (decided (otherwise v) ds v (play_by mine rest otherwise ds values s)) ∈ play_by mine rest otherwise ds values s
  played [] s up placed clean q v h is sees = absurd h
  played ((p, u) ∷ rest) s up placed clean q v (inl e) is sees =
      let var_of : Quantifier × ℕ → ℕ = λ a. a.1 in
      let quantifier_of : Quantifier × ℕ → Quantifier = λ a. a.0 in
      at_first (is_quantifier p mine) (subst (λ r. is_quantifier r mine ≡ true) (ap quantifier_of e) is) clean (ap var_of e)
    where
      at_first : (c : Bool) → c ≡ true
          → IsClean (play_by mine rest otherwise ds values (literal_of u (cond c (decided (otherwise u) ds u s) (values u)) ∷ s))
          → v ≡ u
          → literal_of v (decided (otherwise v) ds v
          (play_by mine rest otherwise ds values (literal_of u (cond c (decided (otherwise u) ds u s) (values u)) ∷ s)))
          ∈ play_by mine rest otherwise ds values (literal_of u (cond c (decided (otherwise u) ds u s) (values u)) ∷ s)
      at_first true t clean_here same = rw same (played_here p u rest s up placed (subst SeesBefore same sees) clean_here)
      at_first false t clean_here same = absurd (false≢true t)
  played ((p, u) ∷ rest) s up placed clean q v (inr h) is sees =
      played rest (literal_of u (cond (is_quantifier p mine) (decided (otherwise u) ds u s) (values u)) ∷ s) up.1
      (placed_next p u (cond (is_quantifier p mine) (decided (otherwise u) ds u s) (values u)) rest s placed) clean q v h is sees
