-- The value at the beginning of a path into gates that choose.
use Rattle.std.proofs.Common.{arith, ◌≡◌, ◌<◌, ◌≤◌, ◌+◌, ◌-◌, ℕ, zero, suc, Bool, true, false, cond, List, [], ◌∷◌, ◌++◌, Some, slice_get}
use Rattle.std.proofs.Common.{refl, sym, ap, subst, ◌∙◌, length, map, drop, take, get_or}
use Rattle.std.proofs.lemmas.List.{length-append, take_rest}
use Rattle.std.proofs.lemmas.Option.{get_or_from_slice_get, slice_get_within}
use Rattle.qbf_core.specs.Literal.{Literal}
use Rattle.aiger.specs.Building.{Built, next_of}
use Rattle.aiger.specs.Choosing.{IsChoice, IsChosen as HasChosen}
use Rattle.aiger.specs.Circuits.{both}
use Rattle.aiger.specs.declared.choosing.Branches.{Branches}
use Rattle.aiger.specs.Wires.{Wire, constant, value_at}
use Rattle.aiger.proofs.Folds.{constant_value}
use Rattle.aiger.proofs.KeptGates.{grows_same, grows_then, next_grows, values_before}
use Rattle.aiger.proofs.TrimmedGates.{take_next}
use Rattle.qbf_strategy.specs.declared.path.Path.{Path}
use Rattle.qbf_strategy.specs.declared.path.Turn.{Turn}
use Rattle.qbf_strategy.specs.declared.entries.Entry.{Entry}
use Rattle.qbf_strategy.specs.Assembling.{AllBelow, ArePlaced, all_true}
use Rattle.qbf_strategy.specs.Chains.{Chain, evaluated}
use Rattle.qbf_strategy.specs.Chosen.{HasChain, IsChosen}
use Rattle.qbf_strategy.specs.Conditions.{AreConditions, IsConjunction, IsEither, IsReady, Scene, fires}
use Rattle.qbf_completeness.specs.Setting.{are_set}
use Rattle.qbf_strategy.specs.Decisions.{wanted}
use Rattle.qbf_strategy.specs.Paths.{HasTurned, IsChosenInside, IsEntered, IsMoved, IsSet, StandsBelow, TakesFirst, TurnsBelow}
use Rattle.qbf_strategy.specs.Paths.{all_taken, inside, value_by}
use Rattle.qbf_strategy.proofs.ChainedEntries.{chain_none, chain_some, chain_within}
use Rattle.qbf_strategy.proofs.ConditionGates.{conditions_grown}
use Rattle.qbf_strategy.proofs.ToldLiterals.{both_assoc, both_true, drop_at}

-- ---- the wires of turns

turns_grown : (m n : ℕ) (ts : List Turn) → m ≤ n → TurnsBelow m ts → TurnsBelow n ts
turns_grown m n [] le b = tt
turns_grown m n (t ∷ ts) le b =
    let l = b.0.0 in let r = b.0.1 in ((omega (arith, le, l), omega (arith, le, r)), turns_grown m n ts le b.1)

turns_more : (n : ℕ) (ts : List Turn) (t : Turn) → TurnsBelow n ts → t.wire.var < n → t.other.var < n → TurnsBelow n (ts ++ t ∷ [])
turns_more n [] t b w o = ((w, o), tt)
turns_more n (u ∷ ts) t b w o = (b.0, turns_more n ts t b.1 w o)

turns_first : (n : ℕ) (ts : List Turn) (t : Turn) → TurnsBelow n (ts ++ t ∷ []) → TurnsBelow n ts
turns_first n [] t b = tt
turns_first n (u ∷ ts) t b = (b.0, turns_first n ts t b.1)

turns_last : (n : ℕ) (ts : List Turn) (t : Turn) → TurnsBelow n (ts ++ t ∷ []) → (t.wire.var < n) × (t.other.var < n)
turns_last n [] t b = b.0
turns_last n (u ∷ ts) t b = turns_last n ts t b.1

-- the last turn stands on variables that are there
pub last_below : (n : ℕ) (before after : List Turn) (t : Turn) → TurnsBelow n before → before ≡ after ++ t ∷ []
    → (t.wire.var < n) × (t.other.var < n)
last_below n before after t b is = turns_last n after t (subst (λ (ts : List Turn). TurnsBelow n ts) is b)

-- ---- the value at the beginning

inside_last : (run : ℕ → Bool) (ts : List Turn) (t : Turn) (x : Bool)
    → inside run (ts ++ t ∷ []) x ≡ inside run ts (cond (value_at run t.wire) x (value_at run t.other))
inside_last run [] t x = refl
inside_last run (u ∷ ts) t x =
    ap (λ (y : Bool). cond (value_at run u.wire) y (value_at run u.other)) (inside_last run ts t x)

taken_last : (run : ℕ → Bool) (ts : List Turn) (t : Turn) → all_taken run (ts ++ t ∷ []) ≡ both (all_taken run ts) (value_at run t.wire)
taken_last run [] t = both_true (value_at run t.wire)
taken_last run (u ∷ ts) t =
    ap (λ (y : Bool). both (value_at run u.wire) y) (taken_last run ts t)
    ∙ sym (both_assoc (value_at run u.wire) (all_taken run ts) (value_at run t.wire))

inside_set : (run : ℕ → Bool) (ts : List Turn) (c v y : Bool)
    → inside run ts (cond c v y) ≡ cond (both (all_taken run ts) c) v (inside run ts y)
inside_set run [] c v y = refl
inside_set run (t ∷ ts) c v y = by (value_at run t.wire) (inside_set run ts c v y)
  where
    by : (b : Bool) → inside run ts (cond c v y) ≡ cond (both (all_taken run ts) c) v (inside run ts y)
        → cond b (inside run ts (cond c v y)) (value_at run t.other)
        ≡ cond (both (both b (all_taken run ts)) c) v (cond b (inside run ts y) (value_at run t.other))
    by true e = e
    by false e = refl

-- ---- moves along a path

pub moved_same : (b : Built) (p : Path) → StandsBelow (next_of b) p → IsMoved b b p p
moved_same b p below = record { grows = grows_same b; below = below; value = λ run has. refl }

pub moved_then : (old now new : Built) (a b c : Path) → IsMoved old now a b → IsMoved now new b c → IsMoved old new a c
moved_then old now new a b c one two = record {
  grows = grows_then old now new one.grows two.grows;
  below = two.below;
  value = λ run has. two.value run has ∙ one.value run (values_before now new run two.grows has);
}

-- a path without its last turn, with a wire at its end that chooses
pub left_one : (old new : Built) (before after : Path) (t : Turn) → before.turns.items ≡ after.turns.items ++ t ∷ []
    → HasChosen old new t.wire (record { yes = before.end; no = t.other }) after.end → StandsBelow (next_of old) before
    → IsMoved old new before after
left_one old new before after t is chosen stands = record {
  grows = chosen.grows;
  below = record {
    turns = turns_grown (next_of old) (next_of new) after.turns.items (next_grows old new chosen.grows)
        (turns_first (next_of old) after.turns.items t (subst (λ (ts : List Turn). TurnsBelow (next_of old) ts) is stands.turns));
    end = chosen.below;
  };
  value = λ run has.
      ap (inside run after.turns.items) (chosen.value run has)
      ∙ (sym (inside_last run after.turns.items t (value_at run before.end))
      ∙ ap (λ (ts : List Turn). inside run ts (value_at run before.end)) (sym is));
}

-- a path with one turn more, into one branch of the wire at its end
pub turned_one : (b : Built) (before after : Path) (t : Turn) (br : Branches) → after.turns.items ≡ before.turns.items ++ t ∷ []
    → t.other ≡ br.no → after.end ≡ br.yes → IsChoice b before.end t.wire br → StandsBelow (next_of b) before → t.wire.var < next_of b
    → IsMoved b b before after
turned_one b before after t br is other_is end_is choice stands on_below = record {
  grows = grows_same b;
  below = record {
    turns = subst (λ (ts : List Turn). TurnsBelow (next_of b) ts) (sym is) (turns_more (next_of b) before.turns.items t stands.turns
        on_below (subst (λ (x : Wire). x.var < next_of b) (sym other_is) choice.below.1));
    end = subst (λ (x : Wire). x.var < next_of b) (sym end_is) choice.below.0;
  };
  value = λ run has.
      ap (λ (ts : List Turn). inside run ts (value_at run after.end)) is
      ∙ (ap (λ (x : Wire). inside run (before.turns.items ++ t ∷ []) (value_at run x)) end_is
      ∙ (inside_last run before.turns.items t (value_at run br.yes)
      ∙ (ap (λ (x : Wire). inside run before.turns.items (cond (value_at run t.wire) (value_at run br.yes) (value_at run x))) other_is
      ∙ ap (inside run before.turns.items) (sym (choice.value run has)))));
}

-- ---- the turns that literals ask for

pub takes_none : (ws : List Wire) (ts : List Turn) → TakesFirst ws 0 (take 0 ts)
takes_none ws ts run = refl

pub takes_more : (ws : List Wire) (i : ℕ) (before after : List Turn) (on : Wire) → slice_get ws i ≡ Some on → HasTurned on before after
    → TakesFirst ws i before → TakesFirst ws (i + 1) after
takes_more ws i before after on at turned takes run =
    takes run
    ∙ (ap (λ (vs : List Wire). both (all_taken run before) (all_true run vs)) (drop_at ws i on at)
    ∙ (sym (both_assoc (all_taken run before) (value_at run on) (all_true run (drop (i + 1) ws)))
    ∙ ap (λ (x : Bool). both x (all_true run (drop (i + 1) ws)))
    (ap (λ (x : Wire). both (all_taken run before) (value_at run x)) (sym turned.same)
    ∙ (sym (taken_last run before turned.turn) ∙ ap (all_taken run) (sym turned.more)))))

-- one turn more that is there
pub takes_next : (ws : List Wire) (i : ℕ) (ts : List Turn) (t : Turn) → slice_get ts i ≡ Some t → slice_get ws i ≡ Some t.wire
    → TakesFirst ws i (take i ts) → TakesFirst ws (i + 1) (take (i + 1) ts)
takes_next ws i ts t there at takes =
    takes_more ws i (take i ts) (take (i + 1) ts) t.wire at (record { turn = t; same = refl; more = take_next ts i t there }) takes

-- one place more that agrees is one of a wire
pub agrees_next : (ws : List Wire) (i : ℕ) (w : Wire) → slice_get ws i ≡ Some w → i + 1 ≤ length ws
agrees_next ws i w at = let less = slice_get_within ws i w at in omega (arith, less)

pub turned_count : (on : Wire) (before after : List Turn) → HasTurned on before after → length after ≡ length before + 1
turned_count on before after turned = ap length turned.more ∙ length-append before (turned.turn ∷ [])

-- ---- an entry

-- the end of a path gets a value if the wires after the turns are all true
pub set_is : (given : Bool) (old one two new : Built) (before first second after : Path) (c : Wire) (ws : List Wire) (until : ℕ)
    → IsMoved old one before first → IsMoved one one first second → TakesFirst ws until second.turns.items
    → IsConjunction one two (drop until ws) c → IsEither two new c given second.end after.end → after.turns.items ≡ second.turns.items
    → IsSet ws given old new before after
set_is given old one two new before first second after c ws until left turned takes rest either same = record {
  grows = grows_then old one new left.grows (grows_then one two new rest.grows either.grows);
  below = record {
    turns = subst (λ (ts : List Turn). TurnsBelow (next_of new) ts) (sym same)
        (turns_grown (next_of one) (next_of new) second.turns.items
        (next_grows one new (grows_then one two new rest.grows either.grows)) turned.below.turns);
    end = either.below;
  };
  value = λ run has.
      let has_two = values_before two new run either.grows has in
      let has_one = values_before one two run rest.grows has_two in
      let moved = moved_then old one one before first second left turned in
      let ts = second.turns.items in
      let holds : both (all_taken run ts) (value_at run c) ≡ all_true run ws =
      ap (λ (b : Bool). both (all_taken run ts) b) (rest.value run has_two) ∙ sym (takes run) in
      ap (λ (us : List Turn). inside run us (value_at run after.end)) same
      ∙ (ap (inside run ts) (either.chooses run has)
      ∙ (inside_set run ts (value_at run c) given (value_at run second.end)
      ∙ (ap (λ (b : Bool). cond b given (inside run ts (value_at run second.end))) holds
      ∙ ap (λ (b : Bool). cond (all_true run ws) given b) (moved.value run has_one))));
}

pub entered : (at : Scene) (k : ℕ) (given : Bool) (old new : Built) (before after : Path) (lits : List Literal) (some : List Wire)
    → slice_get at.kept k ≡ Some lits → ArePlaced at.ps at.ws at.mine lits some
    → IsSet some given old new before after → IsEntered at k given old new before after
entered at k given old new before after lits some here are is = record {
  grows = is.grows;
  below = is.below;
  value = λ run s has tells.
      let seen : get_or at.kept k [] ≡ lits = get_or_from_slice_get at.kept k lits [] here in
      let holds : all_true run some ≡ fires at s k =
      are.tell run s tells ∙ ap (λ (ls : List Literal). are_set (map (wanted at.mine) ls) s) (sym seen) in
      is.value run has ∙ ap (λ (b : Bool). cond b given (value_by run before)) holds;
}

below_drop : (n i : ℕ) (ws : List Wire) → AllBelow n ws → AllBelow n (drop i ws)
below_drop n zero ws all = all
below_drop n (suc i) [] all = all
below_drop n (suc i) (w ∷ ws) all = below_drop n i ws (λ k d less. all (suc k) d (omega (arith, less)))

pub below_rest : (n i : ℕ) (ws : List Wire) → AllBelow n ws → AllBelow n (take (length ws - i) (drop i ws))
below_rest n i ws all = subst (λ (rest : List Wire). AllBelow n rest) (sym (take_rest ws i)) (below_drop n i ws all)

-- ---- all entries of a variable

pub chosen_first : (at : Scene) (es : List Entry) (last : ℕ) (otherwise : Bool) (b : Built) (p : Path) → p.turns.items ≡ []
    → p.end ≡ constant otherwise → 0 < next_of b → IsChosenInside at es last last otherwise b b p
chosen_first at es last otherwise b p none is some = record {
  grows = grows_same b;
  below = record {
    turns = subst (λ (us : List Turn). TurnsBelow (next_of b) us) (sym none) tt;
    end = let var : Wire → ℕ = λ x. x.var in let e : p.end.var ≡ 0 = ap var is in omega arith;
  };
  rest = λ v said chain. record {
    left = said;
    chain = chain;
    value = λ run s has tells.
        ap (λ (x : Bool). evaluated (fires at s) v x said)
        (ap (λ (us : List Turn). inside run us (value_at run p.end)) none
        ∙ (ap (value_at run) is ∙ constant_value run otherwise has.constant));
    ready = λ ready. ready;
  };
}

pub chosen_next : (at : Scene) (es : List Entry) (last number next : ℕ) (otherwise : Bool) (old now new : Built) (before after : Path)
    (e : Entry) → 0 < number → slice_get es (number - 1) ≡ Some e → next ≡ e.before
    → IsEntered at e.decision e.value now new before after → IsChosenInside at es last number otherwise old now before
    → IsChosenInside at es last next otherwise old new after
chosen_next at es last number next otherwise old now new before after e some there next_is is chosen = record {
  grows = grows_then old now new chosen.grows is.grows;
  below = is.below;
  rest = λ v said chain.
      let left = chosen.rest v said chain in
      let earlier = chain_some es v number e left.left (omega (arith, some)) there left.chain in
      record {
        left = earlier.rest;
        chain = subst (λ (n : ℕ). Chain es v n earlier.rest) (sym next_is) earlier.chain;
        value = λ run s has tells.
            ap (λ (x : Bool). evaluated (fires at s) v x earlier.rest) (is.value run s has tells)
            ∙ (sym (earlier.value (fires at s) (value_by run before))
            ∙ left.value run s (values_before now new run is.grows has) tells);
        ready = λ ready k l h. left.ready ready k l (earlier.within (k, l) h);
      };
}

module _ (at : Scene) (es : List Entry) (last number : ℕ) (otherwise : Bool) (old now : Built) (p : Path)
    (chosen : IsChosenInside at es last number otherwise old now p) where
  pub number_within : HasChain at es last → number ≤ length es
  number_within has =
      let left = chosen.rest has.variable has.said has.chain in chain_within es has.variable number left.left left.chain

  module _ (e : Entry) (some : 0 < number) (there : slice_get es (number - 1) ≡ Some e) where
    pub is_ready : HasChain at es last → IsReady at e.decision
    is_ready has =
        let left = chosen.rest has.variable has.said has.chain in
        let earlier = chain_some es has.variable number e left.left (omega (arith, some)) there left.chain in
        left.ready has.ready e.decision earlier.lit earlier.there earlier.same

    pub goes_back : HasChain at es last → e.before < number
    goes_back has =
        let left = chosen.rest has.variable has.said has.chain in
        (chain_some es has.variable number e left.left (omega (arith, some)) there left.chain).back

pub chosen_all : (at : Scene) (es : List Entry) (last number : ℕ) (otherwise : Bool) (old now new : Built) (p q : Path)
    (before after : List Wire) → number ≤ 0 → q.turns.items ≡ take 0 p.turns.items → AreConditions at old before → after ≡ before
    → IsChosenInside at es last number otherwise old now p → IsMoved now new p q → IsChosen at es last false old new after q.end
chosen_all at es last number otherwise old now new p q before after none left known same chosen moved = record {
  grows = grows_then old now new chosen.grows moved.grows;
  known = subst (λ (ws : List Wire). AreConditions at new ws) (sym same)
      (conditions_grown at old new before (grows_then old now new chosen.grows moved.grows) known);
  below = moved.below.end;
  otherwise = otherwise;
  value = λ v said chain run s has tells.
      let left_ones = chosen.rest v said chain in
      let begins : value_at run q.end ≡ value_by run p =
      ap (λ (vs : List Turn). inside run vs (value_at run q.end)) (sym left) ∙ moved.value run has in
      begins
      ∙ (sym (chain_none (fires at s) v (value_by run p) es number left_ones.left (omega arith) left_ones.chain)
      ∙ left_ones.value run s (values_before now new run moved.grows has) tells);
  few = λ plain. absurd (cc plain);
}

-- ---- turns that are left

take_less : (k n : ℕ) (ts : List Turn) → k ≤ n → take k (take n ts) ≡ take k ts
take_less zero n ts le = refl
take_less (suc k) zero ts le = absurd (omega arith)
take_less (suc k) (suc n) [] le = refl
take_less (suc k) (suc n) (t ∷ ts) le = ap (λ (us : List Turn). t ∷ us) (take_less k n ts (omega arith))

take_whole : (k : ℕ) (ts : List Turn) → length ts ≤ k → take k ts ≡ ts
take_whole zero [] le = refl
take_whole zero (t ∷ ts) le = absurd (omega arith)
take_whole (suc k) [] le = refl
take_whole (suc k) (t ∷ ts) le = ap (λ (us : List Turn). t ∷ us) (take_whole k ts (omega arith))

take_count : (n : ℕ) (ts : List Turn) → n ≤ length ts → length (take n ts) ≡ n
take_count zero ts le = refl
take_count (suc n) [] le = absurd (omega arith)
take_count (suc n) (t ∷ ts) le = ap suc (take_count n ts (omega (arith, le)))

pub still_kept : (k : ℕ) (all ts us : List Turn) → k < length ts → us ≡ take (length ts - 1) ts → take k ts ≡ take k all
    → take k us ≡ take k all
still_kept k all ts us less is kept = ap (take k) is ∙ (take_less k (length ts - 1) ts (omega arith) ∙ kept)

pub kept_all : (k : ℕ) (all ts : List Turn) → length ts ≤ k → take k ts ≡ take k all → ts ≡ take k all
kept_all k all ts le kept = sym (take_whole k ts le) ∙ kept

pub fewer_left : (k : ℕ) (ts us : List Turn) → k < length ts → us ≡ take (length ts - 1) ts → length us < length ts
fewer_left k ts us less is =
    let count = take_count (length ts - 1) ts (omega arith) in
    let e : length us ≡ length (take (length ts - 1) ts) = ap length is in omega (arith, count, e, less)

-- as many turns are left as are kept
pub kept_count : (k : ℕ) (before after : List Turn) → k ≤ length before → after ≡ take k before → length after ≡ k
kept_count k before after few is = ap length is ∙ take_count k before few

pub takes_kept : (ws : List Wire) (k : ℕ) (before after : List Turn) → k ≤ length before → after ≡ take k before
    → TakesFirst ws k (take k before) → TakesFirst ws (length after) after
takes_kept ws k before after few is takes =
    subst (λ (i : ℕ). TakesFirst ws i after) (sym (kept_count k before after few is))
    (subst (λ (ts : List Turn). TakesFirst ws k ts) (sym is) takes)
