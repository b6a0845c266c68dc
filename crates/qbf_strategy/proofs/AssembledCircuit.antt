-- One variable more, and the whole circuit.
use Rattle.std.proofs.Common.{arith, ◌≡◌, ◌<◌, ◌≤◌, ◌+◌, ℕ, suc, Bool, true, false, cond, List, [], ◌∷◌, ◌++◌, Some, slice_get, get_or, zero}
use Rattle.std.proofs.Common.{refl, sym, ap, subst, ◌∙◌, length, map, inl, inr, ◌⊎◌, true≢false, nat_eq, take, Result, Ok, Err}
use Rattle.std.specs.Prelude.{OnOk, ⊤}
use Rattle.std.proofs.lemmas.List.Elements.{All-nil, All-push}
use Rattle.std.proofs.lemmas.List.{length-append}
use Rattle.std.proofs.lemmas.Option.{get_or_from_slice_get, slice_get_cases, slice_get_within}
use Rattle.std.specs.List.{AllByRecursion, IsDistinct}
use Rattle.qbf_core.specs.Blocks.{is_quantifier, variables}
use Rattle.qbf_core.specs.Members.{◌∈◌}
use Rattle.qbf_core.specs.declared.quantifier.Quantifier.{Quantifier}
use Rattle.qbf_core.specs.Literal.{Literal}
use Rattle.qbf_completeness.specs.Strategies.{literal_of}
use Rattle.aiger.specs.Building.{Built, Grows, next_of}
use Rattle.aiger.specs.Circuits.{AreValues, Circuit, StandBelow}
use Rattle.aiger.specs.Wires.{Wire, plain, value_at}
use Rattle.qbf_strategy.specs.declared.assembling.Assembly.{Assembly}
use Rattle.qbf_strategy.specs.declared.conditions.Work.{Work}
use Rattle.qbf_strategy.specs.declared.entries.Entries.{Entries}
use Rattle.qbf_strategy.specs.declared.ordered.OrderedWires.{OrderedWires}
use Rattle.qbf_strategy.specs.Ordering.{AreOrdered}
use Rattle.qbf_strategy.specs.Assembling.{AllBelow, Tells}
use Rattle.qbf_strategy.specs.Chains.{Chain, Sayings, with_lists}
use Rattle.qbf_strategy.specs.Chosen.{AddsInput, AddsOutput, AreAssembled, AreEntriesOf, AreInputs, HasChain, IsOutput, IsUnassembled}
use Rattle.qbf_strategy.specs.Chosen.{next_input, outputs_of}
use Rattle.qbf_strategy.specs.Costs.{cost_all, cost_among}
use Rattle.qbf_strategy.specs.Computing.{Computes}
use Rattle.qbf_strategy.specs.Conditions.{AreConditions, fires, scene}
use Rattle.qbf_completeness.specs.Setting.{are_set}
use Rattle.qbf_strategy.specs.Decisions.{Decision, decisions_by, wanted}
use Rattle.qbf_strategy.specs.Winning.{input_literals, opponent, set_in_run, variables_of}
use Rattle.qbf_strategy.proofs.AssembledWires.{input_left, inputs_after, next_after, outputs_mine, outputs_theirs, run_tells}
use Rattle.qbf_strategy.proofs.GateCosts.{cost_next, cost_within}
use Rattle.qbf_strategy.proofs.ReadyDecisions.{are_ready}
use Rattle.qbf_strategy.proofs.ChainedEntries.{got_more}
use Rattle.aiger.proofs.TrimmedGates.{take_next}
use Rattle.qbf_strategy.proofs.ChosenValues.{lists_say}
use Rattle.aiger.proofs.KeptGates.{values_before}
use Rattle.qbf_strategy.proofs.ConditionGates.{below_grown}

-- ---- one wire more

tells_less : (ps : List (Quantifier × ℕ)) (ws more : List Wire) (run : ℕ → Bool) (s : List Literal) → Tells ps (ws ++ more) run s
    → Tells ps ws run s
tells_less ps ws more run s tells i v w at there negative = tells i v w at (got_more ws more i w there) negative

below_less : (n : ℕ) (ws more : List Wire) → AllBelow n (ws ++ more) → AllBelow n ws
below_less n ws more all k d less =
    let longer = length-append ws more in
    subst (λ (w : Wire). w.var < n) (get_or_first ws more k d less) (all k d (omega (arith, longer, less)))
  where
    get_or_first : (ws more : List Wire) (k : ℕ) (d : Wire) → k < length ws → get_or (ws ++ more) k d ≡ get_or ws k d
    get_or_first [] more k d less = absurd (omega (arith, less))
    get_or_first (w ∷ ws) more zero d less = refl
    get_or_first (w ∷ ws) more (suc k) d less = get_or_first ws more k d (omega (arith, less))

conditions_wider : (mine : Quantifier) (ps : List (Quantifier
    × ℕ)) (ws more : List Wire) (kept : List (List Literal)) (b : Built) (conditions : List Wire)
    → AreConditions (scene mine ps ws kept) b conditions → AreConditions (scene mine ps (ws ++ more) kept) b conditions
conditions_wider mine ps ws more kept b conditions are k w lits here at = elim (are k w lits here at) [
  | inl none ↦ inl none
  | inr is ↦ inr (record { below = is.below; value = λ run s has tells. is.value run s has (tells_less ps ws more run s tells) })
]

ordered_wider : (mine : Quantifier) (ps : List (Quantifier × ℕ)) (ws more : List Wire) (kept : List (List Literal)) (o : OrderedWires)
    → AreOrdered (scene mine ps ws kept) o → AreOrdered (scene mine ps (ws ++ more) kept) o
ordered_wider mine ps ws more kept o are = record {
  numbered = are.numbered;
  placed = λ k n wires there list lits here.
      let placed = are.placed k n wires there list lits here in
      record {
        tell = λ run s tells. placed.tell run s (tells_less ps ws more run s tells);
        below = λ m all. placed.below m (below_less m ws more all);
        few = placed.few;
      };
}

output_wider : (ps : List (Quantifier × ℕ)) (ws more : List Wire) (ds : List Decision) (a b : Built) (o : ℕ × Wire) → Grows a b
    → IsOutput ps ws ds a o → IsOutput ps (ws ++ more) ds b o
output_wider ps ws more ds a b o g is = record {
  otherwise = is.otherwise;
  value = λ run s has tells. is.value run s (values_before a b run g has) (tells_less ps ws more run s tells);
}

in_pushed : {X : Type 0} (xs : List X) (y x : X) → x ∈ (xs ++ y ∷ []) → (x ∈ xs) ⊎ (x ≡ y)
in_pushed [] y x (inl e) = inr e
in_pushed [] y x (inr h) = absurd h
in_pushed (z ∷ xs) y x (inl e) = inl (inl e)
in_pushed (z ∷ xs) y x (inr h) = elim (in_pushed xs y x h) [
  | inl m ↦ inl (inr m)
  | inr e ↦ inr e
]

module _ (mine : Quantifier) (ps : List (Quantifier × ℕ)) (kept removed : List (List Literal)) (is_plain : Bool) where
  -- the gates that one variable more may take
  cost_known : (a b : Assembly) (q : Quantifier) (v : ℕ) (w : Wire) → IsDistinct nat_eq (variables ps)
      → slice_get ps (length a.known.items) ≡ Some (q, v) → b.known.items ≡ a.known.items ++ w ∷ []
      → cost_among kept (take (length a.known.items) (variables ps)) (with_lists mine 0 removed [])
      + cost_among kept (v ∷ []) (with_lists mine 0 removed [])
      ≤ cost_among kept (take (length b.known.items) (variables ps)) (with_lists mine 0 removed [])
  cost_known a b q v w distinct at is =
      let one : length b.known.items ≡ length a.known.items + 1 = ap length is ∙ length-append a.known.items (w ∷ []) in
      subst (λ (n : ℕ). cost_among kept (take (length a.known.items) (variables ps)) (with_lists mine 0 removed [])
      + cost_among kept (v ∷ []) (with_lists mine 0 removed [])
      ≤ cost_among kept (take n (variables ps)) (with_lists mine 0 removed [])) (sym one)
      (cost_next kept ps (length a.known.items) v (with_lists mine 0 removed []) distinct (q, at))

  pub has_chain : (a : Assembly) (entries : Entries) (q : Quantifier) (v last : ℕ) → AreEntriesOf mine ps kept removed entries
      → slice_get ps (length a.known.items) ≡ Some (q, v) → slice_get entries.heads.items (length a.known.items) ≡ Some last
      → HasChain (scene mine ps a.known.items kept) entries.entries.items last
  has_chain a entries q v last of at here = record {
    variable = v;
    said = with_lists mine 0 removed [];
    chain = of.have.chains (length a.known.items) v last (q, at) here;
    ready = are_ready mine ps a.known.items kept removed v of.distinct of.few of.sees (q, at);
  }

  pub output_too_long : (a : Assembly) (entries : Entries) (q : Quantifier) (v : ℕ) → AreEntriesOf mine ps kept removed entries
      → AreAssembled mine ps kept removed is_plain a → slice_get ps (length a.known.items) ≡ Some (q, v) → is_plain ≡ true
      → ((last u : ℕ) (said : Sayings) → slice_get entries.heads.items (length a.known.items) ≡ Some last
      → Chain entries.entries.items u last said → 2147483648 ≤ next_of a.work.gates + cost_among kept (u ∷ []) said)
      → 2147483648 ≤ a.first + cost_all kept (with_lists mine 0 removed [])
  output_too_long a entries q v of are at chains long = elim (slice_get_cases entries.heads.items (length a.known.items)).1 [
    | inl (last, _, here, _) ↦
        let said : Sayings = with_lists mine 0 removed [] in
        let gates = long last v said here (of.have.chains (length a.known.items) v last (q, at) here) in
        let next = cost_next kept ps (length a.known.items) v said of.distinct (q, at) in
        let all = cost_within kept (take (length a.known.items + 1) (variables ps)) said in
        let few = are.few chains in omega (arith, gates, next, all, few)
    | inr (past, _) ↦ absurd
        (let places = of.places in
        let within = slice_get_within ps (length a.known.items) (q, v) at in omega (arith, past, places, within))
  ]

  pub input_there : (a : Assembly) (q : Quantifier) (v : ℕ) → AreAssembled mine ps kept removed is_plain a
      → slice_get ps (length a.known.items) ≡ Some (q, v) → is_quantifier q mine ≡ false
      → a.first ≡ length (variables_of (opponent mine) ps) + 1 → a.input < a.first
  input_there a q v are at theirs first =
      let e = are.input_is in let less = input_left mine 1 ps a.known.items q v at theirs in omega (arith, e, less, first)

  pub input_assembled : (a b : Assembly) (q : Quantifier) (v : ℕ) → IsDistinct nat_eq (variables ps) → AreAssembled mine ps kept removed is_plain a
      → slice_get ps (length a.known.items) ≡ Some (q, v) → is_quantifier q mine ≡ false → AddsInput a b
      → AreAssembled mine ps kept removed is_plain b
  input_assembled a b q v distinct are at theirs adds =
      let gates_of : Work → Built = λ w. w.gates in
      let conditions_of : Work → List Wire = λ w. w.conditions.items in
      let g : b.work.gates ≡ a.work.gates = ap gates_of adds.work_is in
      let c : b.work.conditions.items ≡ a.work.conditions.items = ap conditions_of adds.work_is in
      let less : a.input < next_of a.work.gates = (let f = are.first_is in let n = adds.number in omega arith) in
      record {
        first_is = ap (λ (x : Built). x.first) g ∙ (are.first_is ∙ sym adds.first_is);
        room = (let room = are.room in let same = adds.first_is in omega (arith, room, same));
        below = subst (λ (x : Built). AllBelow (next_of x) b.known.items) (sym g)
            (subst (λ (ws : List Wire). AllBelow (next_of a.work.gates) ws) (sym adds.known_is)
            (All-push (λ w. w.var < next_of a.work.gates) a.known.items (plain a.input) are.below less));
        known = subst (λ (ws : List Wire). AreConditions (scene mine ps ws kept) b.work.gates b.work.conditions.items) (sym adds.known_is)
            (subst (λ (x : Work). AreConditions (scene mine ps (a.known.items
            ++ plain a.input ∷ []) kept) x.gates x.conditions.items) (sym adds.work_is)
            (conditions_wider mine ps a.known.items (plain a.input ∷ []) kept a.work.gates a.work.conditions.items are.known));
        ordered = subst (λ (ws : List Wire). AreOrdered (scene mine ps ws kept) b.work.ordered) (sym adds.known_is)
            (subst (λ (x : Work). AreOrdered (scene mine ps (a.known.items ++ plain a.input ∷ []) kept) x.ordered) (sym adds.work_is)
            (ordered_wider mine ps a.known.items (plain a.input ∷ []) kept a.work.ordered are.ordered));
        inputs = subst (λ (ws : List Wire). AreInputs mine 1 ps ws) (sym adds.known_is)
            (inputs_after mine 1 ps a.known.items q v (plain a.input) at (λ e. ap plain are.input_is) are.inputs);
        input_is = adds.input_is ∙ (ap (λ (n : ℕ). n + 1) are.input_is
            ∙ (counted (next_input mine 1 ps a.known.items)
            ∙ (sym (next_after mine 1 ps a.known.items q v (plain a.input) at)
            ∙ ap (next_input mine 1 ps) (sym adds.known_is))));
        outputs_are = adds.outputs_are ∙ (are.outputs_are ∙ (sym (outputs_theirs mine ps a.known.items q v (plain a.input) at theirs)
            ∙ ap (outputs_of mine ps) (sym adds.known_is)));
        decided = λ o h.
            let old = are.decided o (subst (λ (os : List (ℕ × Wire)). o ∈ os) adds.outputs_are h) in
            subst (λ (ws : List Wire). IsOutput ps ws (decisions_by mine kept removed) b.work.gates o) (sym adds.known_is)
            (subst (λ (x : Built). IsOutput ps (a.known.items ++ plain a.input ∷ []) (decisions_by mine kept removed) x o) (sym g)
            (record {
              otherwise = old.otherwise;
              value = λ run s has tells. old.value run s has (tells_less ps a.known.items (plain a.input ∷ []) run s tells);
            }));
        few = λ chains.
            let same : next_of b.work.gates ≡ next_of a.work.gates = ap next_of g in
            let more = cost_known a b q v (plain a.input) distinct at adds.known_is in
            let few = are.few chains in
            let first = adds.first_is in omega (arith, same, more, few, first);
      }
    where
      counted : (n : ℕ) → n + 1 ≡ cond (is_quantifier q mine) n (suc n)
      counted n = rw theirs (omega arith)

  pub output_assembled : (a b : Assembly) (entries : Entries) (q : Quantifier) (v : ℕ) → AreEntriesOf mine ps kept removed entries
      → AreAssembled mine ps kept removed is_plain a → slice_get ps (length a.known.items) ≡ Some (q, v) → is_quantifier q mine ≡ true
      → AddsOutput mine ps kept is_plain entries v a b → AreAssembled mine ps kept removed is_plain b
  output_assembled a b entries q v of are at my adds =
      let w = adds.wire in
      let is = adds.chosen in
      let chain = of.have.chains (length a.known.items) v adds.last (q, at) adds.last_is in
      record {
        first_is = is.grows.same ∙ (are.first_is ∙ sym adds.first_is);
        room = (let room = are.room in let same = adds.first_is in omega (arith, room, same));
        below = subst (λ (ws : List Wire). AllBelow (next_of b.work.gates) ws) (sym adds.known_is)
            (All-push (λ x. x.var < next_of b.work.gates) a.known.items w
            (below_grown a.work.gates b.work.gates a.known.items is.grows are.below) is.below);
        known = subst (λ (ws : List Wire). AreConditions (scene mine ps ws kept) b.work.gates b.work.conditions.items) (sym adds.known_is)
            (conditions_wider mine ps a.known.items (w ∷ []) kept b.work.gates b.work.conditions.items is.known);
        ordered = subst (λ (ws : List Wire). AreOrdered (scene mine ps ws kept) b.work.ordered) (sym adds.known_is)
            (ordered_wider mine ps a.known.items (w ∷ []) kept b.work.ordered adds.ordered);
        inputs = subst (λ (ws : List Wire). AreInputs mine 1 ps ws) (sym adds.known_is)
            (inputs_after mine 1 ps a.known.items q v w at (λ e. absurd (true≢false (sym my ∙ e))) are.inputs);
        input_is = adds.input_is ∙ (are.input_is
            ∙ (counted (next_input mine 1 ps a.known.items)
            ∙ (sym (next_after mine 1 ps a.known.items q v w at)
            ∙ ap (next_input mine 1 ps) (sym adds.known_is))));
        outputs_are = adds.outputs_are ∙ (ap (λ (os : List (ℕ × Wire)). os ++ (v, w) ∷ []) are.outputs_are
            ∙ (sym (outputs_mine mine ps a.known.items q v w at my)
            ∙ ap (outputs_of mine ps) (sym adds.known_is)));
        decided = λ o h. subst (λ (ws : List Wire). IsOutput ps ws (decisions_by mine kept removed) b.work.gates o) (sym adds.known_is)
            (elim (in_pushed a.outputs.items (v, w) o (subst (λ (os : List (ℕ × Wire)). o ∈ os) adds.outputs_are h)) [
              | inl old ↦ output_wider ps a.known.items (w ∷ []) (decisions_by mine kept removed) a.work.gates b.work.gates o is.grows
                  (are.decided o old)
              | inr new ↦ subst (λ (x : ℕ × Wire). IsOutput ps (a.known.items
                  ++ w ∷ []) (decisions_by mine kept removed) b.work.gates x) (sym new) (record {
                    otherwise = is.otherwise;
                    value = λ run s has tells.
                        is.value v (with_lists mine 0 removed []) chain run s has
                        (tells_less ps a.known.items (w ∷ []) run s tells)
                        ∙ lists_say mine (fires (scene mine ps a.known.items kept) s) s v 0 is.otherwise kept removed [] of.few
                        (λ i lits there.
                        let z : 0 + i ≡ i = omega arith in
                        ap (fires (scene mine ps a.known.items kept) s) z
                        ∙ ap (λ (ls : List Literal). are_set (map (wanted mine) ls) s) (get_or_from_slice_get kept i lits [] there));
                  })
            ]);
        few = λ chains.
            let gates = is.few chains v (with_lists mine 0 removed []) chain in
            let more = cost_known a b q v w of.distinct at adds.known_is in
            let few = are.few chains in
            let first = adds.first_is in omega (arith, gates, more, few, first);
      }
    where
      counted : (n : ℕ) → n ≡ cond (is_quantifier q mine) n (suc n)
      counted n = rw my refl

  pub none_assembled : (inputs : ℕ) (a : Assembly) → IsUnassembled inputs a → AreAssembled mine ps kept removed is_plain a
  none_assembled inputs a is =
      let none = is.none in
      let first : Built → ℕ = λ b. b.first in
      record {
        first_is = ap first is.unused.none;
        room = is.room;
        below = subst (λ (ws : List Wire). AllBelow (next_of a.work.gates) ws) (sym none) (All-nil (λ w. w.var < next_of a.work.gates));
        known = λ k w lits here at. inl (is.unused.unbuilt k w here);
        ordered = is.unordered _;
        inputs = subst (λ (ws : List Wire). AreInputs mine 1 ps ws) (sym none) (no_inputs 1 ps);
        input_is = is.input_is ∙ (sym (no_next 1 ps) ∙ ap (next_input mine 1 ps) (sym none));
        outputs_are = is.no_outputs ∙ (sym (no_outputs ps) ∙ ap (outputs_of mine ps) (sym none));
        decided = λ o h. absurd (subst (λ (os : List (ℕ × Wire)). o ∈ os) is.no_outputs h);
        few = λ chains. (let e : next_of a.work.gates ≡ a.first + 0 = ap next_of is.unused.none in omega (arith, e));
      }
    where
      no_inputs : (n : ℕ) (ps : List (Quantifier × ℕ)) → AreInputs mine n ps []
      no_inputs n [] = tt
      no_inputs n (p ∷ ps) = tt

      no_next : (n : ℕ) (ps : List (Quantifier × ℕ)) → next_input mine n ps [] ≡ n
      no_next n [] = refl
      no_next n (p ∷ ps) = refl

      no_outputs : (ps : List (Quantifier × ℕ)) → outputs_of mine ps [] ≡ []
      no_outputs [] = refl
      no_outputs (p ∷ ps) = refl

pub on_ok : {E : Type 0} {P Q : Type 0} (r : Result ⊤ E) → (P → Q) → OnOk r P → OnOk r Q
on_ok (Ok u) f p = f p
on_ok (Err e) f p = p

pub numbers_next : (m : Quantifier) (ps : List (Quantifier × ℕ)) (i : ℕ) (q : Quantifier) (v : ℕ) → slice_get ps i ≡ Some (q, v)
    → variables_of m (take (i + 1) ps) ≡ variables_of m (take i ps) ++ cond (is_quantifier q m) (v ∷ []) []
numbers_next m ps i q v at = ap (variables_of m) (take_next ps i (q, v) at) ∙ from (take i ps)
  where
    from : (ps : List (Quantifier × ℕ)) → variables_of m (ps ++ (q, v) ∷ []) ≡ variables_of m ps ++ cond (is_quantifier q m) (v ∷ []) []
    from [] = refl
    from ((p, u) ∷ ps) = by (from ps) (is_quantifier p m)
      where
        by : variables_of m (ps ++ (q, v) ∷ []) ≡ variables_of m ps ++ cond (is_quantifier q m) (v ∷ []) [] → (b : Bool)
            → cond b (u ∷ variables_of m (ps ++ (q, v) ∷ [])) (variables_of m (ps ++ (q, v) ∷ []))
            ≡ cond b (u ∷ variables_of m ps) (variables_of m ps) ++ cond (is_quantifier q m) (v ∷ []) []
        by later true = ap (λ (l : List ℕ). u ∷ l) later
        by later false = later

-- ---- the whole circuit

names_all : (mine : Quantifier) (ps : List (Quantifier × ℕ)) (ws : List Wire) → length ws ≡ length ps
    → map (λ o. o.0) (outputs_of mine ps ws) ≡ variables_of mine ps
names_all mine [] ws e = refl
names_all mine (p ∷ ps) [] e = absurd (omega (arith, e))
names_all mine ((q, v) ∷ ps) (w ∷ ws) e = by (names_all mine ps ws (omega (arith, e))) (is_quantifier q mine)
  where
    by : map (λ o. o.0) (outputs_of mine ps ws) ≡ variables_of mine ps → (b : Bool)
        → map (λ o. o.0) (cond b ((v, w) ∷ outputs_of mine ps ws) (outputs_of mine ps ws))
        ≡ cond b (v ∷ variables_of mine ps) (variables_of mine ps)
    by later true = ap (λ (l : List ℕ). v ∷ l) later
    by later false = later

outputs_below : (mine : Quantifier) (n : ℕ) (ps : List (Quantifier × ℕ)) (ws : List Wire) → AllBelow n ws
    → AllByRecursion (λ o. o.1.var < n) (outputs_of mine ps ws)
outputs_below mine n [] ws all = tt
outputs_below mine n (p ∷ ps) [] all = tt
outputs_below mine n ((q, v) ∷ ps) (w ∷ ws) all =
    by (all 0 w (omega arith)) (outputs_below mine n ps ws (λ k d less. all (suc k) d (omega arith))) (is_quantifier q mine)
  where
    by : w.var < n → AllByRecursion (λ o. o.1.var < n) (outputs_of mine ps ws) → (b : Bool)
        → AllByRecursion (λ o. o.1.var < n) (cond b ((v, w) ∷ outputs_of mine ps ws) (outputs_of mine ps ws))
    by here later true = (here, later)
    by here later false = later

pub assembled_computes : (mine : Quantifier) (ps : List (Quantifier × ℕ)) (kept removed : List (List Literal)) (is_plain : Bool) (a : Assembly)
    (c : Circuit)
    → IsDistinct nat_eq (variables ps) → length a.known.items ≡ length ps → AreAssembled mine ps kept removed is_plain a
    → c.inputs ≡ variables_of (opponent mine) ps → a.first ≡ length c.inputs + 1 → c.outputs ≡ a.outputs.items
    → c.gates ≡ a.work.gates.gates
    → StandBelow a.work.gates.first c.gates → a.work.gates.first + length c.gates ≤ 2147483648
    → Computes mine ps (decisions_by mine kept removed) c
assembled_computes mine ps kept removed is_plain a c distinct count are inputs first outputs gates stands few =
    let os_are : c.outputs ≡ outputs_of mine ps a.known.items = outputs ∙ are.outputs_are in
    let first_is : a.work.gates.first ≡ suc (length c.inputs) = are.first_is ∙ (first ∙ omega arith) in
    let next_is : next_of a.work.gates ≡ suc (length c.inputs) + length c.gates = (let e = ap length gates in omega arith) in
    record {
      inputs = inputs;
      outputs = ap (map (λ o. o.0)) os_are ∙ names_all mine ps a.known.items count;
      ordered = record {
        gates = subst (λ (n : ℕ). StandBelow n c.gates) first_is stands;
        outputs = subst (λ (n : ℕ). AllByRecursion (λ o. o.1.var < n) c.outputs) next_is
            (subst (λ (os : List (ℕ × Wire)). AllByRecursion (λ o. o.1.var < next_of a.work.gates) os) (sym os_are)
            (outputs_below mine (next_of a.work.gates) ps a.known.items are.below));
        few = subst (λ (n : ℕ). n + length c.gates ≤ 2147483648) first_is few;
      };
      decides = λ o h.
          let is = are.decided o (subst (λ (os : List (ℕ × Wire)). o ∈ os) outputs h) in (
            is.otherwise,
            λ run has. is.value run (set_in_run c run)
                (subst (λ (n : ℕ). AreValues n a.work.gates.gates run) (sym first_is)
                (subst (λ (gs : List _). AreValues (suc (length c.inputs)) gs run) gates has))
                (subst (λ (os : List (ℕ × Wire)). Tells ps a.known.items run (map (λ o. literal_of o.0 (value_at run o.1)) os
                ++ input_literals 1 c.inputs run)) (sym os_are)
                (subst (λ (vs : List ℕ). Tells ps a.known.items run
                (map (λ o. literal_of o.0 (value_at run o.1)) (outputs_of mine ps a.known.items) ++ input_literals 1 vs run))
                (sym inputs) (run_tells run mine ps a.known.items distinct are.inputs))),
          );
    }
