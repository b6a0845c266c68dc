-- What is decided on a variable, as gates, and the wires of a whole prefix.
use Rattle.std.specs.Prelude.{◌≡◌, ℕ, suc, ◌+◌, ◌++◌, ◌<◌, ◌≤◌, take, Some, slice_get, Bool, true, false, if◌then◌else◌, List, [], ◌∷◌, length}
use Rattle.std.specs.Prelude.{nat_eq}
use Rattle.std.specs.List.{IsDistinct}
use Rattle.qbf_core.specs.declared.quantifier.Quantifier.{Quantifier}
use Rattle.qbf_core.specs.Blocks.{is_quantifier, variables}
use Rattle.qbf_core.specs.Literal.{Literal}
use Rattle.qbf_core.specs.Members.{◌∈◌}
use Rattle.aiger.specs.Building.{Built, Grows, HasValues, next_of}
use Rattle.aiger.specs.Wires.{Wire, plain, value_at}
use Rattle.qbf_strategy.specs.declared.entries.Entries.{Entries}
use Rattle.qbf_strategy.specs.declared.entries.Entry.{Entry}
use Rattle.qbf_strategy.specs.Assembling.{AllBelow, Tells}
use Rattle.qbf_strategy.specs.Chains.{Chain, HaveChains, Sayings, evaluated, with_lists}
use Rattle.qbf_strategy.specs.Computing.{SeesBefore}
use Rattle.qbf_strategy.specs.Conditions.{AreConditions, IsReady, IsUnused, Scene, fires, scene}
use Rattle.qbf_strategy.specs.Costs.{cost_among}
use Rattle.qbf_strategy.specs.Decisions.{Decision, decided, decisions_by}
use Rattle.qbf_strategy.specs.Ordering.{AreOrdered}
use Rattle.qbf_strategy.specs.declared.assembling.Assembly.{Assembly}

-- the decisions that set the variable v are ready
abbrev pub AreReady : Scene → ℕ → Sayings → Type 0
AreReady at v said = (k : ℕ) (l : Literal) → (k, l) ∈ said → l.var ≡ v → IsReady at k

-- the entries from this one back to the first are those of a variable, and their decisions are ready
pub record HasChain (at : Scene) (es : List Entry) (last : ℕ) : Type 0 where
  pub variable : ℕ
  pub said : Sayings
  pub chain : Chain es variable last said
  pub ready : AreReady at variable said

-- after some gates, few if they are a plain chain, the wire has the value that the entries from this one back to the first give their
-- variable
pub record IsChosen (at : Scene) (es : List Entry) (last : ℕ) (is_plain : Bool) (old new : Built) (conditions : List Wire) (w : Wire)
    : Type 0 where
  pub grows : Grows old new
  pub known : AreConditions at new conditions
  pub below : w.var < next_of new
  pub otherwise : Bool
  pub value : (v : ℕ) (said : Sayings) → Chain es v last said → (run : ℕ → Bool) (s : List Literal) → HasValues new run
      → Tells at.ps at.ws run s → value_at run w ≡ evaluated (fires at s) v otherwise said
  pub few : is_plain ≡ true → (v : ℕ) (said : Sayings) → Chain es v last said
      → next_of new ≤ next_of old + cost_among at.kept (v ∷ []) said

-- what is left of the literals, the value that the others give, and the gates that they took
pub record IsLeft (at : Scene) (es : List Entry) (number : ℕ) (otherwise : Bool) (old now : Built) (w : Wire) (v : ℕ)
    (said : Sayings) : Type 0 where
  pub left : Sayings
  pub chain : Chain es v number left
  pub value : (run : ℕ → Bool) (s : List Literal) → HasValues now run → Tells at.ps at.ws run s
      → evaluated (fires at s) v (value_at run w) left ≡ evaluated (fires at s) v otherwise said
  pub ready : AreReady at v said → AreReady at v left
  pub few : next_of now + cost_among at.kept (v ∷ []) left ≤ next_of old + cost_among at.kept (v ∷ []) said

-- after some gates, the wire has the value that the entries after this one give their variable
pub record IsChosenAfter (at : Scene) (es : List Entry) (last number : ℕ) (otherwise : Bool) (old now : Built) (conditions : List Wire)
    (w : Wire)
    : Type 0 where
  pub grows : Grows old now
  pub known : AreConditions at now conditions
  pub below : w.var < next_of now
  pub rest : (v : ℕ) (said : Sayings) → Chain es v last said → IsLeft at es number otherwise old now w v said

-- the outputs of the variables of a quantifier, by the wires of the first variables
abbrev pub outputs_of : Quantifier → List (Quantifier × ℕ) → List Wire → List (ℕ × Wire)
outputs_of mine [] ws = []
outputs_of mine (p ∷ ps) [] = []
outputs_of mine ((q, v) ∷ ps) (w ∷ ws) = if is_quantifier q mine then (v, w) ∷ outputs_of mine ps ws else outputs_of mine ps ws

-- the number after one variable, if those of the other quantifier are numbered
abbrev pub number_after : Quantifier → Quantifier → ℕ → ℕ
number_after mine q n = if is_quantifier q mine then n else suc n

-- the number of the next input, if the first has the number n
abbrev pub next_input : Quantifier → ℕ → List (Quantifier × ℕ) → List Wire → ℕ
next_input mine n [] ws = n
next_input mine n (p ∷ ps) [] = n
next_input mine n ((q, v) ∷ ps) (w ∷ ws) = next_input mine (number_after mine q n) ps ws

-- the wires of the other quantifier's variables are those of the inputs from the number n on
abbrev pub AreInputs : Quantifier → ℕ → List (Quantifier × ℕ) → List Wire → Type 0
AreInputs mine n [] ws = Unit {0}
AreInputs mine n (p ∷ ps) [] = Unit {0}
AreInputs mine n ((q, v) ∷ ps) (w ∷ ws) = (is_quantifier q mine ≡ false → w ≡ plain n) × AreInputs mine (number_after mine q n) ps ws

-- the value of an output is the one that is decided, if the wires of the first variables tell theirs
pub record IsOutput (ps : List (Quantifier × ℕ)) (ws : List Wire) (ds : List Decision) (b : Built) (o : ℕ × Wire) : Type 0 where
  pub otherwise : Bool
  pub value : (run : ℕ → Bool) (s : List Literal) → HasValues b run → Tells ps ws run s → value_at run o.1 ≡ decided otherwise ds o.0 s

-- the entries of decisions that see what stands before, at most as many as there are conditions
pub record AreEntriesOf (mine : Quantifier) (ps : List (Quantifier × ℕ)) (kept removed : List (List Literal)) (entries : Entries)
    : Type 0 where
  pub have : HaveChains ps entries.heads.items entries.entries.items (with_lists mine 0 removed [])
  pub places : length entries.heads.items ≡ length ps
  pub distinct : IsDistinct nat_eq (variables ps)
  pub few : length removed ≤ length kept
  pub sees : SeesBefore ps (decisions_by mine kept removed)

-- gates, few if they are plain chains, and wires for the first variables of a prefix
pub record AreAssembled (mine : Quantifier) (ps : List (Quantifier × ℕ)) (kept removed : List (List Literal)) (is_plain : Bool)
    (a : Assembly) : Type 0 where
  pub first_is : a.work.gates.first ≡ a.first
  pub room : a.first ≤ 2147483648
  pub below : AllBelow (next_of a.work.gates) a.known.items
  pub known : AreConditions (scene mine ps a.known.items kept) a.work.gates a.work.conditions.items
  pub ordered : AreOrdered (scene mine ps a.known.items kept) a.work.ordered
  pub inputs : AreInputs mine 1 ps a.known.items
  pub input_is : a.input ≡ next_input mine 1 ps a.known.items
  pub outputs_are : a.outputs.items ≡ outputs_of mine ps a.known.items
  pub decided : (o : ℕ × Wire) → o ∈ a.outputs.items → IsOutput ps a.known.items (decisions_by mine kept removed) a.work.gates o
  pub few : is_plain ≡ true → next_of a.work.gates ≤ a.first
      + cost_among kept (take (length a.known.items) (variables ps)) (with_lists mine 0 removed [])

-- the next variable has the next input
pub record AddsInput (a b : Assembly) : Type 0 where
  pub number : a.input < a.first
  pub known_is : b.known.items ≡ a.known.items ++ plain a.input ∷ []
  pub input_is : b.input ≡ a.input + 1
  pub work_is : b.work ≡ a.work
  pub outputs_are : b.outputs.items ≡ a.outputs.items
  pub first_is : b.first ≡ a.first

-- the next variable has an output with what is chosen
pub record AddsOutput (mine : Quantifier) (ps : List (Quantifier × ℕ)) (kept : List (List Literal)) (is_plain : Bool)
    (entries : Entries) (name : ℕ) (a b : Assembly) : Type 0 where
  pub last : ℕ
  pub last_is : slice_get entries.heads.items (length a.known.items) ≡ Some last
  pub wire : Wire
  pub chosen : IsChosen (scene mine ps a.known.items kept) entries.entries.items last is_plain a.work.gates b.work.gates
      b.work.conditions.items wire
  pub ordered : AreOrdered (scene mine ps a.known.items kept) b.work.ordered
  pub known_is : b.known.items ≡ a.known.items ++ wire ∷ []
  pub outputs_are : b.outputs.items ≡ a.outputs.items ++ (name, wire) ∷ []
  pub input_is : b.input ≡ a.input
  pub first_is : b.first ≡ a.first

-- no wires yet, for this many inputs
pub record IsUnassembled (inputs : ℕ) (a : Assembly) : Type 0 where
  pub unused : IsUnused a.first a.work.gates a.work.conditions.items
  pub unordered : (at : Scene) → AreOrdered at a.work.ordered
  pub none : a.known.items ≡ []
  pub no_outputs : a.outputs.items ≡ []
  pub input_is : a.input ≡ 1
  pub first_is : a.first ≡ inputs + 1
  pub room : a.first ≤ 2147483648
