-- The parts of a canonical text, one after the other.
use Rattle.std.proofs.Common.{arith, ◌≡◌, ℕ, ◌+◌, List, [], ◌∷◌, ◌++◌, Option, Some, None, refl, sym, ap, ◌∙◌}
use Rattle.std.proofs.Common.{append_assoc, drop, slice_get, inl, inr}
use Rattle.std.proofs.lemmas.Bool.{cases_Bool}
use Rattle.std.specs.Prelude.{codes}
use Rattle.std.proofs.lemmas.Grind.{common_steps, flat_map-append}
use Rattle.std.proofs.lemmas.List.Folds.{flat_map-map}
use Rattle.std.specs.List.{flat_map, join_by}
use Rattle.qbf_core.specs.declared.quantifier.Quantifier.{Quantifier}
use Rattle.qbf_core.specs.Blocks.{Block, blocks_of, is_quantifier, with_pair}
use Rattle.qbf_core.specs.Literal.{Literal}
use Rattle.qbf_gates.specs.declared.kind.GateKind.{GateKind}
use Rattle.qbf_gates.specs.declared.kind.GateKind.TheVariants.{Choice, Conjunction, Difference, Disjunction}
use Rattle.qbf_gates.specs.Gates.{Gate, inputs_of}
use Rattle.qbf_gates.specs.Kept.{gate_of}
use Rattle.qbf_text.proofs.SentParts.{drop_at}
use Rattle.qcir.specs.Names.{Name, Question}
use Rattle.qcir.specs.Texts.{gate_line, gate_word, literal_text, name_of, quantifier_text, set_line, text}
use Rattle.qcir.specs.Written.{blocks_rest, closed_text, gates_text, input_text, opening, set_opening, sets_text}

-- ---- literals

-- literals by their first one
pub first_input : (names : List Name) (l : Literal) (ls : List Literal)
    → join_by (literal_text names) (44 ∷ 32 ∷ []) (l ∷ ls) ≡ literal_text names l ++ flat_map (input_text names) ls
first_input names l ls = refl

-- ---- a prefix

-- a variable that opens a set
opened : (names : List Name) (q : Quantifier) (v : ℕ) (more : List ℕ)
    → quantifier_text q ++ (40 ∷ (name_of names v ++ more)) ≡ (set_opening q ++ name_of names v) ++ more
opened names q v more = grind (arith, common_steps, append_assoc)

one_set : (names : List Name) (last : Option Quantifier) (q : Quantifier) (v : ℕ) (bs : List Block)
    → blocks_rest names last (record { quantifier = q; vars = v ∷ [] } ∷ bs)
    ≡ (opening last q ++ name_of names v) ++ (41 ∷ 10 ∷ sets_text names bs)
one_set names None q v bs = grind (arith, common_steps, append_assoc)
one_set names (Some r) q v bs =
    elim (cases_Bool (is_quantifier r q)) [
      | inl e ↦ rw e (grind (arith, common_steps, append_assoc))
      | inr e ↦ rw e (grind (arith, common_steps, append_assoc))
    ]

one_pair : (names : List Name) (last : Option Quantifier) (q : Quantifier) (v : ℕ) (bs : List Block)
    → blocks_rest names last (with_pair (q, v) bs) ≡ (opening last q ++ name_of names v) ++ blocks_rest names (Some q) bs
one_pair names last q v [] = one_set names last q v []
one_pair names last q v (b ∷ bs) = grind (arith, common_steps, append_assoc)

pub prefix_next : (names : List Name) (last : Option Quantifier) (ps : List (Quantifier × ℕ)) (i : ℕ) (q : Quantifier) (v : ℕ) (w : Name)
    → slice_get ps i ≡ Some (q, v) → w ≡ name_of names v
    → blocks_rest names last (blocks_of (drop i ps)) ≡ (opening last q ++ w) ++ blocks_rest names (Some q) (blocks_of (drop (i + 1) ps))
prefix_next names last ps i q v w at is =
    rw is (ap (λ (rest : List (Quantifier × ℕ)). blocks_rest names last (blocks_of rest)) (drop_at ps i (q, v) at)
    ∙ one_pair names last q v (blocks_of (drop (i + 1) ps)))

-- ---- gates

-- a gate has the inputs that it was made of
pub inputs_kept : (kind : GateKind) (ls : List Literal) → inputs_of (gate_of kind ls) ≡ ls
inputs_kept Conjunction ls = refl
inputs_kept Disjunction ls = refl
inputs_kept Difference [] = refl
inputs_kept Difference (a ∷ []) = refl
inputs_kept Difference (a ∷ b ∷ []) = refl
inputs_kept Difference (a ∷ b ∷ c ∷ ls) = refl
inputs_kept Choice [] = refl
inputs_kept Choice (a ∷ []) = refl
inputs_kept Choice (a ∷ b ∷ []) = refl
inputs_kept Choice (a ∷ b ∷ c ∷ []) = refl
inputs_kept Choice (a ∷ b ∷ c ∷ d ∷ ls) = refl

gate_closed : (names : List Name) (g : ℕ × Gate)
    → gate_line names g ++ 10 ∷ [] ≡ name_of names g.0 ++ (32 ∷ 61 ∷ 32 ∷ (gate_word g.1 ++ closed_text names (inputs_of g.1)))
gate_closed names g = grind (arith, common_steps, append_assoc)

pub gates_next : (names : List Name) (gates : List (ℕ × Gate)) (i v : ℕ) (kind : GateKind) (ls : List Literal) (w word : Name)
    → slice_get gates i ≡ Some (v, gate_of kind ls) → w ≡ name_of names v → word ≡ gate_word (gate_of kind ls)
    → gates_text names (drop i gates)
    ≡ (w ++ (32 ∷ 61 ∷ 32 ∷ (word ++ closed_text names ls))) ++ gates_text names (drop (i + 1) gates)
gates_next names gates i v kind ls w word at is said =
    let g : ℕ × Gate = (v, gate_of kind ls) in
    ap (gates_text names) (drop_at gates i g at)
    ∙ (ap (λ (line : List ℕ). line ++ gates_text names (drop (i + 1) gates)) (gate_closed names g)
    ∙ rw (is, said, inputs_kept kind ls) refl)

-- ---- the whole

abbrev pub parts : List Name → List Block → List (ℕ × Gate) → Literal → List ℕ
parts names bs gates l =
    ((codes "#QCIR-14" ++ 10 ∷ sets_text names bs) ++ (codes "output" ++ closed_text names (l ∷ []))) ++ gates_text names gates

text_parts : (q : Question) → text q ≡ parts q.names q.formula.blocks q.formula.gates q.formula.output
text_parts q =
    let sets = flat_map-map (λ (line : List ℕ). line ++ 10 ∷ []) (set_line q.names) q.formula.blocks in
    let gates = flat_map-map (λ (line : List ℕ). line ++ 10 ∷ []) (gate_line q.names) q.formula.gates in
    grind (arith, common_steps, append_assoc, flat_map-append, sets, gates)

pub text_of : (q : Question) (names : List Name) (bs : List Block) (gates : List (ℕ × Gate)) (l : Literal) → names ≡ q.names
    → bs ≡ q.formula.blocks → gates ≡ q.formula.gates → l ≡ q.formula.output → text q ≡ parts names bs gates l
text_of q names bs gates l named prefixed given out =
    text_parts q
    ∙ (ap (λ (ns : List Name). parts ns q.formula.blocks q.formula.gates q.formula.output) (sym named)
    ∙ (ap (λ (cs : List Block). parts names cs q.formula.gates q.formula.output) (sym prefixed)
    ∙ (ap (λ (gs : List (ℕ × Gate)). parts names bs gs q.formula.output) (sym given) ∙ ap (parts names bs gates) (sym out))))
