-- The parts of a canonical text, one after the other.
use Rattle.qrp.proofs.Cited.{common_steps, ◌≡◌, ℕ, List, ◌++◌, sym, ◌∙◌, append_assoc, append-nil, length, arith, ◌<◌, AllByRecursion}
use Rattle.qrp.proofs.Cited.{flat_map-append, flat_map-map, line_rest-map, zero_rest, line_text, Header, Inference, Derivation, steps_at}
use Rattle.qrp.proofs.Cited.{with_steps_at, closed_numbers, set_line, step, header, result, text, step_text, steps_text, flat_map, set_text}
use Rattle.qbf_text.proofs.SentParts as sent

-- as many steps stand at some positions as there are positions
pub length_at : (steps : List Inference) (positions : List ℕ) → AllByRecursion (λ i. i < length steps) positions
    → length (steps_at steps positions) ≡ length positions
length_at = sent.length_at

step_line : (s : Inference) → line_text (step s) ≡ step_text s
step_line s = grind (arith, common_steps, line_rest-map, zero_rest, closed_numbers)

-- ---- the whole

pub text_parts : (d : Derivation)
    → text d ≡ line_text (header d.header) ++ (flat_map set_text d.sets ++ (steps_text d.steps ++ line_text (result d.result)))
text_parts d = grind (arith, common_steps, append-nil, flat_map-append, flat_map-map, append_assoc, set_line, step_line)

-- the text of a trace with the steps at some positions alone, in parts
pub text_parts_at : (d : Derivation) (positions : List ℕ) (h : Header) → AllByRecursion (λ i. i < length d.steps) positions → h ≡ d.header
    → text (with_steps_at d positions) ≡ line_text (header (record { vars = h.vars; steps = length positions }))
    ++ (flat_map set_text d.sets ++ (steps_text (steps_at d.steps positions) ++ line_text (result d.result)))
text_parts_at d positions h inside is =
    text_parts (with_steps_at d positions)
    ∙ (λ i. line_text (header (record { vars = (sym is i).vars; steps = length_at d.steps positions inside i }))
    ++ (flat_map set_text d.sets ++ (steps_text (steps_at d.steps positions) ++ line_text (result d.result))))
