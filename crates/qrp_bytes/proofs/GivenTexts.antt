-- The numbers of the steps at some places, and a text that is returned with its truth or its fault.
use Rattle.std.proofs.Common.{rules, Ok, Err, refl, ◌≡◌, Bool, ℕ, ◌+◌, ◌<◌, List, [], ◌∷◌, ◌++◌, length, take, get_or, ap, ◌∙◌, sym, Result}
use Rattle.std.proofs.lemmas.List.{map-append}
use Rattle.std.proofs.lemmas.Option.{slice_get-get_or}
use Rattle.std.specs.List.{AllByRecursion}
use Rattle.lists.proofs.DistinctNumbers.{all_at}
use Rattle.trace_items.specs.Derivations.{Derivation, steps_at}
use Rattle.trace_items.specs.Inferences.{Inference, IsAt, numbers}
use Rattle.qrp_rules.specs.declared.rules.Rules.{Rules}
use Rattle.trace_check.proofs.StepsAt.{next_at}
use Rattle.trace_check.specs.Proof.{is_sat}
use Rattle.qrp_check.specs.declared.verdict.Fault.{Fault}
use Rattle.qrp_report.specs.OfFaults.{NamesVariable}
use Rattle.qrp_report.specs.Results.{IsTrimmed, IsTrimmedFrom}
use Rattle.qrp_bytes.specs.declared.verdict.QrpVerdict.{QrpVerdict}
use Rattle.qrp_bytes.specs.Encoding.{encoded_truth}
use Rattle.qrp_bytes.specs.Texts.{ProofReturns, encoded_trace, lent_bytes}

-- the numbers so far, and that of the step at the next place
pub next_number : (steps : List Inference) (places : List ℕ) (k n : ℕ) (sofar : List ℕ)
    → AllByRecursion (λ i. i < length steps) places → k < length places
    → ((s : Inference) → IsAt steps (get_or places k 0) s → n ≡ s.number) → sofar ≡ numbers (steps_at steps (take k places))
    → sofar ++ n ∷ [] ≡ numbers (steps_at steps (take (k + 1) places))
next_number steps places k n sofar within less value is =
    let place : ℕ = get_or places k 0 in
    let step : Inference = get_or steps place (record { number = 0; lits = []; ants = [] }) in
    let inside = all_at (λ i. i < length steps) places k place within (slice_get-get_or places k 0 less) in
    let here : IsAt steps place step = slice_get-get_or steps place _ inside in
    let number_of : Inference → ℕ = λ s. s.number in
    ap (λ ns. ns ++ n ∷ []) is
    ∙ ap (λ m. numbers (steps_at steps (take k places)) ++ m ∷ []) (value step here)
    ∙ sym (map-append number_of (steps_at steps (take k places)) (step ∷ []))
    ∙ ap numbers (sym (next_at steps places k step less here))

-- a proof's truth is returned, and `Holds` is true of the trimmed trace
pub proof_returned : {rules : Rules} {formula trace : List ℕ} {out : QrpVerdict} {Holds : Result Derivation Fault → Type 0} {t : Derivation}
    {truth : Bool} → IsTrimmedFrom rules formula trace t → truth ≡ is_sat t.result → out ≡ encoded_truth truth → Holds (Ok t)
    → ProofReturns rules formula trace out Holds
proof_returned {t = t} from is same holds =
    record { outcome = Ok t; trimmed = (from, refl, refl); encoded = same ∙ ap encoded_truth is; named = tt; holds = holds }

-- a fault is returned, and `Holds` is true of the fault
pub fault_returned : {rules : Rules} {formula trace : List ℕ} {out : QrpVerdict} {Holds : Result Derivation Fault → Type 0} (fault : Fault)
    → IsTrimmed rules (lent_bytes formula) (lent_bytes trace) (Err fault) → out ≡ encoded_trace (Err fault) → NamesVariable fault
    → Holds (Err fault) → ProofReturns rules formula trace out Holds
fault_returned fault trimmed encoded named holds = search rules
