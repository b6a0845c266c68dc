-- The line and the meaning of what a struct encodes.
use Rattle.std.proofs.Common.{◌≡◌, ◌∙◌, ℕ, ◌≤◌, arith, Bool, true, false, if◌then◌else◌, ap, inl, inr, refl, sym, subst, Result, Ok, Err}
use Rattle.trace_check.specs.declared.fault.CheckFault.{CheckFault}
use Rattle.trace_check.specs.declared.fault.CheckFault.TheVariants.{C1, C2, C3, C4, C5, C6}
use Rattle.trace_check.specs.declared.verified.Verified.{Verified}
use Rattle.qrp_check.specs.declared.verdict.Fault.{Fault}
use Rattle.qrp_check.specs.declared.verdict.Fault.TheVariants as proof
use Rattle.qrp_report.specs.declared.refusal.Refusal.{Refusal}
use Rattle.qrp_report.specs.Lines.{refusal_line, verdict_line}
use Rattle.qrp_report.specs.Meanings.{meaning}
use Rattle.qrp_report.specs.OfFaults.{IsOfFault}
use Rattle.qrp_report.specs.Refusals.{check_refusal, refusal_of}
use Rattle.gate_verify.specs.declared.fault.Unverified.{Unverified}
use Rattle.gate_verify.specs.declared.fault.Unverified.TheVariants as fault
use Rattle.gate_report.specs.declared.refusal.GateRefusal.{GateRefusal}
use Rattle.gate_report.specs.Lines.{gate_line}
use Rattle.gate_report.specs.Meanings.{gate_meaning, unverified_meaning}
use Rattle.gate_report.specs.Refusals.{IsOfGates, question_refusal, too_long}
use Rattle.qrp_bytes.specs.declared.verdict.QrpVerdict.{QrpVerdict}
use Rattle.qrp_bytes.specs.Encoding.{EncodesFault, IsEncoded, IsGatesEncoded, NamesItsVariable, checked_line, encoded_gates}
use Rattle.qrp_bytes.specs.Encoding.{encoded_refusal, encoded_truth, encoded_unverified, result_line}

-- ---- the letters: V is 86, Q is 81, and those of other faults are lower

check_low : (c : CheckFault) → (check_refusal c).letter ≤ 80
check_low (C1 v) = omega arith
check_low (C2 v) = omega arith
check_low (C3 v) = omega arith
check_low C4 = omega arith
check_low C5 = omega arith
check_low (C6 n s) = omega arith

fault_low : (e : Fault) → (refusal_of e).letter ≤ 80
fault_low (proof.Formula e n) = omega arith
fault_low (proof.Trace e n) = omega arith
fault_low (proof.Check c) = check_low c

refusal_low : (r : Refusal) → IsOfFault r → r.letter ≤ 80
refusal_low r (e, named, is) = subst (λ (s : Refusal). s.letter ≤ 80) (sym is) (fault_low e)

-- no struct is that of a truth and of a fault, or that of a refusal of gates and of another fault
not_truth_and_gates : (b : Bool) (r : GateRefusal) → encoded_truth b ≡ encoded_gates r → ⊥
not_truth_and_gates b r is =
    let letters : ◌≡◌ {A = ℕ} 86 81 = ap (λ (v : QrpVerdict). v.letter) is in omega (arith, letters)

not_truth_and_refusal : (b : Bool) (r : Refusal) → r.letter ≤ 80 → encoded_truth b ≡ encoded_refusal r → ⊥
not_truth_and_refusal b r low is =
    let letters : 86 ≡ r.letter = ap (λ (v : QrpVerdict). v.letter) is in omega (arith, letters, low)

not_gates_and_refusal : (s : GateRefusal) (r : Refusal) → r.letter ≤ 80 → encoded_gates s ≡ encoded_refusal r → ⊥
not_gates_and_refusal s r low is =
    let letters : 81 ≡ r.letter = ap (λ (v : QrpVerdict). v.letter) is in omega (arith, letters, low)

-- ---- a struct encodes one truth, one refusal

same_truth : (b t : Bool) → encoded_truth b ≡ encoded_truth t → b ≡ t
same_truth b t is = by b t (ap (λ (v : QrpVerdict). v.truth) is)
  where
    by : (b t : Bool) → ◌≡◌ {A = ℕ} (if b then 1 else 0) (if t then 1 else 0) → b ≡ t
    by true true same = refl
    by true false same = absurd (omega (arith, same))
    by false true same = absurd (omega (arith, same))
    by false false same = refl

same_gates : {A : Type 0} (of : GateRefusal → A) (r s : GateRefusal) → encoded_gates r ≡ encoded_gates s → of r ≡ of s
same_gates of r s is =
    let number : r.number ≡ s.number = ap (λ (v : QrpVerdict). v.number) is in
    let line : r.line ≡ s.line = ap (λ (v : QrpVerdict). v.position) is in
    let same : r ≡ s = rw (number, line) refl in
    ap of same

same_refusal : {A : Type 0} (of : Refusal → A) (r s : Refusal) → encoded_refusal r ≡ encoded_refusal s → of r ≡ of s
same_refusal of r s is =
    let letter : r.letter ≡ s.letter = ap (λ (v : QrpVerdict). v.letter) is in
    let number : r.number ≡ s.number = ap (λ (v : QrpVerdict). v.number) is in
    let rule : r.rule ≡ s.rule = ap (λ (v : QrpVerdict). v.rule) is in
    let position : r.position ≡ s.position = ap (λ (v : QrpVerdict). v.position) is in
    let same : r ≡ s = rw (letter, number, rule, position) refl in
    ap of same

-- ---- the line

pub truth_line : (outcome : Result Bool Unverified) (v : QrpVerdict) (b : Bool) → IsGatesEncoded outcome v → v ≡ encoded_truth b
    → verdict_line b ≡ checked_line outcome
truth_line (Ok t) v b (is, named) truth = ap verdict_line (same_truth b t (sym truth ∙ is))
truth_line (Err (fault.Question e n)) v b (is, named) truth = absurd (not_truth_and_gates b (question_refusal e n) (sym truth ∙ is))
truth_line (Err fault.TooLong) v b (is, named) truth = absurd (not_truth_and_gates b too_long (sym truth ∙ is))
truth_line (Err (fault.Proof e)) v b (is, named) truth = absurd (not_truth_and_refusal b (refusal_of e) (fault_low e) (sym truth ∙ is))

pub gates_line : (outcome : Result Bool Unverified) (v : QrpVerdict) (r : GateRefusal) → IsGatesEncoded outcome v → v ≡ encoded_gates r
    → gate_line r ≡ checked_line outcome
gates_line (Ok t) v r (is, named) gates = absurd (not_truth_and_gates t r (sym is ∙ gates))
gates_line (Err (fault.Question e n)) v r (is, named) gates = same_gates gate_line r (question_refusal e n) (sym gates ∙ is)
gates_line (Err fault.TooLong) v r (is, named) gates = same_gates gate_line r too_long (sym gates ∙ is)
gates_line (Err (fault.Proof e)) v r (is, named) gates = absurd (not_gates_and_refusal r (refusal_of e) (fault_low e) (sym gates ∙ is))

pub proof_line : (outcome : Result Bool Unverified) (v : QrpVerdict) (r : Refusal) → IsGatesEncoded outcome v → IsOfFault r
    → v ≡ encoded_refusal r → refusal_line r ≡ checked_line outcome
proof_line (Ok t) v r (is, named) of refused = absurd (not_truth_and_refusal t r (refusal_low r of) (sym is ∙ refused))
proof_line (Err (fault.Question e n)) v r (is, named) of refused =
    absurd (not_gates_and_refusal (question_refusal e n) r (refusal_low r of) (sym is ∙ refused))
proof_line (Err fault.TooLong) v r (is, named) of refused = absurd (not_gates_and_refusal too_long r (refusal_low r of) (sym is ∙ refused))
proof_line (Err (fault.Proof e)) v r (is, named) of refused = same_refusal refusal_line r (refusal_of e) (sym refused ∙ is)

-- what a struct encodes is found: a refusal of gates or that of another fault, or a truth
pub fault_found : (e : Unverified) (v : QrpVerdict) → NamesItsVariable e → v ≡ encoded_unverified e
    → ((r : GateRefusal) → IsOfGates r → v ≡ encoded_gates r → ⊥) → ((r : Refusal) → IsOfFault r → v ≡ encoded_refusal r → ⊥) → ⊥
fault_found (fault.Question e n) v named is no_gates no_other = no_gates (question_refusal e n) (inl (e, refl)) is
fault_found fault.TooLong v named is no_gates no_other = no_gates too_long (inr refl) is
fault_found (fault.Proof e) v named is no_gates no_other = no_other (refusal_of e) (e, named, refl) is

pub result_found : (outcome : Result Bool Unverified) (v : QrpVerdict) → IsGatesEncoded outcome v → ((b : Bool) → v ≡ encoded_truth b → ⊥)
    → ((r : GateRefusal) → IsOfGates r → v ≡ encoded_gates r → ⊥) → ((r : Refusal) → IsOfFault r → v ≡ encoded_refusal r → ⊥) → ⊥
result_found (Ok t) v (is, named) no_truth no_gates no_other = no_truth t is
result_found (Err e) v (is, named) no_truth no_gates no_other = fault_found e v named is no_gates no_other

-- the result of a formula in clauses, as one of a formula of gates
abbrev pub as_checked : Result Verified Fault → Result Bool Unverified
as_checked (Ok v) = Ok v.truth
as_checked (Err e) = Err (fault.Proof e)

pub encoded_alike : (outcome : Result Verified Fault) (v : QrpVerdict) → IsEncoded outcome v → IsGatesEncoded (as_checked outcome) v
encoded_alike (Ok w) v is = is
encoded_alike (Err e) v is = is

pub line_alike : (outcome : Result Verified Fault) → checked_line (as_checked outcome) ≡ result_line outcome
line_alike (Ok w) = refl
line_alike (Err e) = refl

-- ---- the struct is that of something

pub fault_of_gates : (v : QrpVerdict) (r : GateRefusal) → IsOfGates r → v ≡ encoded_gates r → EncodesFault v
fault_of_gates v r (inl (e, is)) same = (fault.Question e r.line, tt, same ∙ ap encoded_gates is)
fault_of_gates v r (inr is) same = (fault.TooLong, tt, same ∙ ap encoded_gates is)

pub fault_of_proof : (v : QrpVerdict) (r : Refusal) → IsOfFault r → v ≡ encoded_refusal r → EncodesFault v
fault_of_proof v r (e, named, is) same = (fault.Proof e, named, same ∙ ap encoded_refusal is)

-- ---- the meaning

pub gates_meaning : (e : Unverified) (v : QrpVerdict) (r : GateRefusal) → v ≡ encoded_unverified e → v ≡ encoded_gates r
    → gate_meaning r ≡ unverified_meaning e
gates_meaning (fault.Question e n) v r is gates = same_gates gate_meaning r (question_refusal e n) (sym gates ∙ is)
gates_meaning fault.TooLong v r is gates = same_gates gate_meaning r too_long (sym gates ∙ is)
gates_meaning (fault.Proof e) v r is gates = absurd (not_gates_and_refusal r (refusal_of e) (fault_low e) (sym gates ∙ is))

pub proof_meaning : (e : Unverified) (v : QrpVerdict) (r : Refusal) → IsOfFault r → v ≡ encoded_unverified e → v ≡ encoded_refusal r
    → meaning r ≡ unverified_meaning e
proof_meaning (fault.Question e n) v r of is refused =
    absurd (not_gates_and_refusal (question_refusal e n) r (refusal_low r of) (sym is ∙ refused))
proof_meaning fault.TooLong v r of is refused = absurd (not_gates_and_refusal too_long r (refusal_low r of) (sym is ∙ refused))
proof_meaning (fault.Proof e) v r of is refused = same_refusal meaning r (refusal_of e) (sym refused ∙ is)
