-- From what is returned to the struct for it, and from the headline over a result to the headline over that struct.
use Rattle.std.proofs.Common.{rules, ◌≡◌, ◌↔◌, ℕ, Bool, IsTrue, List, inl, inr, refl, ap, ◌∙◌, subst, ◌⊎◌, if◌then◌else◌, Result, Ok, Err, IsOk}
use Rattle.qbf_core.specs.Truth.{IsTrueFormula}
use Rattle.qrp_rules.specs.declared.rules.Rules.{Rules}
use Rattle.trace_check.specs.declared.verified.Verified.{Verified}
use Rattle.qrp_check.specs.declared.verdict.Fault.{Fault}
use Rattle.qrp_check.specs.Verdict.{IsOutOfMemory, IsFormulaDevice, IsTraceDevice}
use Rattle.qrp_check.specs.Checked.{truth_of}
use Rattle.qrp_report.specs.OfFaults.{NamesVariable}
use Rattle.qrp_bytes.specs.declared.verdict.QrpVerdict.{QrpVerdict}
use Rattle.qrp_bytes.specs.Encoding.{IsEncoded, encoding, encoded_fault, encoded_truth}
use Rattle.qrp_bytes.specs.Verdicts.{StructHeadline}
use Rattle.qrp_check.specs.Headline.{Headline}

pub not_zero : (e : Fault) → (encoded_fault e).status ≡ 0 → ⊥
not_zero e is = search rules

pub memory_is_four : (e : Fault) → IsOutOfMemory (Err e) → (encoded_fault e).status ≡ 4
memory_is_four e is = search rules

-- the number that stands for a truth
abbrev pub truth_number : Bool → ℕ
truth_number b = if b then 1 else 0

pub one_is_true : (b : Bool) (A : Type 0) → IsTrue b ↔ A → (truth_number b ≡ 1) ↔ A
one_is_true b A same = search rules

-- no device is read
memory_alone : (outcome : Result Verified Fault) (e : Fault) → outcome ≡ Err e → (IsFormulaDevice outcome → ⊥) → (IsTraceDevice outcome → ⊥)
    → IsOk outcome ⊎ (IsOutOfMemory outcome ⊎ (IsFormulaDevice outcome ⊎ IsTraceDevice outcome)) → IsOutOfMemory (Err e)
memory_alone outcome e is no_formula no_trace h = search rules

pub headline_encoded : (rules : Rules) (formula trace : List ℕ) (outcome : Result Verified Fault)
    → Headline rules formula trace outcome
    → (IsFormulaDevice outcome → ⊥) → (IsTraceDevice outcome → ⊥) → StructHeadline rules formula trace (encoding outcome)
headline_encoded rules formula trace (Ok v) h no_formula no_trace = record {
  only = λ is. h.only refl;
  wherever = λ shown. inl refl;
  truth = λ is f d spelled.
      let says = h.truth f d spelled in
      (says.0, ap truth_number says.1, one_is_true v.truth (IsTrueFormula f) says.2);
}
headline_encoded rules formula trace (Err e) h no_formula no_trace = record {
  only = λ is. absurd (not_zero e is);
  wherever = λ shown. inr (memory_is_four e (memory_alone (Err e) e refl no_formula no_trace (h.wherever shown)));
  truth = λ is. absurd (not_zero e is);
}

-- the struct for a truth, and for a fault, is that for a verdict that has it
pub truth_encoded : (truth : Bool) (verdict : Result Verified Fault) (out : QrpVerdict) → ◌≡◌ {A = Result Bool Fault} (Ok truth) (truth_of verdict)
    → out ≡ encoded_truth truth → IsEncoded verdict out
truth_encoded truth (Ok v) out is same = (let b : truth ≡ v.truth = cc is in same ∙ ap encoded_truth b, tt)
truth_encoded truth (Err e) out is same = absurd (cc is)

pub fault_encoded : (e : Fault) (verdict : Result Verified Fault) (out : QrpVerdict) → ◌≡◌ {A = Result Bool Fault} (Err e) (truth_of verdict)
    → out ≡ encoded_fault e → NamesVariable e → IsEncoded verdict out
fault_encoded e (Ok v) out is same named = absurd (cc is)
fault_encoded e (Err f) out is same named = let b : e ≡ f = cc is in (same ∙ ap encoded_fault b, subst NamesVariable b named)
