-- From what was read and checked to what is reported of its bytes.
use Rattle.std.proofs.Common.{rules, ◌≡◌, ℕ, List, Option, Some, None, inl, inr, refl, subst, Result, Ok, Err, IfSome, IfOk}
use Rattle.qbf_core.specs.Qbf.{Qbf}
use Rattle.qbf_text.specs.WholeTexts.{TellsFailures}
use Rattle.qdimacs.specs.declared.fault.FormulaFault.{FormulaFault}
use Rattle.qdimacs.specs.declared.fault.FormulaFault.TheVariants.{F1, F9}
use Rattle.qdimacs.specs.Reading.{Gives, reads_bytes, read_formula}
use Rattle.trace_items.specs.Derivations.{Derivation, IsWellFormed}
use Rattle.qrp.specs.Reading.{read_trace}
use Rattle.qrp_rules.specs.declared.rules.Rules.{Rules}
use Rattle.qrp_check.specs.declared.verdict.Fault.{Fault}
use Rattle.trace_check.specs.declared.verified.Verified.{Verified}
use Rattle.qrp_check.specs.Checked.{SourceCall, IsChecked, WasReadFrom, verdict_of}
use Rattle.core_walk.specs.Core.{ListsCore}
use Rattle.trace_check.specs.Proof.{IsProof}
use Rattle.trace_check.specs.Trim.{trimmed_trace}
use Rattle.qrp_check.specs.Verdict.{IsVerdict, IsVerdictUnless}
use Rattle.qrp_check.proofs.HeadlineOfVerdict.{found_of}
use Rattle.qrp_check.proofs.TrimText.{trimmed_text_proves}
use Rattle.qrp_report.specs.Results.{IsFormulaRead, IsFormulaRefused, IsTrimmedFrom, IsTrimmed}

read_as : (bytes : Option (List ℕ)) (f : Qbf) → Gives (Ok f) (reads_bytes bytes) → IfSome bytes (λ b. read_formula b ≡ Ok f)
read_as bytes f g = search rules

pub formula_read : (formula : SourceCall) (f : Qbf) → Gives (Ok f) (reads_bytes formula.bytes) → formula.after ≡ formula.before
    → IsFormulaRead formula (Ok f)
formula_read formula f gives works = (read_as formula.bytes f gives, works)

pub formula_refused : (bytes : Option (List ℕ)) (before after : ℕ) (e : FormulaFault) (n : ℕ) → Gives (Err (e, n)) (reads_bytes bytes)
    → TellsFailures {A = Qbf} F1 F9 before after (Err (e, n)) → IsFormulaRefused bytes before after e n
formula_refused bytes before after e n s tells = search rules

trimmed_of : (rules : Rules) (a b : List ℕ) (d : Derivation) (v : Verified) → IsVerdict rules (read_formula a) (Some (read_trace b)) (Ok v)
    → IsWellFormed d → read_trace b ≡ Ok d → IsTrimmedFrom rules a b (trimmed_trace d v.core.items)
trimmed_of rules a b d v h formed reads =
    let w = found_of rules a b v (read_formula a) (Ok d) refl reads (rw reads at h) in
    let same : w.d ≡ d = cc (w.reads_trace, reads) in
    let lists : ListsCore d.steps v.core.items = subst (λ (d : Derivation). ListsCore d.steps v.core.items) same w.lists in
    let proves : IsProof rules w.f d = subst (IsProof rules w.f) same w.proves in
    record {
      f = w.f;
      d = d;
      core = v.core.items;
      reads_formula = w.reads_formula;
      reads_trace = reads;
      lists = lists;
      proves = proves;
      is = refl;
      whole = trimmed_text_proves rules w.f d v.core.items formed lists proves;
    }

by_bytes : (rules : Rules) (formula trace : Option (List ℕ)) (d : Derivation) (v : Verified) → IsVerdictUnless rules formula trace (Ok v)
    → WasReadFrom trace d
    → IfSome formula (λ a. IfSome trace (λ b. IsTrimmedFrom rules a b (trimmed_trace d v.core.items)))
by_bytes rules (Some a) (Some b) d v (inl h) (formed, reads) = trimmed_of rules a b d v h formed reads
by_bytes rules (Some a) (Some b) d v (inr (inl h)) reads = absurd h
by_bytes rules (Some a) (Some b) d v (inr (inr (inl h))) reads = absurd h
by_bytes rules (Some a) (Some b) d v (inr (inr (inr h))) reads = absurd h
by_bytes rules formula trace d v h reads = tt

-- A trace that was read and verified is trimmed from its bytes.
pub trims : (rules : Rules) (formula trace : SourceCall) (d : Derivation) (v : Verified) → IsChecked rules formula trace (Ok v)
    → (formula.after ≡ formula.before) × (trace.after ≡ trace.before) → WasReadFrom trace.bytes d
    → IsTrimmed rules formula trace (Ok (trimmed_trace d v.core.items))
trims rules formula trace d v checked works reads =
    (by_bytes rules formula.bytes trace.bytes d v checked.verdict reads, works.0, works.1)

-- The trace that is trimmed from texts in memory.
pub found_trimmed : (rules : Rules) (a b : List ℕ) (answer : Result (Derivation × Verified) Fault)
    → IsVerdictUnless rules (Some a) (Some b) (verdict_of answer) → IfOk answer (λ r. WasReadFrom (Some b) r.0)
    → IfOk answer (λ r. IsTrimmedFrom rules a b (trimmed_trace r.0 r.1.core.items))
found_trimmed rules a b (Ok r) h reads = by_bytes rules (Some a) (Some b) r.0 r.1 h reads
found_trimmed rules a b (Err e) h reads = tt
