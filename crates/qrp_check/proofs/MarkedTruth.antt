-- From the marks of a core to the verdict that lists it, of which a check without the list returns the truth.
use Rattle.trace_check.proofs.Cited.{rules, common_steps, ◌≡◌, ◌↔◌, ℕ, List, inl, sym, ap, arith, IsTrue, Option, Result, Ok, IfSome, ListsCore, Derivation, Qbf, IsTrueFormula, Rules, Bool}
use Rattle.trace_check.specs.declared.verified.Verified.{Verified}
use Rattle.qrp_check.specs.Verdict.{IsVerdict, StopsAfterTrace}
use Rattle.qrp_check.specs.declared.verdict.Fault.{Fault}
use Rattle.std.specs.Global.{Vec}
use Rattle.qbf_text.specs.Stopping.{IfKnown}
use Rattle.qrp.specs.Returns.{StopsAfterResult}
use Rattle.qrp.specs.Returns as traces
use Rattle.qrp_check.specs.Checked.{SourceCall, IsChecked, IsCheckedOf, IsTruthOf}
use Rattle.core_walk.specs.Marks.{MarksCore}
use Rattle.trace_check.specs.Proof.{IsProof, is_sat}
use Rattle.qdimacs.specs.Reading as formulas
use Rattle.trace_check.proofs.ListedCore.{lists}

-- ---- the verdict on a formula that was read

verified_trace : (rules : Rules) (trace : Option (List ℕ)) (f : Qbf) (d : Derivation) (v : Verified)
    → IfSome (traces.reads_bytes trace) (λ r. r ≡ Ok d) → IsProof rules f d → ListsCore d.steps v.core.items → v.truth ≡ is_sat d.result
    → (IsTrue v.truth ↔ IsTrueFormula f) → IsVerdict rules (Ok f) (traces.reads_bytes trace) (Ok v)
verified_trace rules trace f d v reads_d proves lists claim truth = grind (arith, common_steps)

-- the truth of a trace that was read, of which the core is marked
pub verified_of : (rules : Rules) (trace : SourceCall) (f : Qbf) (d : Derivation) (marks : Vec Bool)
    → IfSome (traces.reads_bytes trace.bytes) (λ r. r ≡ Ok d) → trace.after ≡ trace.before
    → IsProof rules f d → MarksCore d.steps marks.items → (IsTrue (is_sat d.result) ↔ IsTrueFormula f)
    → IsTruthOf (IsCheckedOf rules f trace) (Ok (is_sat d.result))
verified_of rules trace f d marks reads_d kept proves m truth =
    let w = lists d.steps marks (is_sat d.result) m in (
      Ok w.verified,
      record {
        verdict = ((λ is. is), inl (verified_trace rules trace.bytes f d w.verified reads_d proves w.core w.claim (rw w.claim truth)));
        failed = λ small. (λ is. absurd is, λ less. absurd (omega (arith, less, kept)));
        lines = tt;
        works = kept;
      },
      ap Ok (sym w.claim),
    )

-- a trace that was read stops after its result
pub trace_read : (d : Derivation) (before after : Option (List ℕ)) → IfKnown (StopsAfterResult d) before after
    → IfKnown StopsAfterTrace before after
trace_read d before after stops = search rules

-- ---- the verdict on both texts

-- the verdict on a formula that was read is that on both texts
pub checked_both : (rules : Rules) (formula trace : SourceCall) (f : Qbf) (v : Result Verified Fault)
    → IfSome (formulas.reads_bytes formula.bytes) (λ r. r ≡ Ok f) → formula.after ≡ formula.before → IsCheckedOf rules f trace v
    → IsChecked rules formula trace v
checked_both rules formula trace f v reads_f kept of = grind (arith, common_steps)
