-- The clauses of what was read, or the fault that was told.
use Rattle.std.specs.Prelude.{OnOk}
use Rattle.std.proofs.Common.{◌≡◌, ◌↔◌, ◌⊎◌, ℕ, ◌<◌, arith, inl, inr, List, Option, Some, None, refl, sym, subst, Result, Ok, Err, IfSome}
use Rattle.qbf_core.specs.Qbf.{Qbf}
use Rattle.qcir.specs.Outcomes.{Tells}
use Rattle.qcir.specs.Reading.{Question, read_gates}
use Rattle.qcir.specs.declared.fault.QuestionFault.{QuestionFault}
use Rattle.qcir.specs.declared.fault.QuestionFault.TheVariants.{Q1, Q11}
use Rattle.qcir.proofs.Devices.{reads_no_device}
use Rattle.qrp_check.specs.Checked.{SourceCall}
use Rattle.gate_verify.specs.declared.fault.Unverified.{Unverified}
use Rattle.gate_verify.specs.declared.fault.Unverified.TheVariants as fault
use Rattle.gate_verify.specs.Made.{AreClausesOf, AreMade, AreMadeOf}

refused : (read : Result Question (QuestionFault × ℕ)) (e : QuestionFault) (n : ℕ) → read ≡ Err (e, n) → (e ≡ Q1 → ⊥) → (e ≡ Q11 → n ≡ 0)
    → AreMadeOf read (Err (fault.Question e n))
refused read e n is works zero_line = record {
  made = inl (subst (λ (r : Result Question (QuestionFault × ℕ)). AreClausesOf r (Err (fault.Question e n))) (sym is) refl);
  lines = ((λ device. absurd (works device)), zero_line);
  works = works;
  early = inr tt;
}

-- the fault of a text that was told
pub told : (bytes : List ℕ) (e : QuestionFault) (n : ℕ) → Tells (read_gates bytes) (Err (e, n))
    → AreMadeOf (read_gates bytes) (Err (fault.Question e n))
told bytes Q11 n on = record { made = inr refl; lines = ((λ device. absurd (cc device)), (λ is. on)); works = λ device. absurd (cc device); early = inr tt }
told bytes Q1 n is = absurd (reads_no_device bytes n is)
told bytes e n is = refused (read_gates bytes) e n is (λ device. absurd (cc device)) (λ memory. absurd (cc memory))

-- what was read from a source
pub made_of : (question : SourceCall) (text : List ℕ) (result : Result Qbf Unverified) → IfSome question.bytes (λ bytes. text ≡ bytes)
    → question.after ≡ question.before → AreMadeOf (read_gates text) result → AreMade question result
made_of question text result reads kept of = record {
  read = read_gates text;
  reads = by question.bytes reads;
  made = spread of.made;
  failed = λ small. ((λ device. absurd (of.works device)), (λ less. absurd (omega (arith, less, kept))));
  works = on_ok result;
  lines = of.lines;
  early = of.early;
}
  where
    by : (bytes : Option (List ℕ)) → IfSome bytes (λ b. text ≡ b) → IfSome bytes (λ b. read_gates text ≡ read_gates b)
    by None is = tt
    by (Some b) is = subst (λ (c : List ℕ). read_gates text ≡ read_gates c) is refl

    spread : {A B C : Type 0} → A ⊎ B → A ⊎ (B ⊎ C)
    spread (inl a) = inl a
    spread (inr b) = inr (inl b)

    on_ok : (r : Result Qbf Unverified) → OnOk r (question.after ≡ question.before)
    on_ok (Ok f) = kept
    on_ok (Err e) = tt

-- a source that failed, or an allocation
pub unread : (question : SourceCall) (e : QuestionFault) → (e ≡ Q1) ⊎ (e ≡ Q11)
    → (e ≡ Q1 → question.before < 18446744073709551615 → question.before < question.after)
    → (e ≡ Q11 → question.after ≡ question.before) → AreMade question (Err (fault.Question e 0))
unread question e which failed kept = record {
  read = absurd_read question.bytes;
  reads = reads_it question.bytes;
  made = inr (aside which);
  failed = λ small. both which small;
  works = tt;
  lines = ((λ is. refl), (λ is. refl));
  early = inr tt;
}
  where
    absurd_read : Option (List ℕ) → Result Question (QuestionFault × ℕ)
    absurd_read None = Err (Q1, 0)
    absurd_read (Some bytes) = read_gates bytes

    reads_it : (bytes : Option (List ℕ)) → IfSome bytes (λ b. absurd_read bytes ≡ read_gates b)
    reads_it None = tt
    reads_it (Some bytes) = refl

    aside : (e ≡ Q1) ⊎ (e ≡ Q11) → (e ≡ Q11) ⊎ (e ≡ Q1)
    aside (inl is) = inr is
    aside (inr is) = inl is

    both : (e ≡ Q1) ⊎ (e ≡ Q11) → question.before < 18446744073709551615 → (e ≡ Q1) ↔ (question.before < question.after)
    both (inl is) small = ((λ device. failed is small), (λ less. is))
    both (inr is) small = ((λ device. absurd (cc (device, is))), (λ less. absurd (let same = kept is in omega (arith, less, same))))
