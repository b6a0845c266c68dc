-- From the verdict on what was read to the headline over the bytes.
use Rattle.trace_check.proofs.Cited.{common_steps, arith, ◌≡◌, ◌↔◌, ℕ, IsTrue, List, Option, Some, inl, inr, refl, subst, rules, Result, Ok, Err, IfSome, Qbf, IsTrueFormula, Derivation, Rules, ListsCore, ResultHolds}
use Rattle.trace_check.specs.declared.verified.Verified.{Verified}
use Rattle.qrp_check.specs.declared.verdict.Fault.{Fault}
use Rattle.qrp_check.specs.Verdict.{IsVerdict, IsVerdictUnless}
use Rattle.qbf_tokens.specs.declared.token.Comments.TheVariants.{Qdimacs, Qrp}
use Rattle.qbf_tokens.specs.Lined.{without_lines}
use Rattle.qbf_tokens.specs.Tokens.{tokens}
use Rattle.qbf_tokens.proofs.TokensEndOnce.{tokens-EndsOnce}
use Rattle.qdimacs.specs.declared.fault.FormulaFault.{FormulaFault}
use Rattle.qdimacs.specs.Grammar.{IsFormula}
use Rattle.qdimacs.specs.Reading.{read_formula}
use Rattle.qrp.specs.declared.fault.TraceFault.{TraceFault}
use Rattle.qrp.specs.Grammar.{IsTrace}
use Rattle.qrp.specs.Reading.{read_trace}
use Rattle.trace_check.specs.Proof.{IsProof, is_sat, side_of}
use Rattle.qrp_check.specs.Headline.{Spell, IsShown, Headline}
use Rattle.trace_check.proofs.Soundness.{soundness}
use Rattle.trace_check.proofs.Verdicts.{verdict_is_one}
use Rattle.qdimacs.specs.Faults as formulas
use Rattle.qdimacs.proofs.ReadIsSpelled as formulas_sound
use Rattle.qdimacs.proofs.SpelledIsRead as formulas_complete
use Rattle.qrp.specs.Faults as traces
use Rattle.qrp.proofs.ReadIsSpelled as traces_sound
use Rattle.qrp.proofs.SpelledIsRead as traces_complete
use Rattle.qrp_check.specs.declared.verdict.Fault.TheVariants as fault

pub formula_spelled : (bytes : List ℕ) (f : Qbf) → read_formula bytes ≡ Ok f → IsFormula (without_lines (tokens Qdimacs bytes)) f
formula_spelled bytes f is =
    let Spelled : Result Qbf (FormulaFault × ℕ) → Type 0 = λ r. formulas.Reads (tokens Qdimacs bytes) r in
    subst Spelled is (formulas_sound.read_explained (tokens Qdimacs bytes) (tokens-EndsOnce Qdimacs bytes))

pub trace_spelled : (bytes : List ℕ) (d : Derivation) → read_trace bytes ≡ Ok d → IsTrace (without_lines (tokens Qrp bytes)) d
trace_spelled bytes d is =
    let Spelled : Result Derivation (TraceFault × ℕ) → Type 0 = λ r. traces.Reads (tokens Qrp bytes) r in
    subst Spelled is (traces_sound.read_explained (tokens Qrp bytes) (tokens-EndsOnce Qrp bytes))

formula_read : (formula trace : List ℕ) (f : Qbf) (d : Derivation) → Spell formula trace f d → read_formula formula ≡ Ok f
formula_read formula trace f d spelled = formulas_complete.spelled_is_read (tokens Qdimacs formula) f spelled.formula_spelled

trace_read : (formula trace : List ℕ) (f : Qbf) (d : Derivation) → Spell formula trace f d → read_trace trace ≡ Ok d
trace_read formula trace f d spelled = traces_complete.spelled_is_read (tokens Qrp trace) d spelled.trace_spelled

-- the formula and the proof that were read, if Verified is returned
pub record Found (rules : Rules) (formula trace : List ℕ) (v : Verified) : Type 0 where
  pub f : Qbf
  pub d : Derivation
  pub reads_formula : read_formula formula ≡ Ok f
  pub reads_trace : read_trace trace ≡ Ok d
  pub proves : IsProof rules f d
  pub lists : ListsCore d.steps v.core.items
  pub claim : v.truth ≡ is_sat d.result
  pub truth : IsTrue v.truth ↔ IsTrueFormula f

pub found_of : (rules : Rules) (formula trace : List ℕ) (v : Verified) (r : Result Qbf (FormulaFault × ℕ)) (s : Result Derivation (TraceFault × ℕ))
    → read_formula formula ≡ r → read_trace trace ≡ s → IsVerdict rules r (Some s) (Ok v) → Found rules formula trace v
found_of rules formula trace v r s reads_formula reads_trace h = grind (arith, common_steps)

spelled_of : (rules : Rules) (formula trace : List ℕ) (v : Verified) (w : Found rules formula trace v) → Spell formula trace w.f w.d
spelled_of rules formula trace v w = search (rules, formula_spelled, trace_spelled)

-- the result of the trace holds
holds : (rules : Rules) (formula trace : List ℕ) (f : Qbf) (d : Derivation) → Spell formula trace f d → IsProof rules f d
    → ResultHolds (side_of d.result) f
holds rules formula trace f d spelled proves = search (rules, soundness)

headline_verified : (rules : Rules) (formula trace : List ℕ) (v : Verified) → Found rules formula trace v → Headline rules formula trace (Ok v)
headline_verified rules formula trace v w =
    let spelled = spelled_of rules formula trace v w in record {
      only = λ is. record { f = w.f; d = w.d; spelled = spelled; proves = w.proves };
      wherever = λ shown. inl refl;
      truth = λ f d other.
          let same_f : w.f ≡ f = cc (w.reads_formula, formula_read formula trace f d other) in
          let same_d : w.d ≡ d = cc (w.reads_trace, trace_read formula trace f d other) in
          rw (← same_f, ← same_d) (holds rules formula trace w.f w.d spelled w.proves, w.claim, w.truth);
    }

refused_not : (rules : Rules) (formula trace : List ℕ) (e : Fault) → IsShown rules formula trace
    → IsVerdict rules (read_formula formula) (Some (read_trace trace)) (Err e) → ⊥
refused_not rules formula trace e shown h =
    by e (rw (formula_read formula trace shown.f shown.d shown.spelled, trace_read formula trace shown.f shown.d shown.spelled) at h)
  where
    by : (e : Fault) → IsVerdict rules (Ok shown.f) (Some (Ok shown.d)) (Err e) → ⊥
    by (fault.Check c) h = (verdict_is_one rules shown.f shown.d.sets shown.d.steps shown.d.result c c).0 shown.proves h
    by e h = h

headline_known : (rules : Rules) (formula trace : List ℕ) (answer : Result Verified Fault)
    → IsVerdictUnless rules (Some formula) (Some trace) answer
    → Headline rules formula trace answer
headline_known rules formula trace (Ok v) (inl h) =
    headline_verified rules formula trace v (found_of rules formula trace v (read_formula formula) (read_trace trace) refl refl h)
headline_known rules formula trace (Ok v) (inr (inl h)) = absurd h
headline_known rules formula trace (Ok v) (inr (inr (inl h))) = absurd h
headline_known rules formula trace (Ok v) (inr (inr (inr h))) = absurd h
headline_known rules formula trace (Err e) (inl h) = record {
  only = λ is. absurd (cc is);
  wherever = λ shown. absurd (refused_not rules formula trace e shown h);
  truth = tt;
}
headline_known rules formula trace (Err e) (inr aside) = record { only = λ is. absurd (cc is); wherever = λ shown. inr aside; truth = tt }

pub headline : (rules : Rules) (formula trace : Option (List ℕ)) (answer : Result Verified Fault)
    → IsVerdictUnless rules formula trace answer
    → IfSome formula (λ a. IfSome trace (λ b. Headline rules a b answer))
headline rules formula trace answer h = grind (arith, common_steps, headline_known)
