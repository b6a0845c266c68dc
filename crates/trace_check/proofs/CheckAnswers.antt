-- The answer of a check, from what is told of the core.
use Rattle.trace_check.proofs.Cited.{rules, common_steps, ◌≡◌, ◌≢◌, ◌↔◌, Bool, true, false, List, refl, subst, IsTrue, arith, Result, Ok, Err}
use Rattle.trace_check.proofs.Cited.{Block, Qbf, IsClosed, IsTrueFormula, Side, Clauses, Cubes, Inference, Outcome, CheckFault}
use Rattle.trace_check.proofs.Cited.{C5, Rules, side_of, Derives, Proves, IsFirstFault, ResultHolds, SetsAgree}
use Rattle.std.specs.Prelude.{OnOk, IfErr}
use Rattle.qbf_core.specs.Qbf.{IsWellFormed}
use Rattle.trace_check.specs.Refused.{IsCoreRefusal}
use Rattle.trace_check.specs.Proof.{is_sat}
use Rattle.trace_check.proofs.Soundness.{soundness}

-- the claim of a verdict
pub claims_false : (f : Qbf) → ResultHolds Clauses f → IsTrue false ↔ IsTrueFormula f
claims_false f out = ((λ t. absurd (let none : false ≡ true = t in cc none)), (λ is. absurd (out is)))

pub claims_true : (f : Qbf) → ResultHolds Cubes f → IsTrue true ↔ IsTrueFormula f
claims_true f holds = ((λ t. holds), (λ is. refl))

-- ---- from the core to the trace

pub proves : {V : Type 0} (rules : Rules) (f : Qbf) (sets : List Block) (steps : List Inference) (outcome : Outcome) (side : Side)
    (r : Result V CheckFault) → side_of outcome ≡ side
    → SetsAgree f.blocks sets → OnOk r (Derives rules side f steps) → OnOk r (Proves rules f sets steps outcome)
proves rules f sets steps outcome side r is agree derives = grind (arith, common_steps)

pub refuses : {V : Type 0} (rules : Rules) (f : Qbf) (sets : List Block) (steps : List Inference) (outcome : Outcome) (side : Side)
    (r : Result V CheckFault) → side_of outcome ≡ side
    → SetsAgree f.blocks sets → IfErr r (IsCoreRefusal rules side f steps) → IfErr r (λ e. e ≢ C5 → IsFirstFault rules f sets steps outcome e)
refuses rules f sets steps outcome side r is agree fault = grind (arith, common_steps)

pub shows : {V : Type 0} (rules : Rules) (f : Qbf) (sets : List Block) (steps : List Inference) (outcome : Outcome) (side : Side)
    (truth : Bool) (r : Result V CheckFault) → side_of outcome ≡ side → is_sat outcome ≡ truth
    → (ResultHolds side f → IsTrue truth ↔ IsTrueFormula f) → IsClosed f → OnOk r (Proves rules f sets steps outcome)
    → OnOk r (IsTrue (is_sat outcome) ↔ IsTrueFormula f)
shows rules f sets steps outcome side truth (Ok v) is claim claims closed shown =
    rw claim (claims (subst (λ (s : Side). ResultHolds s f) is (soundness rules f sets steps outcome closed shown)))
shows rules f sets steps outcome side truth (Err e) is claim claims closed shown = tt

pub closed_of : (f : Qbf) → IsWellFormed f → IsClosed f
closed_of f formed = record { distinct = formed.prefix.distinct; bound = formed.closed }
