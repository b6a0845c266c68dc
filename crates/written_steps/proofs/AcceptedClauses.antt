-- Clauses of a formula that accept an initial step, by their places.
use Rattle.qrp_rules.proofs.Cited.{◌≡◌, IsTrue, Bool, ℕ, List, slice_get, Option, Some}
use Rattle.qrp_rules.proofs.Cited.{Literal, IsClean}
use Rattle.qrp_rules.proofs.Cited.{Clauses, Qbf, reduct_conditions}
use Rattle.written_steps.specs.Accepted.{IsAcceptedBy, IsAcceptedStep}
use Rattle.written_steps.specs.Initial.{IsAcceptedAt, IsAcceptedIf}
use Rattle.qrp_rules.specs.Reducts.{HasNoReduct, IsReductAt}
use Rattle.qrp_rules.proofs.MembersDecide.{reduct_members, same_self}
use Rattle.qrp_rules.proofs.Cited.{false≢true, got_in}
use Rattle.qbf_core.specs.Sets.{HasMembersOf}
use Rattle.std.proofs.Common.{Err, IfNone, IfOk, IfSome, None, Ok, Result, false, true}
use Rattle.std.specs.Option.{is_some}

-- a reduct of the clause at a position is accepted, if that is clean
pub accepted : {E : Type 0} (f : Qbf) (lits clause : List Literal) (position : ℕ) (answer : Result Bool E)
    → slice_get f.clauses position ≡ Some clause → IsClean clause
    → IfOk answer (IsAcceptedBy (reduct_conditions Clauses f.blocks clause lits) f.blocks lits)
    → IfOk answer (λ t. IsTrue t → IsAcceptedAt f lits position)
accepted f lits clause position (Ok t) here clean of_clause = λ is.
    let reduct : IsAcceptedStep (reduct_conditions Clauses f.blocks clause lits) f.blocks lits = of_clause is in (
      record { clause = clause; here = here; clean = clean; reduct = record { within = reduct.follows.0; each = reduct.follows.1.0 } },
      (reduct.clean, reduct.bound),
    )
accepted f lits clause position (Err e) here clean of_clause = tt

-- what is accepted at some position is an initial clause
pub some_accepted : (f : Qbf) (lits : List Literal) (found : Option ℕ) → IfSome found (IsAcceptedAt f lits) → IsAcceptedIf f lits (is_some found)
some_accepted f lits (Some p) (at, (clean, bound)) t = record {
  follows = ((at.clause, got_in f.clauses p at.clause at.here, at.clean, at.reduct), tt);
  clean = clean;
  bound = bound;
}
some_accepted f lits None at t = absurd (false≢true t)

-- lists with the same members are reducts of the same clauses
same_reduct_at : (f : Qbf) (set lits : List Literal) (position : ℕ) → HasMembersOf set lits → IsReductAt f set position
    → IsReductAt f lits position
same_reduct_at f set lits position same at = record {
  clause = at.clause;
  here = at.here;
  clean = at.clean;
  reduct = reduct_members Clauses f.blocks at.clause at.clause set lits (same_self at.clause) same at.reduct;
}

module _ {E : Type 0} (f : Qbf) (set lits : List Literal) (same : HasMembersOf set lits) where
  pub same_found : (answer : Result (Option ℕ) E) → IfOk answer (λ found. IfSome found (IsReductAt f set))
      → IfOk answer (λ found. IfSome found (IsReductAt f lits))
  same_found (Ok (Some p)) at = same_reduct_at f set lits p same at
  same_found (Ok None) at = tt
  same_found (Err e) at = tt

  pub same_none : (answer : Result (Option ℕ) E) → IfOk answer (λ found. IfNone found (HasNoReduct f set))
      → IfOk answer (λ found. IfNone found (HasNoReduct f lits))
  same_none (Ok None) none = λ p at. none p (same_reduct_at f lits set p (same.1, same.0) at)
  same_none (Ok (Some p)) none = tt
  same_none (Err e) none = tt
