-- Initial steps: reducts by their members, and clauses by their places.
use Rattle.qrp_rules.proofs.Cited.{◌≡◌, ◌+◌, ◌↔◌, IsTrue, Bool, ℕ, List, sym, rules, slice_get, Option, Some, take}
use Rattle.qrp_rules.proofs.Cited.{◌∈◌, Literal, positive, Block, Side, IsClean, IsTautology, IsReduct, RuleFault, IsFaultOf}
use Rattle.qrp_rules.proofs.Cited.{Clauses, Qbf, reduct_conditions, slice_get_within, get_or_from_slice_get, each_more}
use Rattle.qrp_rules.specs.Reducts.{HasNoReduct, IsReductAt}
use Rattle.qrp_rules.proofs.Cited.{false≢true, got_in, in_got}
use Rattle.qbf_core.specs.Rules.{IsInitial}
use Rattle.std.proofs.Common.{IfNone, IfSome, None, false, true, not}
use Rattle.std.specs.Option.{is_some}

-- a test of the reduct's conditions decides whether it is one
pub reduct_told : (side : Side) (blocks : List Block) (from to : List Literal) (answer : Option RuleFault) (t : Bool)
    → IsFaultOf (reduct_conditions side blocks from to) answer → is_some answer ≡ not t → IsTrue t ↔ IsReduct side blocks from to
reduct_told side blocks from to answer t all e = search rules

-- a tautology is not clean
pub not_clean : (lits : List Literal) → IsTautology lits → IsClean lits → ⊥
not_clean lits h clean = clean (positive h.0) h.1 h.2

-- a fact that holds of each member so far and of the next item, by its place, holds of all of them
pub each_got : {A : Type 0} (P : A → Type 0) (xs : List A) (i : ℕ) (x : A) → slice_get xs i ≡ Some x → P x
    → ((y : A) → y ∈ take i xs → P y) → (y : A) → y ∈ take (i + 1) xs → P y
each_got P xs i x e = each_more P xs i x (slice_get_within xs i x e) (sym (get_or_from_slice_get xs i x x e))

-- an initial clause is a reduct of a clause at some position
pub some_reduct : (f : Qbf) (set : List Literal) (found : Option ℕ) → IfSome found (IsReductAt f set) → is_some found ≡ true
    → IsInitial Clauses f set
some_reduct f set (Some p) at t = (at.clause, got_in f.clauses p at.clause at.here, at.clean, at.reduct)
some_reduct f set None at t = absurd (false≢true t)

pub no_reduct : (f : Qbf) (set : List Literal) (found : Option ℕ) → IfNone found (HasNoReduct f set) → is_some found ≡ false
    → IsInitial Clauses f set → ⊥
no_reduct f set None none t (clause, h, clean, reduct) =
    let got = in_got f.clauses clause h in none got.0 (record { clause = clause; here = got.1; clean = clean; reduct = reduct })
no_reduct f set (Some p) none t initial = false≢true (sym t)
