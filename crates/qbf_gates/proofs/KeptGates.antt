-- Gates as they are kept, one more and one by one.
use Rattle.std.proofs.Common.{arith, ◌≡◌, ℕ, zero, suc, ◌<◌, List, [], ◌∷◌, ◌++◌, length, get_or, Some, refl, ap}
use Rattle.std.specs.Prelude.{slice_get}
use Rattle.qbf_core.specs.Literal.{Literal}
use Rattle.qbf_gates.specs.declared.kind.GateKind.{GateKind}
use Rattle.qbf_gates.specs.Gates.{Gate}
use Rattle.qbf_gates.specs.Kept.{gate_of, gates_of}

-- as many gates as names
pub lengths : (ks : List (ℕ × GateKind)) (inputs : List (List Literal)) → length ks ≡ length inputs → length (gates_of ks inputs) ≡ length ks
lengths [] inputs same = refl
lengths (k ∷ ks) [] same = absurd (omega arith)
lengths (k ∷ ks) (ls ∷ inputs) same = let e = lengths ks inputs (omega arith) in omega (arith, e)

-- one gate more
pub closed : (ks : List (ℕ × GateKind)) (inputs : List (List Literal)) (k : ℕ × GateKind) (ls : List Literal) → length ks ≡ length inputs
    → gates_of (ks ++ k ∷ []) (inputs ++ ls ∷ []) ≡ gates_of ks inputs ++ (k.0, gate_of k.1 ls) ∷ []
closed [] [] k ls same = refl
closed [] (i ∷ inputs) k ls same = absurd (omega arith)
closed (j ∷ ks) [] k ls same = absurd (omega arith)
closed (j ∷ ks) (i ∷ inputs) k ls same =
    ap (λ (gates : List (ℕ × Gate)). (j.0, gate_of j.1 i) ∷ gates) (closed ks inputs k ls (omega arith))

-- the gate at a place
pub gate_at : (ks : List (ℕ × GateKind)) (inputs : List (List Literal)) (i : ℕ) (k : ℕ × GateKind) (ls : List Literal) → i < length ks
    → k ≡ get_or ks i k → slice_get inputs i ≡ Some ls → slice_get (gates_of ks inputs) i ≡ Some (k.0, gate_of k.1 ls)
gate_at [] inputs i k ls within one other = absurd (omega arith)
gate_at (j ∷ ks) [] i k ls within one other = cc
gate_at (j ∷ ks) (m ∷ inputs) zero k ls within one other = cc
gate_at (j ∷ ks) (m ∷ inputs) (suc i) k ls within one other = gate_at ks inputs i k ls (omega arith) one other
