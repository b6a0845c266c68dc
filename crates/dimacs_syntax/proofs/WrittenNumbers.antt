-- Numbers that write literals are short.
use Rattle.std.proofs.Common.{ℕ, ◌≡◌, ◌≤◌, ◌<◌, ◌^◌, List, [], ◌∷◌, arith}
use Rattle.std.specs.Prelude.{ℤ, unsigned_abs}
use Rattle.std.specs.List.{AllByRecursion}
use Rattle.qbf_core.specs.WrittenLiterals.{IsWritten}

pub written_short : (last : ℕ) (vs : List ℤ) → last ≤ 2147483647 → AllByRecursion (IsWritten last) vs
    → AllByRecursion (λ v. unsigned_abs v < 2 ^ 31) vs
written_short last [] top h = tt
written_short last (v ∷ vs) top h = (omega (arith, top, h.0.1), written_short last vs top h.1)
