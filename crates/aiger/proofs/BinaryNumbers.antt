-- The bytes of numbers and gates, one after the other.
use Rattle.std.proofs.Common.{arith, ◌≡◌, ◌<◌, ◌≤◌, ◌+◌, ◌-◌, ℕ, suc, List, [], ◌∷◌, ◌++◌, ap, ◌∙◌, sym, Some, slice_get, drop}
use Rattle.std.proofs.Common.{length}
use Rattle.std.proofs.Common.{◌/◌, ◌%◌}
use Rattle.std.specs.Prelude.{Ok, Option}
use Rattle.std.proofs.Common.{subst}
use Rattle.std.proofs.lemmas.List.{append-nil}
use Rattle.std.specs.Io.KnownBytes.{Appends}
use Rattle.qbf_text.specs.Written.{IsPut, IsSent}
use Rattle.std.proofs.lemmas.Grind.{common_steps}
use Rattle.qbf_text.proofs.SentParts.{drop_at}
use Rattle.aiger.specs.declared.circuit.Gate.{Gate}
use Rattle.aiger.specs.Binary.{gate_bytes, gates_bytes, groups}
use Rattle.aiger.specs.Circuits.{Circuit, first_gate}

step : (i : ℕ) → i < 5 → 5 - i ≡ suc (5 - (i + 1))
step i less = omega arith

pub last_group : (n x : ℕ) → x < 128 → groups (suc n) x ≡ x ∷ []
unfolding groups
last_group n x less = grind (arith, common_steps)

pub next_group : (n x : ℕ) → 128 ≤ x → groups (suc n) x ≡ (128 + x % 128) ∷ groups n (x / 128)
unfolding groups
next_group n x more = grind (arith, common_steps)

pub groups_last : (i x : ℕ) → i < 5 → x < 128 → groups (5 - i) x ≡ x ∷ []
groups_last i x less small = ap (λ (n : ℕ). groups n x) (step i less) ∙ last_group (5 - (i + 1)) x small

pub groups_next : (i x : ℕ) → i < 5 → 128 ≤ x → groups (5 - i) x ≡ (128 + x % 128) ∷ [] ++ groups (5 - (i + 1)) (x / 128)
groups_next i x less more = ap (λ (n : ℕ). groups n x) (step i less) ∙ next_group (5 - (i + 1)) x more

pub groups_none : (i x : ℕ) → 5 ≤ i → groups (5 - i) x ≡ []
unfolding groups
groups_none i x past = let e : 5 - i ≡ 0 = omega arith in ap (λ (n : ℕ). groups n x) e

pub gates_next : (first : ℕ) (gates : List Gate) (i : ℕ) (g : Gate) → slice_get gates i ≡ Some g
    → gates_bytes (first + i) (drop i gates) ≡ gate_bytes (first + i) g ++ gates_bytes (first + (i + 1)) (drop (i + 1) gates)
gates_next first gates i g at =
    let k : suc (first + i) ≡ first + (i + 1) = omega arith in
    ap (gates_bytes (first + i)) (drop_at gates i g at)
    ∙ ap (λ n. gate_bytes (first + i) g ++ gates_bytes n (drop (i + 1) gates)) k

-- the gates of a circuit, by how many inputs it has and by the list
pub gates_are : (c : Circuit) (count : ℕ) (gates : List Gate) → count ≡ length c.inputs → gates ≡ c.gates
    → gates_bytes (count + 1) gates ≡ gates_bytes (first_gate c) c.gates
gates_are c count gates a b = let k : length c.inputs + 1 ≡ first_gate c = omega arith in rw (a, b) (ap (λ n. gates_bytes n c.gates) k)

-- nothing is left to be sent
pub sent_all : {S T E : Type 0} {written : S → Option (List ℕ)} {failures : S → ℕ} (failed_last : S
    → Type 0) {a b : S} {whole rest : List ℕ} (u : T)
    → IsSent written failures a b whole rest → rest ≡ [] → IsPut {E = E} written failures failed_last a b whole (Ok u)
sent_all {written = written} failed_last {a = a} {b = b} {whole = whole} u s none = record {
  ok = subst (λ (t : List ℕ). Appends (written a) (written b) t) (sym (s.parts
      ∙ (ap (λ (l : List ℕ). s.sent ++ l) none ∙ append-nil s.sent))) s.appended;
  err = tt;
  failures_ok = s.works;
  failures_err = tt;
  last = tt;
}
