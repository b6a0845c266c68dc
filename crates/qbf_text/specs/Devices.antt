-- The calls of a source or a sink as contracts see them: the bytes that remain or went out, if they are known, the bound on what can still
-- come, and the count of failures, which never falls.
use Rattle.std.specs.Prelude.{◌≡◌, ℕ, ◌+◌, ◌-◌, ◌^◌, ◌<◌, ◌≤◌, List, length, take, Option, Result, IfOk, OnOk, OnErr}
use Rattle.std.specs.Io.KnownBytes.{Consumes, IsAtEnd, Keeps, WriteAppends}

-- A pull puts the next bytes at the front of `into`: at least one, unless the source is at its end.
pub record Pulls {S E : Type 0} (remaining : S → Option (List ℕ)) (bound failures : S → ℕ) (old new : S) (into : List ℕ)
    (result : Result ℕ E) : Type 0 where
  pub fits : IfOk result (λ n. n ≤ length into)
  pub bytes : IfOk result (λ n. Consumes (remaining old) (remaining new) (take n into))
  pub at_end : IfOk result (λ n. n ≡ 0 → IsAtEnd (remaining new))
  pub less : IfOk result (λ n. bound new + n ≤ bound old)
  pub ok : OnOk result (failures new ≡ failures old)
  pub err : OnErr result (failures old < 2 ^ 64 - 1 → failures old < failures new)
  pub stays : failures old ≤ failures new

-- A push sends some of the bytes, at least one, from the front; none of them if it fails.
pub record Pushes {S E : Type 0} (written : S → Option (List ℕ)) (failures : S → ℕ) (failed_last : S → Type 0) (old new : S)
    (bytes : List ℕ) (result : Result ℕ E) : Type 0 where
  pub some : IfOk result (λ n. 0 < n)
  pub fits : IfOk result (λ n. n ≤ length bytes)
  pub sent : WriteAppends (written old) (written new) result bytes
  pub ok : OnOk result (failures new ≡ failures old)
  pub err : OnErr result (failures old < 2 ^ 64 - 1 → failures old < failures new)
  pub last : OnErr result (failed_last new)
  pub stays : failures old ≤ failures new

-- The bytes that are held back are sent on: those that went out stay, and nothing is held back afterwards, unless the sink fails.
pub record Finishes {S T E : Type 0} (written : S → Option (List ℕ)) (failures : S → ℕ) (finished failed_last : S → Type 0) (old new : S)
    (result : Result T E) : Type 0 where
  pub bytes : Keeps (written old) (written new)
  pub ok : OnOk result (failures new ≡ failures old)
  pub err : OnErr result (failures old < 2 ^ 64 - 1 → failures old < failures new)
  pub last : OnErr result (failed_last new)
  pub stays : failures old ≤ failures new
  pub all : OnOk result (finished new)
