-- The effect of a call that may pull bytes from a source.
use Rattle.std.specs.Prelude.{◌≡◌, ℕ, ◌+◌, ◌-◌, ◌^◌, ◌<◌, ◌≤◌, List, [], ◌∷◌, length, Option, IfSome, Result, OnOk, OnErr}
use Rattle.std.specs.Io.KnownBytes.{Consumes, IsAtEnd}
use Rattle.qbf_text.specs.Ahead.{ahead}
use Rattle.qbf_tokens.specs.declared.token.Token.{Token}
use Rattle.qbf_tokens.specs.Left.{IsUnbroken, EndsRun}
use Rattle.qbf_tokens.specs.Tokens.{kind}

-- With a result no more can come than before, and at most 4,096 bytes are held. The count of failures rose exactly if the source failed,
-- unless it was at its top.
pub record HasPulled {S T E : Type 0} (still failures : S → ℕ) (held_before held_after : List ℕ) (old new : S) (result : Result T E)
    : Type 0 where
  pub bound : OnOk result (length held_after + still new ≤ length held_before + still old)
  pub few : OnOk result (length held_after ≤ 4096)
  pub ok : OnOk result (failures new ≡ failures old)
  pub err : OnErr result (failures old < 2 ^ 64 - 1 → failures old < failures new)

-- With a result the bytes ahead are those that were ahead, and one is held unless the source is at its end.
pub record KeepsAhead {S T E : Type 0} (remaining : S → Option (List ℕ)) (held_before held_after : List ℕ) (old new : S)
    (result : Result T E) : Type 0 where
  pub same : OnOk result (Consumes (ahead held_before (remaining old)) (ahead held_after (remaining new)) [])
  pub at_end : OnOk result (held_after ≡ [] → IsAtEnd (remaining new))

-- The token is the kind of the run that begins with this byte and goes on with the bytes ahead, up to a separator or the end.
pub record ReadsRun (first : ℕ) (before after : Option (List ℕ)) (token : Token) : Type 0 where
  pub more : List ℕ
  pub is : token ≡ kind (first ∷ more)
  pub unbroken : IsUnbroken more
  pub taken : Consumes before after more
  pub ends : IfSome after EndsRun
