-- Reading by rows: for each state in a text a row says which tokens go on, which end the reading, and which are a fault.
use Rattle.std.specs.Prelude.{ℕ, Bool, true, false, List, [], ◌∷◌, Option, Some, None}
use Rattle.qbf_tokens.specs.declared.token.Token.{Token}
use Rattle.qbf_tokens.specs.Lined.{Lined, Known}
use Rattle.qbf_tokens.specs.Left.{is_end}

-- A row: what a state makes of a token.
pub data Row (P A F : Type 0) : Type 0 where
  Goes : P → Row P A F
  Ends : A → P → Row P A F
  Fails : F → Row P A F

-- The result of reading from a state on.
pub data Read (P A F : Type 0) : Type 0 where
  -- the result, the state after it and the tokens that are left
  Whole : A → P → List Lined → Read P A F
  -- the first fault and its line
  Fault : F → ℕ → Read P A F
  -- the tokens run out
  Cut : Read P A F

-- the tokens after one that was taken: End stays
abbrev pub rest_after : Bool → Lined → List Lined → List Lined
rest_after true t ts = t ∷ []
rest_after false t ts = ts

-- The result of reading these tokens from a state on.
unfoldable pub read_from : {P A F : Type 0} → (P → Token → Row P A F) → P → List Lined → Read P A F
read_from row state [] = Cut
read_from row state (t ∷ ts) =
    elim (row state t.0) [
      | Goes next ↦ read_from row next ts
      | Ends result next ↦ Whole result next (rest_after (is_end t.0) t ts)
      | Fails fault ↦ Fault fault t.1
    ]

-- The result of reading known tokens by rows, from a state on; nothing is said of unknown ones.
abbrev pub reads_from : {P A F : Type 0} → (P → Token → Row P A F) → P → Known → Option (Read P A F)
reads_from row state None = None
reads_from row state (Some ts) = Some (read_from row state ts)
