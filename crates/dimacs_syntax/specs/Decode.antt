-- The meaning of a token at its place, or its fault in the format.
use Rattle.std.specs.Prelude.{ℕ, zero, suc, true, false, Option, Some, None, Result, Ok, Err, nat_lt, if◌then◌else◌}
use Rattle.qbf_core.specs.declared.quantifier.Quantifier.{Quantifier}
use Rattle.qbf_core.specs.declared.quantifier.Quantifier.TheVariants.{All, Exists}
use Rattle.qbf_core.specs.Literal.{Literal}
use Rattle.qbf_tokens.specs.declared.token.Token.{Token}
use Rattle.qbf_tokens.specs.declared.token.Token.TheVariants as token
use Rattle.qbf_tokens.specs.declared.token.Word.TheVariants as word
use Rattle.dimacs_syntax.specs.declared.decode.Faults.{Faults}

-- the quantifier that a letter names
abbrev pub decode_quantifier : Token → Option Quantifier
decode_quantifier (token.Word word.A) = Some All
decode_quantifier (token.Word word.E) = Some Exists
decode_quantifier t = None

-- the variable that a token says in a set, at most the last, or None if it closes the set
abbrev pub decode_member : {F : Type 0} → Faults F → ℕ → Token → Result (Option ℕ) F
decode_member faults last (token.Number false zero) = Ok None
decode_member faults last (token.Number false (suc n)) = if nat_lt last (suc n) then Err faults.range else Ok (Some (suc n))
decode_member faults last (token.Number true n) = Err faults.range
decode_member faults last token.Big = Err faults.range
decode_member faults last token.End = Err faults.end
decode_member faults last (token.Word w) = Err faults.stray
decode_member faults last token.Bad = Err faults.stray

-- the literal that a token says, its variable at most the last, or None if it closes the literals
abbrev pub decode_literal : {F : Type 0} → Faults F → ℕ → Token → Result (Option Literal) F
decode_literal faults last (token.Number false zero) = Ok None
decode_literal faults last (token.Number true zero) = Err faults.minus_zero
decode_literal faults last (token.Number negative (suc n)) =
    if nat_lt last (suc n) then Err faults.range else Ok (Some (record { var = suc n; negative = negative }))
decode_literal faults last token.Big = Err faults.range
decode_literal faults last token.End = Err faults.end
decode_literal faults last (token.Word w) = Err faults.stray
decode_literal faults last token.Bad = Err faults.stray
