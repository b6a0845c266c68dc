-- The names of this crate that the proofs cite most, passed on from one place. Declares nothing.
pub use Rattle.qbf_tokens.specs.Canonical.{line_rest, token_text}
pub use Rattle.qbf_tokens.specs.Left.{EndsLine, EndsRun, IsUnbroken, IsWithinLine, is_end, is_separator, tokens_left}
pub use Rattle.qbf_tokens.specs.Lined.{EndsOnce, Lined, without_lines}
pub use Rattle.qbf_tokens.specs.Runs.{after_minus, begins_number, begins_with_minus, digits_of}
pub use Rattle.qbf_tokens.specs.Tokens.{is_blank, is_comment_byte, is_comment_line, is_line_end, kind, line_number, line_tokens, magnitude}
pub use Rattle.qbf_tokens.specs.Tokens.{number, numeral, runs, tokens, tokens_from}
pub use Rattle.qbf_tokens.specs.declared.run.Digits.{Digits}
pub use Rattle.qbf_tokens.specs.declared.run.Digits.TheVariants.{Big, Other, Value}
pub use Rattle.qbf_tokens.specs.declared.token.Comments.{Comments}
pub use Rattle.qbf_tokens.specs.declared.token.Token.{Token}
pub use Rattle.qbf_tokens.specs.declared.token.Token.TheVariants.{End, Number}
pub use Rattle.std.proofs.Common.{Bool, List, None, Option, Some, [], ap, append-nil, append_assoc, arith, cond, count_by, false}
pub use Rattle.std.proofs.Common.{if◌then◌else◌, length, map, not, refl, rules, sym, true, ℕ, ◌&&◌, ◌*◌, ◌++◌, ◌+◌, ◌-◌, ◌<◌, ◌==◌, ◌^◌}
pub use Rattle.std.proofs.Common.{◌||◌, ◌∙◌, ◌∷◌, ◌≡◌, ◌≢◌, ◌≤◌}
pub use Rattle.std.proofs.lemmas.Bool.Decides.{nat_tests}
pub use Rattle.std.proofs.lemmas.Fmt.{decimal_nonempty, digits_decimal}
pub use Rattle.std.proofs.lemmas.Grind.{common_steps}
pub use Rattle.std.specs.Char.{is_ascii_digit}
pub use Rattle.std.specs.List.{AllByRecursion, slice_split}
pub use Rattle.std.specs.Prelude.{⊤}
pub use Rattle.std.specs.Str.{all_ascii_digits}
