-- The names that both formats cite most, passed on from one place. Declares nothing.
pub use Rattle.std.proofs.lemmas.Grind.{flat_map-append}
pub use Rattle.std.proofs.lemmas.List.{length-append, map-append}
pub use Rattle.std.proofs.lemmas.List.Folds.{flat_map-map}
pub use Rattle.std.specs.List.{AllByRecursion, flat_map}
unfoldable pub use Rattle.std.specs.List.{IsDistinct}
pub use Rattle.lists.proofs.PushedItems.{AllByRecursion-push}
pub use Rattle.qbf_core.specs.Blocks.{Block, IsVariable, blocks_of, is_bound, pairs, variables}
pub use Rattle.qbf_core.specs.Literal.{Literal}
pub use Rattle.qbf_core.specs.Qbf.{Qbf}
pub use Rattle.qbf_core.specs.declared.quantifier.Quantifier.{Quantifier}
pub use Rattle.dimacs_syntax.specs.Spelling.{letter, literal, number, set}
pub use Rattle.qbf_text.proofs.OneToken.{read-one}
pub use Rattle.qbf_text.proofs.SentParts.{sent_fails, sent_part}
pub use Rattle.qbf_text.specs.Ahead.{ahead}
pub use Rattle.qbf_tokens.specs.Lined.{Lined, without_lines}
pub use Rattle.qbf_text.specs.Reading.{left}
pub use Rattle.qbf_text.specs.Rows.{Ends, Read}
unfoldable pub use Rattle.qbf_text.specs.Rows.{read_from}
pub use Rattle.qbf_text.specs.Stopping.{tokens_next}
pub use Rattle.qbf_tokens.specs.Tokens.{tokens}
pub use Rattle.qbf_text.specs.Written.{IsSent}
pub use Rattle.qbf_tokens.specs.declared.token.Comments.TheVariants.{Qdimacs, Qrp}
pub use Rattle.qbf_tokens.specs.declared.token.Token.{Token}
pub use Rattle.qbf_tokens.specs.declared.token.Token.TheVariants as token
pub use Rattle.qbf_tokens.specs.declared.token.Word.TheVariants as word
