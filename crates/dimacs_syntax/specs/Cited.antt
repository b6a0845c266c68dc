-- The names that both formats cite most, passed on from one place. This file declares nothing.
pub use Rattle.std.specs.List.{AllByRecursion, flat_map}
pub use Rattle.qbf_core.specs.Blocks.{Block, IsVariable, pairs}
pub use Rattle.qbf_core.specs.Literal.{Literal}
pub use Rattle.qbf_core.specs.Qbf.{IsWellFormed, Qbf}
pub use Rattle.qbf_core.specs.declared.quantifier.Quantifier.{Quantifier}
pub use Rattle.dimacs_syntax.specs.Spelling.{letter, literal, number, set}
pub use Rattle.qbf_tokens.specs.Canonical.{lines_text}
pub use Rattle.qbf_tokens.specs.Lined.{Known, Lined}
pub use Rattle.qbf_text.specs.Rows.{Fails}
pub use Rattle.qbf_tokens.specs.declared.token.Token.{Token}
pub use Rattle.qbf_tokens.specs.declared.token.Token.TheVariants as token
pub use Rattle.qbf_tokens.specs.declared.token.Word.TheVariants as word
