-- The names of this crate that the proofs cite most, passed on from one place. Declares nothing.
pub use Rattle.qbf_tokens.specs.declared.run.Digits.TheVariants.{Value}
pub use Rattle.qbf_tokens.specs.declared.token.Comments.{Comments}
pub use Rattle.qbf_tokens.specs.declared.token.Token.{Token}
pub use Rattle.qbf_tokens.specs.declared.token.Token.TheVariants.{Number}
pub use Rattle.std.proofs.Common.{drop, eqb-true, get_or, inl, inr, nat_eq, subst, suc, take, zero, ◌⊎◌}
pub use Rattle.std.proofs.lemmas.List.{drop-drop}
pub use Rattle.std.specs.Str.Parse.{digits_value}
pub use Rattle.window_numbers.specs.Numbers.{BeginsWithNumber}
pub use mir.Val.{bool_byte}
