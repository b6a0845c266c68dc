-- The names of this crate that the proofs cite most, passed on from one place. Declares nothing.
pub use Rattle.qbf_text.specs.Ahead.{ahead, first_of}
pub use Rattle.qbf_text.specs.Passing.{SoFar}
pub use Rattle.qbf_text.specs.Reading.{GivesNext, HasFailed, IsReady, Reading, left}
pub use Rattle.qbf_text.specs.Rows.{Ends, Fails, Fault, Goes, Read, Row, Whole, read_from, reads_from}
pub use Rattle.qbf_text.specs.Stopping.{IfKnown, PlaceSkips, TakesToken, tokens_next}
pub use Rattle.qbf_text.specs.Written.{IsSent}
pub use Rattle.qbf_tokens.specs.Left.{known_left}
pub use Rattle.qbf_tokens.specs.declared.token.Comments.{Comments}
pub use Rattle.qbf_tokens.specs.declared.token.Token.{Token}
pub use Rattle.qbf_tokens.specs.declared.token.Token.TheVariants.{End, Number}
pub use Rattle.std.proofs.Common.{Err, IfSome, Ok, Result, decimal, drop, flat_map, get_or, inl, inr, nat_eq, subst, suc, take, zero, ◌⊎◌}
pub use Rattle.std.proofs.KnownBytes.{Consumes-nil}
pub use Rattle.std.proofs.lemmas.List.{drop-drop}
pub use Rattle.std.proofs.lemmas.Result.{err_from_is_err_and}
pub use Rattle.std.specs.Io.KnownBytes.{Consumes}
