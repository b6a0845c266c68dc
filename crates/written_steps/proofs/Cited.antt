-- The names of this crate that the proofs cite most, passed on from one place. Declares nothing.
pub use Rattle.written_steps.specs.Initial.{IsAcceptedIf}
pub use Rattle.written_steps.specs.Seen.{AreAmong, AreUpTo, Has, Members, code}
pub use Rattle.written_steps.specs.TwoLists.{IsApart, IsMergeSoFar, IsNext, IsPutBy}
pub use Rattle.written_steps.specs.Watches.{IsMet, IsWatchedBy}
pub use Rattle.written_steps.specs.declared.initial_cubes.Watch.{Watch}
