-- The ownership of a `Held`: it owns nothing, or the same as a `Box<Proof>`.
use base.Fml.{Fml, ftrue}
use denote.RawPtr.{Ptr}
use Rattle.std.specs.Box.Ownership.{box_owns}
use Rattle.std.specs.Coded.{Coded, coded_option}
use Rattle.std.specs.Global.{Global}
use Rattle.std.specs.Prelude.{Option, None, Some}
use Rattle.std.specs.contracts.impls.GlobalAllocator.TheImpl.{ghosts}
use Rattle.qrp_handle.specs.contracts.proof.Proof.{the_row}

abbrev pub held_owns : Global → Ptr → Option the_row.Denot → Fml
held_owns alloc at None = ftrue
held_owns alloc at (Some x) = box_owns (ghosts.dealloc_token alloc) the_row at x

abbrev pub held_coded : Coded (Option the_row.Denot)
held_coded = coded_option the_row.coded
