-- A `Held` and the loose box own what a box at the same types owns.
use mir.Syntax.{impl, tnil, dnil}
use mathlib.Core.List.{[]}
use denote.Signature.{Slot, plain}
use Rattle.std.proofs.BoxSteps.Form.{Bx}
use Rattle.std.specs.contracts.alloc.Global as Heap
use Rattle.std.specs.contracts.impls.GlobalAllocator.TheImpl.{ghosts, dict}
use Rattle.std.proofs.alloc.Global.TheLaws as heap
use Rattle.qrp_handle.specs.contracts.proof.Proof as Proof
use Rattle.qrp_handle.proofs.proof.Proof.TheLaws as proof
use Rattle.qrp_handle.specs.contracts.loose.Loose as Loose
use Rattle.qrp_handle.specs.contracts.held.Held as Held

abbrev pub E : Bx
E = record { row = Proof.the_row; laws = proof.the_row_laws; al = record { row = Heap.the_row; laws = heap.the_row_laws; g = ghosts; d = dict; drops = impl [] tnil dnil } }

abbrev pub FromLoose : Slot 0
FromLoose = plain (λ _. Loose.the_row Proof.the_row Heap.the_row ghosts)

abbrev pub FromHeld : Slot 0
FromHeld = plain (λ _. Held.the_row)

abbrev pub FromHeap : Slot 0
FromHeap = plain (λ _. Heap.the_row)
