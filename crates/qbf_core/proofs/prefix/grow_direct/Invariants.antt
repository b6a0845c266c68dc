use Rattle.qbf_core.proofs.Cited.{◌≡◌, ℕ, List, length, Place, IsIndexOf}
use Rattle.qbf_core.proofs.prefix.grow_direct.Given as goal

abbrev pub invariant-loop-next : goal.invariant-loop-next
invariant-loop-next l = record {
  next : l.next ≡ length l.direct.items;
  index : (es : List (ℕ × Place)) → IsIndexOf l.initial.direct.items l.far.entries es → IsIndexOf l.direct.items l.far.entries es;
}
