use Rattle.qrp_rules.proofs.Cited.{◌≤◌, take, IsTrue, Literal, ◌∈◌, IsOrdered}
use Rattle.written_steps.proofs.Cited.{IsApart}
use Rattle.written_steps.proofs.written_resolvent.surely_ordered_without.Given as goal

abbrev pub invariant-loop-lit : goal.invariant-loop-lit
invariant-loop-lit l = record {
  ordered : IsTrue l.fits → IsOrdered (take l.lit-index l.lits);
  below : IsTrue l.fits → (m : Literal) → m ∈ take l.lit-index l.lits → m.var ≤ l.last;
  apart : IsTrue l.fits → IsApart (take l.lit-index l.lits) l.var;
}
