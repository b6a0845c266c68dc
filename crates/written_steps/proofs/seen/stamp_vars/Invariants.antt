use Rattle.qrp_rules.proofs.Cited.{◌≡◌, get_or, take, Literal, ◌∈◌, IsClean}
use Rattle.written_steps.proofs.Cited.{IsApart, AreUpTo}
use Rattle.written_steps.proofs.seen.stamp_vars.Given as goal

abbrev pub invariant-loop-lit : goal.invariant-loop-lit
invariant-loop-lit l = record {
  clean : IsClean (take l.lit-index l.lits);
  apart : IsApart (take l.lit-index l.lits) l.fn.other;
  stamped : (m : Literal) → m ∈ take l.lit-index l.lits → get_or l.stamps m.var 0 ≡ l.stamp;
  of_other : get_or l.stamps l.fn.other 0 ≡ l.stamp;
  upto : AreUpTo l.fn.stamps l.stamp → AreUpTo l.stamps l.stamp;
}
