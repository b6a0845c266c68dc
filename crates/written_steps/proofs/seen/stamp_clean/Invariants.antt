use Rattle.qrp_rules.proofs.Cited.{◌≡◌, ◌↔◌, ◌⊎◌, get_or, take, Literal, ◌∈◌, IsClean}
use Rattle.written_steps.proofs.Cited.{AreUpTo, code}
use Rattle.written_steps.proofs.seen.stamp_clean.Given as goal

abbrev pub invariant-loop-position : goal.invariant-loop-position
invariant-loop-position l = record {
  clean : IsClean (take l.position l.lits);
  stamped : (m : Literal) → get_or l.stamps (code m) 0 ≡ l.stamp ↔ ((get_or l.fn.stamps (code m) 0 ≡ l.stamp) ⊎ m ∈ take l.position l.lits);
  upto : AreUpTo l.fn.stamps l.stamp → AreUpTo l.stamps l.stamp;
}
