use Rattle.std.proofs.Common.{◌≡◌, take}
use Rattle.proof_decisions.specs.Removing.{IsLeft}
use Rattle.proof_decisions.proofs.removing.keep.Given as goal

abbrev pub invariant-loop-lit : goal.invariant-loop-lit
invariant-loop-lit l = record {
  whole : l.kept.whole ≡ l.fn.kept.whole;
  left : IsLeft l.fn.own (take l.lit-index l.lits) l.kept.unfinished;
}
