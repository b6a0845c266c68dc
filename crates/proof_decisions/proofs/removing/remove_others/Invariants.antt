use Rattle.std.proofs.Common.{◌≡◌, take}
use Rattle.qrp_rules.specs.Walks.{MayOmit}
use Rattle.proof_decisions.specs.Removing.{Removes}
use Rattle.proof_decisions.proofs.removing.remove_others.Given as goal

abbrev pub invariant-loop-lit : goal.invariant-loop-lit
invariant-loop-lit l = record {
  whole : l.removed.whole ≡ l.fn.removed.whole;
  removes : Removes l.fn.seen l.seen l.fn.removed.unfinished l.removed.unfinished (take l.lit-index l.lits)
      (λ m. MayOmit l.fn.aside.reducible l.fn.aside.pivot m.var);
}
