use Rattle.qrp_rules.proofs.Cited.{take, drop, ◌⊆◌, resolvent}
use Rattle.qrp_rules.proofs.Cursors.{Reaches, HasVar}
use Rattle.qrp_rules.proofs.resolvent.is_within.Given as goal

abbrev pub invariant-loop-lit : goal.invariant-loop-lit
invariant-loop-lit l = record {
  left : Reaches l.a l.left (HasVar (drop l.lit-index l.to));
  right : Reaches l.b l.right (HasVar (drop l.lit-index l.to));
  done : take l.lit-index l.to ⊆ resolvent l.a l.b l.pivot;
}
