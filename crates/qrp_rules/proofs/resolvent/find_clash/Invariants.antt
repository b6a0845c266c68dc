use Rattle.qrp_rules.proofs.Cited.{take, drop}
use Rattle.qrp_rules.proofs.Cursors.{Reaches, HasVar}
use Rattle.qrp_rules.proofs.Clashing.{IsClashSoFar}
use Rattle.qrp_rules.proofs.resolvent.find_clash.Given as goal

abbrev pub invariant-loop-lit : goal.invariant-loop-lit
invariant-loop-lit l = record {
  reach : Reaches l.b l.rest (HasVar (drop l.lit-index l.a));
  clash : IsClashSoFar (take l.lit-index l.a) l.b l.found;
}
