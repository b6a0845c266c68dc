use Rattle.qrp_rules.proofs.Cited.{take, drop, ◌⊎◌, Literal, ◌∈◌, MayOmit}
use Rattle.qrp_rules.proofs.Cursors.{Reaches, HasVar}
use Rattle.qrp_rules.proofs.walks.is_subset_up_to.Given as goal

abbrev pub invariant-loop-lit : goal.invariant-loop-lit
invariant-loop-lit l = record {
  reach : Reaches l.to l.rest (HasVar (drop l.lit-index l.from));
  done : (m : Literal) → m ∈ take l.lit-index l.from → (m ∈ l.to) ⊎ MayOmit l.reducible l.pivot m.var;
}
