use Rattle.qrp_rules.proofs.Cited.{◌≡◌, ◌≤◌, ◌⊎◌, take, Literal, ◌∈◌, IsOrdered}
use Rattle.qrp_rules.proofs.written.is_ordered.Given as goal

abbrev pub invariant-loop-lit : goal.invariant-loop-lit
invariant-loop-lit l = record {
  ordered : IsOrdered (take l.lit-index l.lits);
  below : (m : Literal) → m ∈ take l.lit-index l.lits → m.var ≤ l.last;
  reached : (l.last ≡ 0) ⊎ ((m : Literal) × (m ∈ take l.lit-index l.lits) × (m.var ≡ l.last));
}
