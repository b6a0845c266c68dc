use Rattle.qrp_rules.proofs.Cited.{◌≡◌}
use Rattle.written_steps.proofs.Cited.{IsMergeSoFar}
use Rattle.written_steps.proofs.two_lists.merge_prefix.Given as goal

abbrev pub invariant-loop-lit : goal.invariant-loop-lit
invariant-loop-lit l = record {
  count : l.at.to ≡ l.lit-index;
  merge : IsMergeSoFar l.a l.b l.to l.at.a l.at.b l.at.to;
}
