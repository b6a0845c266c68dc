use Rattle.qrp_rules.proofs.Cited.{◌≡◌, take, ◌⊆◌}
use Rattle.written_steps.proofs.Cited.{AreAmong}
use Rattle.written_steps.proofs.distinct.push_each_once.Given as goal

abbrev pub invariant-loop-lit : goal.invariant-loop-lit
invariant-loop-lit l = record {
  whole : l.lists.whole ≡ l.fn.lists.whole;
  within : l.lists.unfinished ⊆ take l.lit-index l.lits;
  each : take l.lit-index l.lits ⊆ l.lists.unfinished;
  seen : AreAmong l.seen l.lists.unfinished;
}
