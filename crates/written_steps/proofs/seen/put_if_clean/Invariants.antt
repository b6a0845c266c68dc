use Rattle.qrp_rules.proofs.Cited.{take, ◌↔◌, Literal, ◌∈◌, IsClean}
use Rattle.written_steps.proofs.Cited.{Has}
use Rattle.written_steps.proofs.seen.put_if_clean.Given as goal

abbrev pub invariant-loop-position : goal.invariant-loop-position
invariant-loop-position l = record {
  clean : IsClean (take l.position l.lits);
  seen : (m : Literal) → Has l.seen m ↔ m ∈ take l.position l.lits;
}
