use Rattle.qrp_rules.proofs.Cited.{◌≡◌, ◌⊎◌, take, Literal, ◌∈◌, TakesOut}
use Rattle.written_steps.proofs.Cited.{IsPutBy, Has}
use Rattle.written_steps.proofs.written_resolvent.put_each_left_out.Given as goal

abbrev pub invariant-loop-lit : goal.invariant-loop-lit
invariant-loop-lit l = record {
  put : IsPutBy l.fn.seen l.seen (λ m. TakesOut l.fn.reducible m.var);
  each : (m : Literal) → m ∈ take l.lit-index l.lits → (m.var ≡ l.fn.pivot) ⊎ Has l.seen m;
}
