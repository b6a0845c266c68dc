use Rattle.std.proofs.Common.{ℕ, ◌++◌, ◌*◌, ◌-◌, subst}
use Rattle.qbf_text.specs.Written.{IsPut}
use Rattle.aiger.specs.Binary.{greater, number_bytes}
use Rattle.aiger.proofs.binary.put_gate.Goals as goal

pub returns : goal.returns
returns g c =
    subst (λ (b : ℕ). IsPut g.K.Sink.written g.K.Sink.failures g.K.Sink.failed_last c.args.sink.now c.put_two.new.sink
    (number_bytes (2 * c.args.n - greater c.args.gate.now) ++ number_bytes b) c.put_two.result)
    c.gap.ensures
    (subst (λ (a : ℕ). IsPut g.K.Sink.written g.K.Sink.failures g.K.Sink.failed_last c.args.sink.now c.put_two.new.sink (number_bytes a
    ++ number_bytes c.gap.result) c.put_two.result)
    c.rise.ensures c.put_two.ensures)
