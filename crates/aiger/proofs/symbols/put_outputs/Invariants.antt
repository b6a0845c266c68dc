use Rattle.std.proofs.Common.{drop, map}
use Rattle.std.specs.Prelude.{codes}
use Rattle.qbf_text.specs.Written.{IsSent}
use Rattle.aiger.specs.Texts.{symbol_lines}
use Rattle.aiger.proofs.symbols.put_outputs.Given as goal

abbrev pub invariant-loop-i : goal.invariant-loop-i
invariant-loop-i g l = record {
  sent : IsSent g.K.Sink.written g.K.Sink.failures l.fn.sink l.sink (symbol_lines (codes "o") 0 (map (g.N.Naming.name l.names) (map (λ o. o.0) l.outputs)))
      (symbol_lines (codes "o") l.i (drop l.i (map (g.N.Naming.name l.names) (map (λ o. o.0) l.outputs))));
}
