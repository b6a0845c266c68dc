use Rattle.std.proofs.Common.{arith, ◌≤◌, length}
use Rattle.qbf_core.specs.Blocks.{IsBound}
use Rattle.gate_clauses.proofs.Encoded.{finished}
use Rattle.gate_clauses.proofs.encoder.Encoder.finish.Goals as goal

pub from_parts-requires : goal.from_parts-requires
from_parts-requires c =
    let bound : IsBound c.self.inside.prefix c.args.output.var = cc (c.if-not-is_bound.false, c.is_bound.ensures, c.var.ensures) in
    let few : length c.put_one.new.clauses.whole ≤ 2147483647 = omega (arith, c.if-whole_len.false, c.whole_len.ensures) in
    finished c.self.inside.prefix c.self.inside.clauses.whole c.put_one.new.clauses.whole c.args.output c.greatest_variable-greatest.result
    c.len.ensures.sound c.in_ok-put_one.ensures c.self.invariant bound few c.greatest_variable-greatest.ensures.greatest
    c.greatest_variable-greatest.ensures.number
