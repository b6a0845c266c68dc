use Rattle.std.proofs.Common.{arith}
use Rattle.qbf_core.specs.Blocks.{pairs}
use Rattle.gate_clauses.proofs.Greatest.{next_greatest}
use Rattle.gate_clauses.proofs.encoder.greatest_variable.Goals as goal

pub loop-i-preserved : goal.loop-i-preserved
loop-i-preserved c =
    let next = next_greatest (pairs c.args.prefix.now) c.loop-i.i _ _ c.loop-i.most c.pair-var.ensures c.loop-i.invariant.0 in
    let most = c.max-most.ensures in
    (omega (arith, next, most, c.number.ensures.value), omega (arith, most, c.number.ensures.value, c.number.ensures.high, c.loop-i.invariant.1))
