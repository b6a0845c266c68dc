use Rattle.std.proofs.Common.{rules, ◌∙◌}
use Rattle.qbf_core.specs.Blocks.{pairs}
use Rattle.gate_clauses.proofs.Accepted.{not_given}
use Rattle.gate_clauses.proofs.Steps.{bound_next}
use Rattle.gate_clauses.proofs.whole.bind_all.Goals as goal

pub loop-i-preserved : goal.loop-i-preserved
loop-i-preserved c = record {
  bound = bound_next (pairs c.bind.new.self.blocks) (pairs c.loop-i.encoder.blocks) (pairs c.args.encoder.now.blocks)
      (pairs c.args.prefix.now) c.loop-i.i c.pair-quantifier.result c.pair-quantifier.ensures c.loop-i.invariant.bound
      c.in_ok-bind.ensures.pushed;
  clauses = c.in_ok-bind.ensures.clauses ∙ c.loop-i.invariant.clauses;
}

pub returns-in_err-bind-clause-given : goal.returns-in_err-bind-clause-given
returns-in_err-bind-clause-given c = λ is.
    not_given c.loop-i.encoder.blocks (pairs c.args.encoder.now.blocks) (pairs c.args.prefix.now) c.loop-i.i c.pair-quantifier.result
    c.loop-i.invariant.bound c.pair-quantifier.ensures (c.in_err-bind.ensures.given (search rules))
