use Rattle.std.proofs.Common.{arith, ◌∙◌, ◌<◌, ℕ, subst, sym}
use Rattle.qbf_strategy.proofs.ChainedEntries.{chain_within}
use Rattle.qbf_strategy.proofs.PathValues.{chosen_all, chosen_next, goes_back, is_ready, number_within}
use Rattle.qbf_strategy.proofs.chosen.branched.Goals as goal

pub value_of_last-otherwise-requires : goal.value_of_last-otherwise-requires
value_of_last-otherwise-requires c =
    chain_within c.args.entries.now.entries.items c.requires.chain.variable c.args.last c.requires.chain.said c.requires.chain.chain

pub entry-entry-requires-clause-few : goal.entry-entry-requires-clause-few
entry-entry-requires-clause-few c = number_within _ _ _ _ _ _ _ _ c.loop-number.invariant.chosen c.requires.chain

pub enter-requires-clause-ready : goal.enter-requires-clause-ready
enter-requires-clause-ready c =
    is_ready _ _ _ _ _ _ _ _ c.loop-number.invariant.chosen c.entry-entry.result (omega arith) c.entry-entry.ensures c.requires.chain

pub loop-number-smaller : goal.loop-number-smaller
loop-number-smaller c =
    subst (λ (n : ℕ). n < c.loop-number.number) (sym c.before-number.ensures)
    (goes_back _ _ _ _ _ _ _ _ c.loop-number.invariant.chosen c.entry-entry.result (omega arith) c.entry-entry.ensures c.requires.chain)

pub loop-number-preserved : goal.loop-number-preserved
loop-number-preserved c = record {
  chosen = chosen_next _ c.args.entries.now.entries.items c.args.last c.loop-number.number c.before-number.result c.value_of_last-otherwise.result
      c.args.work.now.gates c.loop-number.work.gates c.enter.new.work.gates c.loop-number.work.path c.enter.new.work.path
      c.entry-entry.result (omega arith) c.entry-entry.ensures c.before-number.ensures c.in_ok-enter.ensures.entered
      c.loop-number.invariant.chosen;
  ordered = c.in_ok-enter.ensures.ordered;
  conditions = c.enter.ensures.conditions ∙ c.loop-number.invariant.conditions;
}

pub returns-clause-value : goal.returns-clause-value
returns-clause-value c =
    chosen_all _ c.args.entries.now.entries.items c.args.last c.loop-number.number c.value_of_last-otherwise.result c.args.work.now.gates
    c.loop-number.work.gates c.leave_all.new.gates c.loop-number.work.path c.leave_all.new.self
    c.args.work.now.conditions.items c.loop-number.work.conditions.items (omega arith)
    c.in_ok-leave_all.ensures.kept c.requires.built.known c.loop-number.invariant.conditions c.loop-number.invariant.chosen
    c.in_ok-leave_all.ensures.moved
