use Rattle.qrp_rules.proofs.Cited.{rules}
use Rattle.written_steps.proofs.WatchedClauses.{all_met, all_watched}
use Rattle.written_steps.proofs.initial_cubes.InitialCubes.accepts_initial.Goals as goal

pub returns-clause-accepted : goal.returns-clause-accepted
returns-clause-accepted c = λ t. record {
  follows = (
    (all_met c.args.formula.now c.args.lits.now c.set_if_clean.new.seen c.watch.new.self.lists.items
        (λ l. (c.in_ok-set_if_clean.ensures.members c.if-not-branch.false l).0) (c.in_ok-self.ensures t)),
    tt,
  );
  clean = c.in_ok-set_if_clean.ensures.clean c.if-not-branch.false;
  bound = search rules;
}

pub returns-clause-kept : goal.returns-clause-kept
returns-clause-kept c = all_watched c.args.formula.now c.set_if_clean.new.seen c.watch.new.self.lists.items c.in_ok-self.field-0 c.in_ok-self.ensures
