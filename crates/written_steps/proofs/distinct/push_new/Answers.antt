use Rattle.std.proofs.Common.{rules}
use Rattle.written_steps.proofs.DistinctLists.{pushed_kept, pushed_seen, pushed_within}
use Rattle.written_steps.proofs.distinct.push_new.Goals as goal

pub returns-clause-within : goal.returns-clause-within
returns-clause-within c =
    pushed_within c.args.lists.now c.push.new.self c.args.lit c.push.result c.push.ensures.pushed c.push.ensures.err

pub returns-clause-kept : goal.returns-clause-kept
returns-clause-kept c = pushed_kept c.args.lists.now c.push.new.self c.args.lit c.push.result c.push.ensures.pushed

pub returns-clause-seen : goal.returns-clause-seen
returns-clause-seen c = search (rules, pushed_seen)
