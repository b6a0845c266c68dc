use Rattle.std.proofs.Common.{refl}
use Rattle.core_walk.proofs.DistinctLits.{kept_more, still_kept}
use Rattle.core_walk.proofs.distinct_lits.DistinctLits.keep.Goals as goal

pub returns-then-not-branch : goal.returns-then-not-branch
returns-then-not-branch c = λ steps of_step are.
    still_kept steps c.args.self.now
    (record { positions = c.args.self.now.positions; lists = c.push_distinct.new.lists })
    refl c.push_distinct.ensures.whole are

pub returns : goal.returns
returns c = λ steps of_step are.
    kept_more steps c.args.self.now c.close.new.self c.args.position c.push_distinct.new.lists.unfinished c.args.lits.now
    c.in_ok-close.ensures.positions (rw c.push_distinct.ensures.whole at c.in_ok-close.ensures.lists)
    (c.in_ok-push_distinct.ensures.members c.if-not-branch.false) of_step are
