use Rattle.std.proofs.Common.{rules}
use Rattle.written_steps.proofs.WatchedClauses.{taken_out}
use Rattle.written_steps.proofs.initial_cubes.InitialCubes.take_list.Goals as goal

pub returns-else-position-len-clause-taken : goal.returns-else-position-len-clause-taken
returns-else-position-len-clause-taken c = search (rules, taken_out)

pub returns-then-position-len-clause-taken : goal.returns-then-position-len-clause-taken
returns-then-position-len-clause-taken c = rw (← c.set_position.ensures) at
    (taken_out c.args.self.now.lists.items c.swap_remove-list.new.self.items c.args.position c.swap_remove-list.result c.requires
    c.swap_remove-list.ensures.value c.swap_remove-list.ensures.items)
