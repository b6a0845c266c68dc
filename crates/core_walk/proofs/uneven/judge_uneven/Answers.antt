use Rattle.core_walk.proofs.uneven.judge_uneven.Goals as goal

pub returns-then-branch-clause-parts : goal.returns-then-branch-clause-parts
returns-then-branch-clause-parts g c = rw c.in_ok-accepts_by_part.ensures.parts c.requires.parts

pub keep_part-requires-clause-parts : goal.keep_part-requires-clause-parts
keep_part-requires-clause-parts g c = rw c.in_ok-accepts_by_part.ensures.parts c.requires.parts

pub returns-else-is_none-clause-parts : goal.returns-else-is_none-clause-parts
returns-else-is_none-clause-parts g c = rw c.in_ok-accepts_by_part.ensures.parts c.requires.parts
