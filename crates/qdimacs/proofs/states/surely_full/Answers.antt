use Rattle.qdimacs.proofs.AllVariablesBound.{full}
use Rattle.qdimacs.proofs.states.surely_full.Goals as goal

pub returns-clause-full : goal.returns-clause-full
returns-clause-full c = full c.args.max_var c.args.prefix.now c.len.result c.len.ensures.sound c.requires.top c.len.ensures.length
