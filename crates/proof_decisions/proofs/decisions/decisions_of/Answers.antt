use Rattle.qbf_core.proofs.Members.{in_got}
use Rattle.proof_decisions.proofs.decisions.decisions_of.Goals as goal

pub decisions_for-requires-clause-core : goal.decisions_for-requires-clause-core
decisions_for-requires-clause-core g c = λ i h. let got = in_got c.args.core.now i h in c.requires.core.sound got.0 i got.1

pub decisions_for-requires-in-Sat-clause-core : goal.decisions_for-requires-in-Sat-clause-core
decisions_for-requires-in-Sat-clause-core g c = λ i h. let got = in_got c.args.core.now i h in c.requires.core.sound got.0 i got.1
