use Rattle.std.proofs.Common.{◌≡◌, ◌≤◌, take}
use Rattle.std.specs.Prelude.{count_by}
use Rattle.qbf_core.specs.Blocks.{pairs}
use Rattle.qcir.specs.Names.{is_existential}
use Rattle.qcir.proofs.question.existential.Given as goal

abbrev pub invariant-loop-i : goal.invariant-loop-i
invariant-loop-i l = (l.count ≡ count_by is_existential (take l.i (pairs l.prefix))) × (l.count ≤ l.i)
