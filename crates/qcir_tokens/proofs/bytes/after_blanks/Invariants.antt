use Rattle.std.proofs.Common.{◌≡◌, length}
use Rattle.qcir_tokens.specs.Tokens.{tokens}
use Rattle.qcir_tokens.proofs.bytes.after_blanks.Given as goal

abbrev pub invariant-blanks : goal.invariant-blanks
invariant-blanks l = tokens l.rest ≡ tokens l.bytes

abbrev pub decreases-blanks : goal.decreases-blanks
decreases-blanks l = length l.rest
