use Rattle.std.proofs.Common.{◌≡◌, true, false, length}
use Rattle.qcir_tokens.specs.declared.mark.Mark.TheVariants.{Comma}
use Rattle.qcir_tokens.specs.Tokens.{BeginsWithout}
use Rattle.qcir.specs.Reading.{first_missing}
use Rattle.qcir.proofs.missing.first_missing.Given as goal

abbrev pub invariant-literals : goal.invariant-literals
invariant-literals l = record {
  read : first_missing l.names true l.initial.line ≡ first_missing l.names l.next l.line;
  ended : l.next ≡ false → BeginsWithout Comma l.line;
}

abbrev pub decreases-literals : goal.decreases-literals
decreases-literals l = length l.line
