use Rattle.std.proofs.Common.{◌≡◌, true, false, length, Ok}
use Rattle.qcir_tokens.specs.declared.mark.Mark.TheVariants.{Comma}
use Rattle.qcir_tokens.specs.Tokens.{BeginsWithout}
use Rattle.qcir.specs.Reading.{members}
use Rattle.qcir.proofs.lines.read_members.Given as goal

abbrev pub invariant-members : goal.invariant-members
invariant-members l = record {
  read : members l.quantifier true l.initial.line (Ok l.initial.parts) ≡ members l.quantifier l.next l.line (Ok l.parts);
  ended : l.next ≡ false → BeginsWithout Comma l.line;
}

abbrev pub decreases-members : goal.decreases-members
decreases-members l = length l.line
