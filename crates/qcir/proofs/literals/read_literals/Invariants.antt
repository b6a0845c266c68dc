use Rattle.std.proofs.Common.{◌≡◌, true, false, length}
use Rattle.qcir_tokens.specs.declared.mark.Mark.TheVariants.{Comma}
use Rattle.qcir_tokens.specs.Tokens.{BeginsWithout}
use Rattle.qcir.specs.Lines.{after}
use Rattle.qcir.specs.Reading.{literals}
use Rattle.qcir.proofs.literals.read_literals.Given as goal

abbrev pub invariant-literals : goal.invariant-literals
invariant-literals l = record {
  read : literals l.names true l.initial.line ≡ after l.gates.inputs (literals l.names l.next l.line);
  ended : l.next ≡ false → BeginsWithout Comma l.line;
  rest : l.gates ≡ record l.initial.gates { inputs = l.gates.inputs };
}

abbrev pub decreases-literals : goal.decreases-literals
decreases-literals l = length l.line
