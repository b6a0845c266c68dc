use Rattle.qbf_tokens.proofs.Cited.{arith, common_steps}
use Rattle.qbf_text.specs.Reading.{left}
use Rattle.qbf_text.proofs.Stops.{next_taken}
use Rattle.qbf_text.proofs.scanner.Scanner.next_token.Goals as goal

pub returns-in-Ok-Some-clause-token : goal.returns-in-Ok-Some-clause-token
unfolding left
returns-in-Ok-Some-clause-token g c = grind (arith, common_steps, next_taken)

pub returns-in-Some-clause-end : goal.returns-in-Some-clause-end
returns-in-Some-clause-end g c ended =
    absurd (let open_ = (c.in-Some.ensures.found (g.S.Source.remaining c.args.source.now)).no_end in cc (open_, ended))

pub returns-in-Some-clause-line : goal.returns-in-Some-clause-line
returns-in-Some-clause-line g c ended =
    absurd (let open_ = (c.in-Some.ensures.found (g.S.Source.remaining c.args.source.now)).no_end in cc (open_, ended))

pub returns-in-Some-clause-token : goal.returns-in-Some-clause-token
unfolding left
returns-in-Some-clause-token g c = grind (arith, common_steps, next_taken)
