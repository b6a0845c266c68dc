use Rattle.qbf_tokens.proofs.Cited.{◌∙◌, ap, arith}
use Rattle.qbf_text.proofs.Cited.{first_of}
use Rattle.qbf_text.proofs.Windows.{first_of_part}
use Rattle.qbf_text.proofs.window.Window.first.Goals as goal

pub returns-then-self : goal.returns-then-self
returns-then-self c =
    let w = c.self.inside in
    first_of_part w.bytes w.start w.end c.if-self.true (omega (arith, c.self.invariant.1, c.self.told)) ∙ ap first_of c.self.view_is
