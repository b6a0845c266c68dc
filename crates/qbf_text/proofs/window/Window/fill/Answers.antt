use Rattle.qbf_tokens.proofs.Cited.{arith}
use Rattle.qbf_text.proofs.Windows.{keeps_some}
use Rattle.qbf_text.proofs.window.Window.fill.Goals as goal

pub returns-then-self-clause-kept : goal.returns-then-self-clause-kept
returns-then-self-clause-kept g c =
    let w = c.self.inside in
    keeps_some g.S.Source.remaining w.bytes w.start w.end c.args.self.now c.args.source.now
    c.if-self.true (omega (arith, c.self.invariant.1, c.self.told))
    c.self.view_is
