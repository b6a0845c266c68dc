use Rattle.qbf_tokens.proofs.Cited.{◌≡◌, ◌+◌, ◌≤◌, length}
use Rattle.qbf_text.proofs.Cited.{left, HasFailed, IsReady, ahead, reads_from, IfKnown, tokens_next, SoFar}
use Rattle.qbf_text.proofs.OneToken.{Leads}
use Rattle.qbf_text.proofs.grammar.read_by.Given as goal

abbrev pub invariant-tokens : goal.invariant-tokens
invariant-tokens g l = record {
  so_far : Leads (reads_from g.G.Grammar.row_of (g.G.Grammar.state l.fn.grammar) (left l.fn.scanner (g.S.Source.remaining l.fn.source)))
      (reads_from g.G.Grammar.row_of (g.G.Grammar.state l.grammar) (left l.scanner (g.S.Source.remaining l.source)));
  stops : IfKnown (SoFar g.G.Grammar.row_of (g.G.Grammar.state l.fn.grammar) (g.G.Grammar.state l.grammar) (tokens_next l.fn.scanner)
      (tokens_next l.scanner))
      (ahead l.fn.scanner.pending (g.S.Source.remaining l.fn.source)) (ahead l.scanner.pending (g.S.Source.remaining l.source));
  ready : ¬ HasFailed l.scanner;
  remains : IsReady l.fn.scanner (g.S.Source.remaining l.fn.source) → IsReady l.scanner (g.S.Source.remaining l.source);
  kept : g.G.Grammar.kept l.grammar ≡ g.G.Grammar.kept l.fn.grammar;
  counts : g.S.Source.failures l.source ≡ g.S.Source.failures l.fn.source;
  bound : length l.scanner.pending + g.S.Source.bound l.source ≤ length l.fn.scanner.pending + g.S.Source.bound l.fn.source;
}

abbrev pub decreases-tokens : goal.decreases-tokens
decreases-tokens g l = length l.scanner.pending + g.S.Source.bound l.source
