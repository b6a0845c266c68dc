use Rattle.qbf_tokens.proofs.Cited.{◌≡◌, ℕ, ◌≤◌, List, Option, length}
use Rattle.qbf_text.specs.Passing.{LeadsBetween}
use Rattle.qbf_text.proofs.grammar.take_buffered.Given as goal

abbrev pub invariant-lines : goal.invariant-lines
invariant-lines g l = record {
  leads : (remaining : Option (List ℕ)) → LeadsBetween g.G.Grammar.row_of (g.G.Grammar.state l.fn.grammar) (g.G.Grammar.state l.grammar)
      l.fn.scanner l.scanner remaining;
  status : l.scanner.status ≡ l.fn.scanner.status;
  no_more : length l.scanner.pending ≤ length l.fn.scanner.pending;
  kept : g.G.Grammar.kept l.grammar ≡ g.G.Grammar.kept l.fn.grammar;
}

abbrev pub decreases-lines : goal.decreases-lines
decreases-lines g l = length l.scanner.pending
