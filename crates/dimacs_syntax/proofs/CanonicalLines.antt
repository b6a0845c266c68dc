-- The lines of a canonical text can be written.
use Rattle.std.proofs.Common.{rules, List, map, arith}
use Rattle.std.specs.List.{AllByRecursion}
use Rattle.qbf_core.specs.Literal.{Literal}
use Rattle.qbf_core.specs.Blocks.{Block, IsVariable}
use Rattle.qbf_tokens.specs.Canonical.{IsPlain, IsLine}
use Rattle.qbf_tokens.proofs.CanonicalTokens.{all_mapped, closed_plain}
use Rattle.dimacs_syntax.specs.Spelling.{number, literal, set}

-- literals of variables
pub literals_plain : (ls : List Literal) → AllByRecursion (λ l. IsVariable l.var) ls → AllByRecursion IsPlain (map literal ls)
literals_plain ls h = all_mapped (λ l. IsVariable l.var) IsPlain literal (λ l is. search rules) ls h

-- a set of variables
pub set_written : (s : Block) → AllByRecursion IsVariable s.vars → IsLine (set s)
set_written s h =
    let closed = closed_plain (map number s.vars) (all_mapped IsVariable IsPlain number (λ v is. omega (arith, is.1)) s.vars h) in
    search rules
