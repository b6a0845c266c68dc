-- The laws of reading, and the canonical text that is read again.
use Rattle.qdimacs.proofs.Cited.{common_steps, ◌≡◌, ℕ, true, List, [], ◌∷◌, ◌++◌, map, refl, ◌∙◌, arith, append_assoc, Option, IfSome}
use Rattle.qdimacs.proofs.Cited.{flat_map-append, flat_map-map, AllByRecursion, Quantifier, Literal, Block, pairs, variables, is_bound}
use Rattle.qdimacs.proofs.Cited.{IsVariable, Qbf, Qdimacs, tokens, literal, set, AreBound, IsWellFormed, IsPlain, IsLine, joined}
use Rattle.qdimacs.proofs.Cited.{tokens-lines_text, all_appended, all_mapped, all_of, closed_plain, literals_plain, set_written, clause}
use Rattle.qdimacs.proofs.Cited.{spelling, lines, text, IsFormula, ReadsText, Pairs, ReadResult, Gives, reads_bytes, is_outside, read}
use Rattle.qdimacs.proofs.Cited.{bytes_read_as, tokens-EndsOnce, IsReadAs, IsFault, Reads, BytesRead, Ok, read_formula, ◌≤◌}
use Rattle.dimacs_syntax.proofs.Cited.token
use Rattle.qdimacs.proofs.SpelledIsRead.{bound_one, spelled_is_read, read_once}
use Rattle.qdimacs.proofs.ReadIsSpelled.{read_explained}

-- ---- the lines can be written

front : (P : ℕ → Type 0) (q : Quantifier) (vs : List ℕ) (ps : Pairs)
    → AllByRecursion P (variables (map (λ v. (q, v)) vs ++ ps)) → AllByRecursion P vs × AllByRecursion P (variables ps)
front P q [] ps h = (tt, h)
front P q (v ∷ vs) ps h = let k = front P q vs ps h.1 in ((h.0, k.0), k.1)

sets_lines : (bs : List Block) → AllByRecursion IsVariable (variables (pairs bs)) → AllByRecursion IsLine (map set bs)
sets_lines [] h = tt
sets_lines (b ∷ bs) h =
    let k = front IsVariable b.quantifier b.vars (pairs bs) h in (set_written b k.0, sets_lines bs k.1)

numbers_line : (ls : List Literal) → AllByRecursion IsPlain (clause ls) → IsLine (clause ls)
numbers_line [] h = (tt, h)
numbers_line (l ∷ ls) h = (tt, h)

clause_line : (bs : List Block) → AllByRecursion IsVariable (variables (pairs bs)) → (ls : List Literal) → AreBound bs ls
    → IsLine (clause ls)
clause_line bs within ls h = numbers_line ls (closed_plain (map literal ls) (literals_plain ls
    (all_of (λ l. is_bound l.var (pairs bs) ≡ true) (λ l. IsVariable l.var)
    (λ l is. bound_one IsVariable l.var (pairs bs) is within) ls h)))

lines_written : (f : Qbf) → IsWellFormed f → AllByRecursion IsLine (lines f)
lines_written f w = (
  (tt, (tt, (tt, (omega (arith, w.numbers), (omega (arith, w.count), tt))))),
  all_appended IsLine (map set f.blocks) (map clause f.clauses) (sets_lines f.blocks w.prefix.within)
      (all_mapped (AreBound f.blocks) IsLine clause (clause_line f.blocks w.prefix.within) f.clauses w.closed),
)

-- ---- the tokens of the lines

joined_lines : (f : Qbf) → joined (lines f) ++ token.End ∷ [] ≡ spelling f f.blocks
joined_lines f = grind (arith, common_steps, flat_map-append, flat_map-map, append_assoc)

-- A formula that is written is read again.
pub text_is_read : ReadsText
text_is_read f w =
    spelled_is_read (tokens Qdimacs (text f)) f (record {
      sets = f.blocks;
      spelled = tokens-lines_text Qdimacs (lines f) (lines_written f w) ∙ joined_lines f;
      bound = refl;
      well_formed = w;
    })

-- So is one whose header has another greatest variable.
pub text_up_to_is_read : (f : Qbf) (max_var : ℕ) → IsWellFormed f → max_var ≤ 2147483647
    → AllByRecursion (λ v. v ≤ max_var) (variables (pairs f.blocks))
    → read_formula (text (record f { max_var = max_var })) ≡ Ok (record f { max_var = max_var })
text_up_to_is_read f max_var w number top =
    text_is_read (record f { max_var = max_var })
    (record { prefix = w.prefix; numbers = number; top = top; closed = w.closed; count = w.count })

pub bytes_read : BytesRead Reads read Qdimacs
bytes_read bytes = read_explained (tokens Qdimacs bytes) (tokens-EndsOnce Qdimacs bytes)

-- the result of a call that gives what is read
pub given_results : (remaining : Option (List ℕ)) (result : ReadResult) → Gives result (reads_bytes remaining)
    → IfSome remaining (λ bytes. IsReadAs (tokens Qdimacs bytes) result)
given_results = bytes_read_as is_outside IsFormula IsFault Qdimacs read read_explained

pub ruleset laws = (read_explained, read_once, bytes_read, text_is_read)
