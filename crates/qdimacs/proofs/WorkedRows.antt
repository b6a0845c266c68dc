-- Worked rows of formulas.
use Rattle.qdimacs.proofs.Cited.{AllByRecursion, Qbf, exists, all, F2, F3, F4, F5, F6, F7, F8, text, read_formula, ReadResult}
use Rattle.std.specs.Prelude.{codes, ◌≡◌, ℕ, List, [], ◌∷◌, Ok, Err, refl}
use Rattle.dimacs_syntax.proofs.Cited.{read_from}
use Rattle.std.specs.Fmt.{digits}
use Rattle.qbf_core.specs.Literal.{positive as pos, negative as neg}

abbrev value_a : Qbf
value_a = record { max_var = 2; blocks = exists (1 ∷ []) ∷ all (2 ∷ []) ∷ []; clauses = (pos 1 ∷ pos 2 ∷ []) ∷ (neg 1 ∷ pos 2 ∷ []) ∷ [] }

abbrev greatest : Qbf
greatest = record { max_var = 2147483647; blocks = exists (2147483647 ∷ []) ∷ []; clauses = (neg 2147483647 ∷ []) ∷ [] }

abbrev joined : Qbf
joined = record { max_var = 4; blocks = exists (3 ∷ 1 ∷ []) ∷ all (2 ∷ []) ∷ []; clauses = (pos 3 ∷ neg 2 ∷ pos 2 ∷ pos 3 ∷ []) ∷ [] }

-- ---- texts, and what is read of them

abbrev rows : List (List ℕ × ReadResult)
rows = (codes "p cnf 2 2\ne 1 0\na 2 0\n1 2 0\n-1 2 0\n", Ok value_a)
    -- a clause is missing, and there is one too many
    ∷ (codes "p cnf 2 2\ne 1 0\na 2 0\n1 2 0\n", Err (F8, 5))
    ∷ (codes "p cnf 1 1\ne 1 0\n1 0\n-1 0\n", Err (F8, 4))
    -- a free variable
    ∷ (codes "p cnf 3 2\ne 1 0\na 2 0\n1 3 0\n-1 2 0\n", Err (F6, 4))
    -- the greatest variable, and one that is greater
    ∷ (codes "p cnf 2147483647 1\ne 2147483647 0\n-2147483647 0\n", Ok greatest)
    ∷ (codes "p cnf 2147483647 1\ne 2147483648 0\n-2147483647 0\n", Err (F4, 2))
    -- comments and other blanks, lines that end with 13 and 10, the last with nothing
    ∷ (codes "c head\r\np cnf 2 2\r\ne\t1 0\r\na 2 0\r\n1\r\nc inside\r\n2 0\r\n-1 2 0", Ok value_a)
    ∷ ([], Err (F7, 1))
    -- the word of the second line begins a comment
    ∷ (codes "p\ncnf 0 0\n", Err (F7, 3))
    -- sets that are joined, and empty ones
    ∷ (codes "p cnf 4 1\ne 3 0\ne 0\na 0\ne 1 0\na 2 0\n03 -2 2 3 0\n", Ok joined)
    -- a word in the place of a number, and a zero after a minus
    ∷ (codes "p cnf 1 1\ne 1 0\n1 x 0\n", Err (F3, 3))
    ∷ (codes "p cnf 1 1\ne 1 0\n1 -0 0\n", Err (F3, 3))
    -- a variable that is bound twice
    ∷ (codes "p cnf 2 0\ne 1 0\na 2 1 0\n", Err (F5, 3))
    ∷ (codes "p cnf 2\ne 1 0\n", Err (F2, 2))
    ∷ []

rows_read : AllByRecursion (λ r. read_formula r.0 ≡ r.1) rows
unfolding read_from
rows_read = (refl, (refl, (refl, (refl, (refl, (refl, (refl, (refl, (refl, (refl, (refl, (refl, (refl, (refl, tt))))))))))))))

-- ---- formulas, and their canonical texts

abbrev written : List (Qbf × List ℕ)
written = (value_a, codes "p cnf 2 2\ne 1 0\na 2 0\n1 2 0\n-1 2 0\n")
    ∷ (greatest, codes "p cnf 2147483647 1\ne 2147483647 0\n-2147483647 0\n")
    ∷ (joined, codes "p cnf 4 1\ne 3 1 0\na 2 0\n3 -2 2 3 0\n")
    ∷ []

texts_written : AllByRecursion (λ r. text r.0 ≡ r.1) written
unfolding digits
texts_written = (refl, (refl, (refl, tt)))
