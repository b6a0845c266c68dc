-- Worked rows of traces.
use Rattle.qrp.proofs.Cited.{AllByRecursion, Literal, exists, all, P2, P3, P4, P5, P6, P7, P8, Sat, Unsat, Inference, Derivation, text}
use Rattle.std.specs.Prelude.{codes, ◌≡◌, ℕ, List, [], ◌∷◌, ◌++◌, Result, Ok, Err, refl}
use Rattle.std.specs.Fmt.{digits}
use Rattle.qbf_core.specs.Literal.{positive as pos, negative as neg}
use Rattle.qrp.specs.Reading.{Fault, read_trace, items_from, with_items}

abbrev inference : ℕ → List Literal → List ℕ → Inference
inference n ls ants = record { number = n; lits = ls; ants = ants }

abbrev small : Derivation
small = record {
  header = record { vars = 0; steps = 0 };
  sets = exists [] ∷ exists (1 ∷ 1 ∷ []) ∷ [];
  steps = inference 7 [] [] ∷ [];
  result = Sat;
}

-- trace A, with these last lines or this last number
abbrev trace_a : List ℕ → List ℕ
trace_a last = codes "p qrp 2 5\ne 1 0\na 2 0\n1 1 2 0 0\n2 -1 2 0 0\n3 1 0 1 0\n" ++ last

abbrev value_a : ℕ → Derivation
value_a last = record {
  header = record { vars = 2; steps = 5 };
  sets = exists (1 ∷ []) ∷ all (2 ∷ []) ∷ [];
  steps = inference 1 (pos 1 ∷ pos 2 ∷ []) [] ∷ inference 2 (neg 1 ∷ pos 2 ∷ []) [] ∷ inference 3 (pos 1 ∷ []) (1 ∷ [])
      ∷ inference 4 (neg 1 ∷ []) (2 ∷ []) ∷ inference last [] (3 ∷ 4 ∷ []) ∷ [];
  result = Unsat;
}

-- ---- texts, and what is read of them

abbrev rows : List (List ℕ × Result Derivation Fault)
rows = (codes "p qrp 1\ne 1 0\n", Err (P2, 2))
    ∷ (codes "p qrp 0 0\n", Err (P7, 2))
    ∷ (codes "p qrp 0 0\ne 0 0\nr sat\n", Err (P4, 2))
    -- a set after a step
    ∷ (codes "p qrp 0 0\n1 0 0\na 1 0\nr sat\n", Err (P3, 3))
    -- no word of the result, and a wrong one
    ∷ (codes "p qrp 0 0\n1 0 0\nr\n", Err (P7, 4))
    ∷ (codes "p qrp 0 0\nr satx\n", Err (P8, 2))
    -- a comment, zeros in front, words in upper case
    ∷ (codes "# p\np qrp 0 00\ne 0\ne 1 01 0\n7 0 0\nr SAT\n", Ok small)
    ∷ (trace_a (codes "4 -1 0 2 0\n5 0 3 4 0\nr unsat\n"), Ok (value_a 5))
    -- the greatest number of a step, and one that is greater
    ∷ (trace_a (codes "4 -1 0 2 0\n18446744073709551615 0 3 4 0\nr unsat\n"), Ok (value_a 18446744073709551615))
    ∷ (trace_a (codes "4 -1 0 2 0\n18446744073709551616 0 3 4 0\nr unsat\n"), Err (P4, 8))
    -- the fourth step has the number of the third
    ∷ (trace_a (codes "3 -1 0 2 0\n5 0 3 4 0\nr unsat\n"), Err (P5, 7))
    -- three antecedents
    ∷ (trace_a (codes "4 -1 0 2 0\n5 0 3 4 1 0\nr unsat\n"), Err (P6, 8))
    ∷ (trace_a (codes "4 -1 0 2 0\n5 0 3 4 0\nr maybe\n"), Err (P8, 9))
    -- nothing is read after the result
    ∷ (trace_a (codes "4 -1 0 2 0\n5 0 3 4 0\nr unsat %$\n"), Ok (value_a 5))
    -- cut in the last step, with no line end after it
    ∷ (trace_a (codes "4 -1 0 2 0\n5 0 3"), Err (P7, 8))
    ∷ []

rows_read : AllByRecursion (λ r. read_trace r.0 ≡ r.1) rows
unfolding items_from with_items
rows_read = (refl, (refl, (refl, (refl, (refl, (refl, (refl, (refl, (refl, (refl, (refl, (refl, (refl, (refl, (refl, tt)))))))))))))))

-- ---- traces, and their canonical texts

abbrev written : List (Derivation × List ℕ)
written = (small, codes "p qrp 0 0\ne 0\ne 1 1 0\n7 0 0\nr sat\n")
    ∷ (value_a 5, trace_a (codes "4 -1 0 2 0\n5 0 3 4 0\nr unsat\n"))
    ∷ []

texts_written : AllByRecursion (λ r. text r.0 ≡ r.1) written
unfolding digits
texts_written = (refl, (refl, tt))
