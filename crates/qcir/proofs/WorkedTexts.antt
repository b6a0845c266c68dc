-- Worked texts: their lines as runs, and what is read of them.
use Rattle.std.proofs.Common.{arith, codes, ◌≡◌, ◌≢◌, ℕ, ◌<◌, ◌≤◌, true, List, [], ◌∷◌, Ok, Err, Result, refl, map, filter, bytes_eq, inr}
use Rattle.std.specs.List.{AllByRecursion, IsDistinct, after_first, slice_split}
use Rattle.qbf_core.specs.declared.quantifier.Quantifier.TheVariants.{All, Exists}
use Rattle.qbf_core.specs.Blocks.{Block}
use Rattle.qbf_core.specs.Literal.{positive as pos, negative as neg}
use Rattle.qbf_gates.specs.Gates.{And, Or, Xor, Ite, inputs_of}
use Rattle.qbf_tokens.specs.Tokens.{is_line_end}
use Rattle.qcir_tokens.specs.Tokens.{is_word_byte, runs}
use Rattle.qcir.specs.declared.fault.QuestionFault.{QuestionFault}
use Rattle.qcir.specs.declared.fault.QuestionFault.TheVariants.{Q2, Q3, Q4, Q5, Q8, Q9, Q12}
use Rattle.qcir.specs.Grammar.{IsQuestion, says_something}
use Rattle.qcir.specs.Names.{Question}
use Rattle.qcir.specs.Reading.{read_gates}
use Rattle.qcir.specs.Texts.{lines_of, text}

-- ---- runs

abbrev lines : List (List ℕ × List (List ℕ))
lines = (codes "g = and(a, -b2)", codes "g" ∷ codes "=" ∷ codes "and" ∷ codes "(" ∷ codes "a" ∷ codes "," ∷ codes "-" ∷ codes "b2" ∷ codes ")" ∷ [])
    ∷ (codes "\t#QCIR-14  007 \r", codes "#" ∷ codes "QCIR" ∷ codes "-" ∷ codes "14" ∷ codes "007" ∷ [])
    ∷ (codes "  ", [])
    ∷ (codes "x_1y", codes "x_1y" ∷ [])
    ∷ (codes "((", codes "(" ∷ codes "(" ∷ [])
    ∷ []

lines_run : AllByRecursion (λ r. runs r.0 ≡ r.1) lines
lines_run = (refl, (refl, (refl, (refl, (refl, tt)))))

-- ---- a text with all that the grammar has

abbrev a_block : Block
a_block = record { quantifier = All; vars = 1 ∷ [] }

abbrev b_block : Block
b_block = record { quantifier = Exists; vars = 2 ∷ 3 ∷ [] }

abbrev whole : Question
whole = record {
  names = codes "a" ∷ codes "b" ∷ codes "or" ∷ codes "g" ∷ codes "h" ∷ codes "i" ∷ codes "_" ∷ [];
  formula = record {
    blocks = a_block ∷ b_block ∷ [];
    gates = (4, And (pos 1 ∷ neg 2 ∷ [])) ∷ (5, Or []) ∷ (6, Xor (neg 4) (pos 3)) ∷ (7, Ite (pos 6) (neg 5) (pos 1)) ∷ [];
    output = neg 7;
  };
}

abbrev spelled : List ℕ
spelled = codes "#QCIR-G14 7\r\n# a comment\nforall(a)\n\n exists ( b )\nexists(or)\noutput(-_)\ng = and(a, -b)\nh=or()\ni = xor(-g,or)\n#\n_ = ite(i, -h, a)"

abbrev sets : List Block
sets = a_block ∷ record { quantifier = Exists; vars = 2 ∷ [] } ∷ record { quantifier = Exists; vars = 3 ∷ [] } ∷ []

-- the lines that say something are those of the formula
whole_said : filter says_something (map runs (slice_split is_line_end (after_first is_line_end spelled))) ≡ map runs (lines_of sets whole)
whole_said = refl

whole_read : read_gates spelled ≡ Ok whole
whole_read = refl

-- the conditions of the grammar, one by one
filled : AllByRecursion (λ s. s.vars ≢ []) sets
filled = ((λ none. cc), ((λ none. cc), ((λ none. cc), tt)))

words : AllByRecursion (λ w. (w ≢ []) × AllByRecursion (λ b. is_word_byte b ≡ true) w) whole.names
words = (((λ none. cc), (refl, tt)), (((λ none. cc), (refl, tt)), (((λ none. cc), (refl, (refl, tt))), (((λ none. cc), (refl, tt)), (((λ none. cc), (refl, tt)), (((λ none. cc), (refl, tt)), (((λ none. cc), (refl, tt)), tt)))))))

distinct : IsDistinct bytes_eq whole.names
unfolding IsDistinct
distinct = ((refl, (refl, (refl, (refl, (refl, (refl, tt)))))), ((refl, (refl, (refl, (refl, (refl, tt))))), ((refl, (refl, (refl, (refl, tt)))), ((refl, (refl, (refl, tt))), ((refl, (refl, tt)), ((refl, tt), (tt, tt)))))))

order : AllByRecursion (λ g. AllByRecursion (λ l. (1 ≤ l.var) × (l.var < g.0)) (inputs_of g.1)) whole.formula.gates
order = (((omega arith, omega arith), ((omega arith, omega arith), tt)), (tt, (((omega arith, omega arith), ((omega arith, omega arith), tt)), (((omega arith, omega arith), ((omega arith, omega arith), ((omega arith, omega arith), tt))), tt))))

whole_spelled : IsQuestion spelled whole
whole_spelled = record {
  header = (codes "7", refl, inr refl);
  sets = sets;
  filled = filled;
  blocks = refl;
  said = whole_said;
  words = words;
  distinct = distinct;
  few = omega arith;
  numbered = refl;
  order = order;
  output = (omega arith, omega arith);
}

canonical : text whole ≡ codes "#QCIR-14\nforall(a)\nexists(b, or)\noutput(-_)\ng = and(a, -b)\nh = or()\ni = xor(-g, or)\n_ = ite(i, -h, a)\n"
canonical = refl

-- ---- texts that are not read

abbrev rows : List (List ℕ × Result Question (QuestionFault × ℕ))
rows = (codes "#QCIR-15\noutput(g)\n", Err (Q2, 1))
    ∷ (codes "#QCIR-14\nexists()\noutput(g)\ng = and()\n", Err (Q3, 2))
    ∷ (codes "#QCIR-14\nexists(a,)\n", Err (Q3, 2))
    ∷ (codes "#QCIR-14\nexists(a, a)\n", Err (Q4, 2))
    ∷ (codes "#QCIR-14\noutput(g)\ng = or(g)\n", Err (Q5, 3))
    ∷ (codes "#QCIR-14\nexists(a)\noutput(g)\ng = or(a, -h)\n\nh = and(", Err (Q5, 4))
    ∷ (codes "#QCIR-14\noutput(g)\ng = or(-h, g)\n#h = and()\n", Err (Q12, 3))
    ∷ (codes "#QCIR-14\noutput(g)\nh = and()", Err (Q12, 3))
    ∷ (codes "#QCIR-14\noutput(g)\ng = xor()\n", Err (Q8, 3))
    ∷ (codes "#QCIR-14\nexists(a)", Err (Q9, 2))
    ∷ []

rows_read : AllByRecursion (λ r. read_gates r.0 ≡ r.1) rows
rows_read = (refl, (refl, (refl, (refl, (refl, (refl, (refl, (refl, (refl, (refl, tt))))))))))
