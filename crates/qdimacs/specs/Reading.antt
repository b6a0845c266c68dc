-- Reading from the first token on, to the formula or to the first fault.
-- QDIMACS 1.1, input format, token by token: for each state in the text a row says which tokens go on, which end the reading,
-- and which are a fault.
use Rattle.std.specs.Prelude.{◌≡◌, ◌≤◌, ℕ, Bool, true, false, List, [], ◌∷◌, ◌++◌, length, Option, Some, None, option_map, Result, Ok, Err}
use Rattle.std.specs.Prelude.{nat_lt, if◌then◌else◌}
use Rattle.dimacs_syntax.specs.Cited
use Cited.{AllByRecursion, Quantifier, Literal, Qbf, Token, Lined, Fails}
use Cited.token
use Cited.word
use Rattle.qbf_core.specs.Blocks.{blocks_of, is_bound}
use Rattle.qdimacs.specs.declared.fault.FormulaFault.{FormulaFault}
use Rattle.qdimacs.specs.declared.fault.FormulaFault.TheVariants.{F2, F3, F4, F5, F6, F7, F8, F9, F1}
use Rattle.qbf_text.specs.WholeTexts as whole_texts
use Rattle.dimacs_syntax.specs.declared.decode.Faults.{Faults}
use Rattle.dimacs_syntax.specs.declared.header.HeaderForm.{HeaderForm}
use Rattle.dimacs_syntax.specs.declared.header.HeaderAt.{HeaderAt}
use Rattle.dimacs_syntax.specs.declared.header.HeaderAt.TheVariants as header
use Rattle.dimacs_syntax.specs.declared.header.HeaderMove.{HeaderMove}
use Rattle.dimacs_syntax.specs.declared.header.HeaderMove.TheVariants as moves
use Rattle.dimacs_syntax.specs.Headers.{header_move}
use Rattle.dimacs_syntax.specs.Decode.{decode_quantifier, decode_member, decode_literal}
use Rattle.qbf_text.specs.Rows.{Goes, Ends, Read}
use Rattle.qbf_text.specs.Rows as rows
use Rattle.qbf_tokens.specs.declared.token.Comments.TheVariants.{Qdimacs}
use Rattle.qbf_tokens.specs.Tokens as text

-- variables, each with its quantifier
abbrev pub Pairs : Type 0
Pairs = List (Quantifier × ℕ)

abbrev pub Clauses : Type 0
Clauses = List (List Literal)

-- the variable of each literal is one of these
abbrev pub AreFrom : Pairs → List Literal → Type 0
AreFrom ps ls = AllByRecursion (λ l. is_bound l.var ps ≡ true) ls

-- the result of reading: a formula, or the first fault and its line
abbrev pub ReadResult : Type 0
ReadResult = Result Qbf (FormulaFault × ℕ)

-- the numbers of the header
pub record Heading : Type 0 where
  pub max_var : ℕ
  pub count : ℕ

-- A state: the place of a token, by what the tokens before it spell.
pub data State : Type 0 where
  -- in the header
  InHeader : HeaderAt → State
  -- after whole sets and whole clauses
  Between : Heading → Pairs → Clauses → State
  -- in a set, the pairs of its own variables the last
  InSet : Heading → Pairs → Quantifier → State
  -- in a clause that has begun with these literals
  InClause : Heading → Pairs → Clauses → List Literal → State
  -- after the end
  Whole : Qbf → State

-- A row: what a state makes of a token.
abbrev pub Row : Type 0
Row = rows.Row State (Unit {0}) FormulaFault

-- ---- the header

-- the faults of tokens
abbrev pub faults : Faults FormulaFault
faults = record { header = F2; stray = F3; range = F4; minus_zero = F3; end = F7 }

-- the header: the word `cnf`, and two numbers
abbrev pub form : HeaderForm FormulaFault
form = record { format = word.Cnf; last = Some 2147483647; faults = faults }

-- in the header
abbrev pub header_row : Result HeaderMove FormulaFault → Row
header_row (Err f) = Fails f
header_row (Ok (moves.Next next)) = Goes (InHeader next)
header_row (Ok (moves.Done max_var count)) = Goes (Between (record { max_var = max_var; count = count }) [] [])

-- ---- a set

-- at a variable of a set, bound before or not
abbrev pub bind_row : Heading → Pairs → Quantifier → ℕ → Bool → Row
bind_row h ps q v true = Fails F5
bind_row h ps q v false = Goes (InSet h (ps ++ (q, v) ∷ []) q)

-- in a set
abbrev pub set_row : Heading → Pairs → Quantifier → Result (Option ℕ) FormulaFault → Row
set_row h ps q (Err f) = Fails f
set_row h ps q (Ok None) = Goes (Between h ps [])
set_row h ps q (Ok (Some v)) = bind_row h ps q v (is_bound v ps)

-- ---- a clause

-- each variable that the header allows is bound
abbrev pub IsFull : ℕ → Pairs → Type 0
IsFull max_var ps = (v : ℕ) → 1 ≤ v → v ≤ max_var → is_bound v ps ≡ true

-- the literal of a clause, if its variable is bound
abbrev pub if_bound : Pairs → Result (Option Literal) FormulaFault → Result (Option Literal) FormulaFault
if_bound ps (Ok (Some l)) = if is_bound l.var ps then Ok (Some l) else Err F6
if_bound ps (Ok None) = Ok None
if_bound ps (Err f) = Err f

-- the literal that a token says in a clause, or None if it closes the clause
abbrev pub decode_bound_literal : ℕ → Pairs → Token → Result (Option Literal) FormulaFault
decode_bound_literal max_var ps t = if_bound ps (decode_literal faults max_var t)

-- in a clause
abbrev pub clause_row : Heading → Pairs → Clauses → List Literal
    → Result (Option Literal) FormulaFault → Row
clause_row h ps cs ls (Err f) = Fails f
clause_row h ps cs ls (Ok None) = Goes (Between h ps (cs ++ ls ∷ []))
clause_row h ps cs ls (Ok (Some l)) = Goes (InClause h ps cs (ls ++ l ∷ []))

-- ---- between lists

-- the set that a token begins: none, once a clause was begun
abbrev pub set_start : Clauses → Token → Option Quantifier
set_start [] t = decode_quantifier t
set_start (c ∷ cs) t = None

-- whether clauses are still to come
abbrev pub has_more : Heading → Clauses → Bool
has_more h cs = nat_lt (length cs) h.count

-- the meaning of a token that does not begin a set: a clause begins (true), or all is read (false), or a fault
abbrev pub decode_clause_or_end : Bool → Token → Result Bool FormulaFault
decode_clause_or_end true (token.Number negative n) = Ok true
decode_clause_or_end false (token.Number negative n) = Err F8
decode_clause_or_end true token.Big = Err F4
decode_clause_or_end false token.Big = Err F8
decode_clause_or_end true token.End = Err F8
decode_clause_or_end false token.End = Ok false
decode_clause_or_end more (token.Word w) = Err F3
decode_clause_or_end more token.Bad = Err F3

-- between lists: a set or a clause begins, or all is read
abbrev pub between_row : Heading → Pairs → Clauses → Option Quantifier
    → Result Bool FormulaFault → Result (Option Literal) FormulaFault → Row
between_row h ps cs (Some q) mark first = Goes (InSet h ps q)
between_row h ps cs None (Err f) first = Fails f
between_row h ps cs None (Ok true) first = clause_row h ps cs [] first
between_row h ps cs None (Ok false) first = Ends tt (Whole (record { max_var = h.max_var; blocks = blocks_of ps; clauses = cs }))

-- ---- the whole

-- the row of each state
abbrev pub row : State → Token → Row
row (InHeader here) t = header_row (header_move form here t)
row (Between h ps cs) t =
    between_row h ps cs (set_start cs t) (decode_clause_or_end (has_more h cs) t) (decode_bound_literal h.max_var ps t)
row (InSet h ps q) t = set_row h ps q (decode_member faults h.max_var t)
row (InClause h ps cs ls) t = clause_row h ps cs ls (decode_bound_literal h.max_var ps t)
row (Whole f) t = Fails F3

-- the end was read
abbrev pub IsWhole : State → Type 0
IsWhole (Whole f) = Unit {0}
IsWhole state = ⊥

-- the result at the state after the last token
abbrev pub result_at : State → ReadResult
result_at (Whole f) = Ok f
result_at state = Err (F7, 0)

-- the result of reading by the rows
abbrev pub result_of : Read State (Unit {0}) FormulaFault → ReadResult
result_of (rows.Whole u state rest) = result_at state
result_of (rows.Fault f line) = Err (f, line)
result_of rows.Cut = Err (F7, 0)

-- the state of the first token
abbrev pub AtP : State
AtP = InHeader header.P

-- The result of reading from a state on.
abbrev pub read_from : State → List Lined → ReadResult
read_from state ts = result_of (rows.read_from row state ts)

-- The result of reading tokens.
abbrev pub read : List Lined → ReadResult
read ts = read_from AtP ts

-- The result of reading these bytes: the formula, or the first fault.
abbrev pub read_formula : List ℕ → ReadResult
read_formula bytes = read (text.tokens Qdimacs bytes)

-- the result of reading these bytes, if they are known
abbrev pub reads_bytes : Option (List ℕ) → Option ReadResult
reads_bytes bytes = option_map read_formula bytes

-- the source failed, or an allocation failed
abbrev pub is_outside : FormulaFault → Bool
is_outside F1 = true
is_outside F9 = true
is_outside f = false

-- The result is what was to be read, unless the source failed or an allocation failed.
abbrev pub Gives : ReadResult → Option ReadResult → Type 0
Gives result whole = whole_texts.Gives is_outside result whole
