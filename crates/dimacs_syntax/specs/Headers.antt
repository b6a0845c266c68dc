-- The header of a text, token by token: two words, and two numbers.
use Rattle.std.specs.Prelude.{◌≤◌, ℕ, Bool, true, false, Option, Some, None, Result, Ok, Err, List, [], ◌∷◌, nat_le, if◌then◌else◌, ⊤}
use Rattle.qbf_tokens.specs.declared.token.Token.{Token}
use Rattle.qbf_tokens.specs.declared.token.Token.TheVariants as token
use Rattle.qbf_tokens.specs.declared.token.Word.{Word}
use Rattle.qbf_tokens.specs.declared.token.Word.TheVariants as word
use Rattle.dimacs_syntax.specs.declared.decode.Faults.{Faults}
use Rattle.dimacs_syntax.specs.declared.header.HeaderForm.{HeaderForm}
use Rattle.dimacs_syntax.specs.declared.header.HeaderAt.{HeaderAt}
use Rattle.dimacs_syntax.specs.declared.header.HeaderAt.TheVariants.{P, Format, First, Second}
use Rattle.dimacs_syntax.specs.declared.header.HeaderMove.{HeaderMove}
use Rattle.dimacs_syntax.specs.declared.header.HeaderMove.TheVariants.{Next, Done}
use Rattle.dimacs_syntax.specs.Spelling.{number}

-- the fault of a token that the header does not accept
abbrev pub header_fault : {F : Type 0} → Faults F → Token → F
header_fault faults token.End = faults.end
header_fault faults t = faults.header

-- ---- words

-- whether two words are the same
abbrev pub is_same : Word → Word → Bool
is_same word.P word.P = true
is_same word.Cnf word.Cnf = true
is_same word.Qrp word.Qrp = true
is_same word.A word.A = true
is_same word.E word.E = true
is_same word.R word.R = true
is_same word.Sat word.Sat = true
is_same word.Unsat word.Unsat = true
is_same a b = false

-- whether a token is this word
abbrev pub is_word : Word → Token → Bool
is_word w (token.Word said) = is_same w said
is_word w t = false

-- a token where the header wants this word
abbrev pub header_word : {F : Type 0} → Faults F → Word → Token → Result (Unit {0}) F
header_word faults w t = if is_word w t then Ok tt else Err (header_fault faults t)

-- ---- numbers

-- whether a header may have this number
abbrev pub is_allowed : Option ℕ → ℕ → Bool
is_allowed None n = true
is_allowed (Some last) n = nat_le n last

-- the number that a token says in a header
abbrev pub header_number : {F : Type 0} → HeaderForm F → Token → Result ℕ F
header_number form (token.Number false n) = if is_allowed form.last n then Ok n else Err form.faults.header
header_number form t = Err (header_fault form.faults t)

-- ---- the whole

-- the move after a token that says something, or the fault of the token
abbrev pub header_next : {X F : Type 0} → (X → HeaderMove) → Result X F → Result HeaderMove F
header_next next (Ok x) = Ok (next x)
header_next next (Err f) = Err f

-- the move of a token at its place in a header, or its fault
abbrev pub header_move : {F : Type 0} → HeaderForm F → HeaderAt → Token → Result HeaderMove F
header_move form P t = header_next (λ u. Next Format) (header_word form.faults word.P t)
header_move form Format t = header_next (λ u. Next First) (header_word form.faults form.format t)
header_move form First t = header_next (λ n. Next (Second n)) (header_number form t)
header_move form (Second first) t = header_next (λ n. Done first n) (header_number form t)

-- the tokens before a place in a header
abbrev pub header_before : Word → HeaderAt → List Token
header_before format P = []
header_before format Format = token.Word word.P ∷ []
header_before format First = token.Word word.P ∷ token.Word format ∷ []
header_before format (Second n) = token.Word word.P ∷ token.Word format ∷ number n ∷ []

-- the numbers before a place are at most this
abbrev pub IsUpTo : ℕ → HeaderAt → Type 0
IsUpTo top P = ⊤
IsUpTo top Format = ⊤
IsUpTo top First = ⊤
IsUpTo top (Second n) = n ≤ top

-- and so are those after a token
abbrev pub LeadsUpTo : ℕ → HeaderMove → Type 0
LeadsUpTo top (Next next) = IsUpTo top next
LeadsUpTo top (Done first second) = (first ≤ top) × (second ≤ top)
