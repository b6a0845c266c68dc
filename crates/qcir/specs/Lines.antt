-- The first tokens of what is left of a line.
use Rattle.std.specs.Prelude.{Bool, true, false, List, [], ◌∷◌, ◌++◌, Result, Ok, Err}
use Rattle.qbf_core.specs.Literal.{Literal}
use Rattle.qcir_tokens.specs.declared.mark.Mark.TheVariants.{Close, Hash, Minus}
use Rattle.qcir_tokens.specs.Tokens.{Token, Word, Sign}
use Rattle.qcir.specs.declared.fault.QuestionFault.{QuestionFault}
use Rattle.qcir.specs.Names.{Name}

-- a name in front, after a minus or not
abbrev pub signed : Bool → Name → List Token → List Token
signed false w ts = Word w ∷ ts
signed true w ts = Sign Minus ∷ Word w ∷ ts

-- no name stands in front
abbrev pub BeginsWithNoName : List Token → Type 0
BeginsWithNoName (Word w ∷ ts) = ⊥
BeginsWithNoName (Sign Minus ∷ Word w ∷ ts) = ⊥
BeginsWithNoName ts = Unit {0}

-- there is more than `)`, or less
abbrev pub IsNoEnd : List Token → Type 0
IsNoEnd (Sign Close ∷ []) = ⊥
IsNoEnd ts = Unit {0}

-- literals that were read, and those after them
abbrev pub after : List Literal → Result (List Literal) QuestionFault → Result (List Literal) QuestionFault
after ls (Err f) = Err f
after ls (Ok ms) = Ok (ls ++ ms)

-- the line has no token, or it is a comment
abbrev pub SaysNothing : List Token → Type 0
SaysNothing [] = Unit {0}
SaysNothing (Sign Hash ∷ ts) = Unit {0}
SaysNothing ts = ⊥

abbrev pub SaysSomething : List Token → Type 0
SaysSomething [] = ⊥
SaysSomething (Sign Hash ∷ ts) = ⊥
SaysSomething ts = Unit {0}
