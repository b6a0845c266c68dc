-- Names and their numbers: they are numbered from 1 in the order in which they are given.
use Rattle.std.specs.Prelude.{ℕ, ◌+◌, Bool, List, [], ◌∷◌, ◌++◌, length, position, bytes_eq, nat_lt, if◌then◌else◌, Option, Some, None, Result, Ok, Err}
use Rattle.std.specs.List.{list_any}
use Rattle.qbf_core.specs.declared.quantifier.Quantifier.{Quantifier}
use Rattle.qbf_core.specs.declared.quantifier.Quantifier.TheVariants.{Exists}
use Rattle.qbf_core.specs.Blocks.{is_quantifier}
use Rattle.qbf_core.specs.Literal.{Literal}
use Rattle.qbf_gates.specs.Gates.{GateFormula}
use Rattle.qcir.specs.declared.fault.QuestionFault.{QuestionFault}
use Rattle.qcir.specs.declared.fault.QuestionFault.TheVariants.{Q4, Q5, Q10}

-- a name: letters, digits and underscores
abbrev pub Name : Type 0
Name = List ℕ

-- a formula of gates, and the names of its variables and gates: the name at place i is that of number i + 1
pub record Question : Type 0 where
  pub names : List Name
  pub formula : GateFormula

-- the names with one more
abbrev pub with_name : List Name → Name → Result (List Name) QuestionFault
with_name names w =
    if nat_lt (length names) 2147483647
    then (if list_any (bytes_eq w) names then Err Q4 else Ok (names ++ w ∷ []))
    else Err Q10

-- the literal of the name at a place; Q5 here says that the name is missing: it is not given so far
abbrev pub literal_at : Bool → Option ℕ → Result Literal QuestionFault
literal_at negative None = Err Q5
literal_at negative (Some place) = Ok (record { var = place + 1; negative = negative })

-- the literal of a name, if it is given
abbrev pub literal_named : List Name → Bool → Name → Result Literal QuestionFault
literal_named names negative w = literal_at negative (position (bytes_eq w) names)

-- whether a variable is existential
abbrev pub is_existential : Quantifier × ℕ → Bool
is_existential p = is_quantifier Exists p.0
