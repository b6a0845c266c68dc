-- The text of a circuit with names: AIGER's symbol table (Biere 2007; version 1.9: Biere, Heljanko, Wieringa 2011) has a line for each input and
-- then for each output, with a letter, the position, a blank, and the name that a formula of gates gives to the variable.
use Rattle.std.specs.Prelude.{ℕ, Bool, List, ◌++◌}
use Rattle.aiger.specs.Circuits.{Circuit}
use Rattle.aiger.specs.Formats.{unnamed_text}
use Rattle.aiger.specs.Texts as aiger
use Rattle.qcir.specs.Names.{Name}
use Rattle.qcir.specs.Texts.{name_of}

-- the symbol table with these names
abbrev pub symbol_table : List Name → Circuit → List ℕ
symbol_table names c = aiger.symbol_table (name_of names) c

-- the text of a circuit with these names
abbrev pub named_text : (binary : Bool) → List Name → Circuit → List ℕ
named_text binary names c = unnamed_text binary c ++ symbol_table names c
