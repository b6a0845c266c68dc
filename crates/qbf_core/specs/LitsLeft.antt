-- Literals that are left to be read one by one.
use Rattle.std.specs.Prelude.{List}
use Rattle.qbf_core.specs.Literal.{Literal}
use Rattle.qbf_core.specs.Packed.{fours, ones, twos}
use Rattle.qbf_core.specs.declared.lits_left.Kept.{Kept}
use Rattle.qbf_core.specs.declared.lits_left.Kept.TheVariants.{Lits, Ones, Twos, Fours}

-- the literals that lie there
abbrev pub lits_in : Kept → List Literal
lits_in (Lits lits) = lits.now
lits_in (Ones bytes) = ones bytes.now
lits_in (Twos bytes) = twos bytes.now
lits_in (Fours bytes) = fours bytes.now
