-- Sets as worked rows write them.
use Rattle.std.specs.Prelude.{ℕ, List}
use Rattle.qbf_core.specs.declared.quantifier.Quantifier.TheVariants.{All, Exists}
use Rattle.qbf_core.specs.Blocks.{Block}

abbrev pub exists : List ℕ → Block
exists vs = record { quantifier = Exists; vars = vs }

abbrev pub all : List ℕ → Block
all vs = record { quantifier = All; vars = vs }
