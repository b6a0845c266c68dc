-- A trace with other sets.
use Rattle.std.specs.Prelude.{List}
use Rattle.qbf_core.specs.Blocks.{Block}
use Rattle.trace_items.specs.Derivations.{Derivation, IsWellFormed}
use Rattle.trace_items.specs.Flat.{trace_of, IsFlat, Kept}
use Rattle.trace_items.specs.declared.item.Outcome.{Outcome}
use Rattle.trace_items.specs.declared.item.Outcome.TheVariants.{Sat}
use Rattle.trace_items.specs.SetLists.{AreSets}

-- it is well formed if they are sets, whatever its result
pub well_formed : (d : Derivation) (sets : List Block) (o : Outcome) → IsWellFormed d → AreSets sets
    → IsWellFormed (record d { sets = sets; result = o })
well_formed d sets o w are = record {
  grammatical = record { variables = are; inferences = w.grammatical.inferences; distinct = w.grammatical.distinct };
  fits = record {
    vars = w.fits.vars;
    steps = w.fits.steps;
    numbers_fit = w.fits.numbers_fit;
    ants_fit = w.fits.ants_fit;
    count = w.fits.count;
  };
}

pub other_sets : (k : Kept) (sets : List Block) → IsFlat k → AreSets sets → IsFlat (record k { sets = sets })
other_sets k sets f are = record {
  well_formed = well_formed (trace_of k) sets Sat f.well_formed are;
  same = f.same;
  lits_counted = f.lits_counted;
  ants_counted = f.ants_counted;
}
