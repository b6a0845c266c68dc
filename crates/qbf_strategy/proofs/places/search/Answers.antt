use Rattle.std.proofs.Common.{arith, sym, ◌∙◌}
use Rattle.std.proofs.lemmas.Bool.{false≢true}
use Rattle.qbf_core.specs.Blocks.{pairs}
use Rattle.qbf_strategy.proofs.FoundPlaces.{none_more, none_there}
use Rattle.qbf_strategy.proofs.places.search.Goals as goal

pub loop-place-preserved : goal.loop-place-preserved
loop-place-preserved c = record {
  none = none_more (pairs c.args.prefix.now) c.args.var c.loop-place.place c.loop-place.invariant.none
      (λ at. false≢true (sym c.if-stands_at.false ∙ c.stands_at.ensures.1 at));
}

pub returns-clause-none : goal.returns-clause-none
returns-clause-none c =
    none_there (pairs c.args.prefix.now) c.args.var c.loop-place.place (omega arith) c.loop-place.invariant.none
