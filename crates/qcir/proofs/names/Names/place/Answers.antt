use Rattle.std.proofs.Common.{ap, ◌∙◌, ℕ, List}
use Rattle.std.specs.Prelude.{position, bytes_eq}
use Rattle.qcir.proofs.KeptNames.{place_of}
use Rattle.qcir.proofs.names.Names.place.Goals as goal

pub returns-clause-place : goal.returns-clause-place
returns-clause-place c =
    c.get_index_of.ensures.index
    ∙ (place_of (λ k. k.name.now) c.args.name.now c.self.inside.set.keys
    ∙ ap (λ (ns : List (List ℕ)). position (bytes_eq c.args.name.now) ns) c.self.view_is)
