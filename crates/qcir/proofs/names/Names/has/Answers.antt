use Rattle.std.proofs.Common.{ap, ◌∙◌, ℕ, List}
use Rattle.std.specs.Prelude.{bytes_eq}
use Rattle.std.specs.List.{list_any}
use Rattle.qcir.proofs.KeptNames.{any_of}
use Rattle.qcir.proofs.names.Names.has.Goals as goal

pub returns : goal.returns
returns c =
    c.contains.ensures
    ∙ (any_of (λ k. k.name.now) c.args.name.now c.self.inside.set.keys
    ∙ ap (λ (ns : List (List ℕ)). list_any (bytes_eq c.args.name.now) ns) c.self.view_is)
