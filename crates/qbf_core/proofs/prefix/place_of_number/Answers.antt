use Rattle.qbf_core.proofs.Cited.{◌≡◌, ◌<◌, ◌∙◌, Option, sym, subst, nat_eq, lookup, Place}
use Rattle.std.specs.Prelude.{IfSome}
use Rattle.qbf_core.proofs.TableLaws.{lookup_fits}
use Rattle.qbf_core.proofs.prefix.place_of_number.Goals as goal

pub returns-clause-fits : goal.returns-clause-fits
returns-clause-fits c =
    let found : c.copied.result ≡ lookup (nat_eq c.in_ok-var.var) c.args.far.now.entries = c.copied.ensures ∙ c.get.ensures.value in
    subst (λ (o : Option Place). IfSome o (λ p. p.block < 2147483647)) (sym found) (lookup_fits _ _ c.requires)
