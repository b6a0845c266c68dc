-- Existential variables are counted one by one.
use Rattle.std.proofs.Common.{◌≡◌, ℕ, ◌+◌, List, take, Some, slice_get, refl, ap, ◌∙◌}
use Rattle.std.specs.Prelude.{count_by}
use Rattle.std.proofs.lemmas.List.Sums.{count_by_more_no, count_by_more_yes}
use Rattle.std.proofs.lemmas.Option.{get_or_from_slice_get, slice_get_within}
use Rattle.qbf_core.specs.declared.quantifier.Quantifier.{Quantifier}
use Rattle.qbf_core.specs.declared.quantifier.Quantifier.TheVariants.{All, Exists}
use Rattle.qcir.specs.Names.{is_existential}

pub one_more : (ps : List (Quantifier × ℕ)) (i : ℕ) (p : Quantifier × ℕ) → slice_get ps i ≡ Some p → p.0 ≡ Exists
    → count_by is_existential (take (i + 1) ps) ≡ count_by is_existential (take i ps) + 1
one_more ps i p at is =
    let here = get_or_from_slice_get ps i p p at in
    count_by_more_yes is_existential ps i p (slice_get_within ps i p at) (ap is_existential here ∙ rw is refl)

pub none_more : (ps : List (Quantifier × ℕ)) (i : ℕ) (p : Quantifier × ℕ) → slice_get ps i ≡ Some p → p.0 ≡ All
    → count_by is_existential (take (i + 1) ps) ≡ count_by is_existential (take i ps)
none_more ps i p at is =
    let here = get_or_from_slice_get ps i p p at in
    count_by_more_no is_existential ps i p (slice_get_within ps i p at) (ap is_existential here ∙ rw is refl)
