-- How many existential variables there are.
use Rattle.std.proofs.Common.{arith, ◌≡◌, ℕ, ◌+◌, List, ◌∷◌, cond, length, refl, sym}
use Rattle.std.specs.Prelude.{count_by}
use Rattle.std.proofs.lemmas.List.Recursion.{is_count_by}
use Rattle.qbf_core.specs.declared.quantifier.Quantifier.{Quantifier}
use Rattle.qbf_core.specs.declared.quantifier.Quantifier.TheVariants.{All, Exists}
use Rattle.qbf_strategy.specs.Winning.{variables_of}
use Rattle.qcir.specs.Names.{is_existential}

one_more : (p : Quantifier × ℕ) (ps : List (Quantifier × ℕ)) → length (variables_of Exists (p ∷ ps))
    ≡ cond (is_existential p) (1 + length (variables_of Exists ps)) (length (variables_of Exists ps))
one_more (Exists, v) ps = omega arith
one_more (All, v) ps = refl

pub counted : (ps : List (Quantifier × ℕ)) → count_by is_existential ps ≡ length (variables_of Exists ps)
counted ps = sym (is_count_by (λ qs. length (variables_of Exists qs)) is_existential refl one_more ps)
