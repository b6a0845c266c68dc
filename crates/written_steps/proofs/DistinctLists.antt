-- A literal more at the end of an unfinished list, or none if there is no memory.
use Rattle.qrp_rules.proofs.Cited.{rules, ◌≡◌, ◌⊎◌, ◌++◌, [], ◌∷◌, Literal, ◌∈◌, ◌⊆◌, Result}
use Rattle.written_steps.proofs.Cited.{Has, Members, AreAmong}
use Rattle.std.specs.Prelude.{⊤, OnOk, OnErr}
use Rattle.lists.specs.Lists.{Growing}
use Rattle.qbf_core.proofs.Members.{in_push, push_in}

abbrev among : Literal → Growing Literal → Type 0
among l lists = l ∈ lists.unfinished

module _ {E : Type 0} (old new : Growing Literal) (x : Literal) where
  abbrev IsPushed : Result ⊤ E → Type 0
  IsPushed r = OnOk r (new ≡ record old { unfinished = old.unfinished ++ x ∷ [] })

  pub pushed_within : (r : Result ⊤ E) → IsPushed r → OnErr r (new ≡ old) → (l : Literal) → l ∈ new.unfinished
      → (l ∈ old.unfinished) ⊎ (l ≡ x)
  pushed_within r ok err l h = search (rules, in_push)

  pub pushed_kept : (r : Result ⊤ E) → IsPushed r → OnOk r (old.unfinished ⊆ new.unfinished)
  pushed_kept r ok = search (rules, push_in)

  pub pushed_seen : (s t : Members) (r : Result ⊤ E) → ((l : Literal) → Has t l → Has s l ⊎ (l ≡ x)) → IsPushed r
      → OnOk r (AreAmong s old.unfinished → (x ∈ new.unfinished) × AreAmong t new.unfinished)
  pushed_seen s t r only ok = search (rules, push_in)
