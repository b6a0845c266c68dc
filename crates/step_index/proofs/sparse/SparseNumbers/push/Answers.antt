use Rattle.std.proofs.Common.{◌≡◌, ◌∙◌, ◌≤◌, ◌+◌, ◌*◌, ◌^◌, ℕ, List, [], ◌∷◌, ◌++◌, ap, length, max, arith, length-append}
use Rattle.step_index.proofs.SparseNumbers.{found_grown, found_near, found_far, below_raised}
use Rattle.step_index.proofs.sparse.SparseNumbers.push.Goals as goal
use Rattle.step_index.proofs.sparse.SparseNumbers.push.Goals.{then-branch+in_ok-insert, else-branch+in_ok-insert-2}

-- with one number more the table still has no more entries than its bound
grown : (numbers : List ℕ) (m before after place : ℕ) → place ≡ length numbers → after ≤ max before (2 ^ 20 + 16 * place)
    → before ≤ 2 ^ 20 + 16 * length numbers → after ≤ 2 ^ 20 + 16 * length (numbers ++ m ∷ [])
grown numbers m before after place is few bound = omega (arith, is, few, bound, length-append numbers (m ∷ []))

pub invariant_of-self-2 : goal.invariant_of-self-2
invariant_of-self-2 c =
    let numbers : List ℕ = c.self.inside.numbers.items in
    let place : c.len-place.result ≡ length numbers = c.len-place.ensures ∙ (c.reserve.new.self.ok.0 ∙ ap length c.reserve.ensures.items) in
    let below = below_raised numbers c.args.number c.self.inside.greatest _ c.max-greatest.ensures c.self.invariant.1 in
    rw c.in-Ok.ensures.items (elim c.if-branch.branch [
      | then-branch+in_ok-insert w ↦ rw (w.self-inside-is, c.reserve.ensures.items) (
        found_near _ _ _ _ _ _ c.self.invariant.0 _ _ w.in_ok-insert.ensures.inserted c.in_ok-reach_near.ensures.kept,
        below,
        grown numbers _ _ _ _ place c.in_ok-reach_near.ensures.few c.self.invariant.2,
      )
      | else-branch+in_ok-insert-2 w ↦ rw (w.self-inside-is, c.reserve.ensures.items) (
        found_far _ _ _ _ _ _ (found_grown _ _ _ _ _ _ c.self.invariant.0 c.in_ok-reach_near.ensures.kept) _ c.len-place.result place (λ n. w.in_ok-insert-2.ensures.updates.0 n),
        below,
        grown numbers _ _ _ _ place c.in_ok-reach_near.ensures.few c.self.invariant.2,
      )
    ])
