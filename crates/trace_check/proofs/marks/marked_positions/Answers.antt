use Rattle.trace_check.proofs.Cited.{ℕ, ◌+◌, List, subst, sym, ListsMarked}
use Rattle.std.proofs.Common.{Vec, Global}
use Rattle.core_walk.proofs.MarkedPlaces.{is_marked, is_unmarked}
use Rattle.trace_check.proofs.MarkedPlaces.{listing_skip, listing_push}
use Rattle.trace_check.proofs.marks.marked_positions.Goals.{then-marks-position+in_ok-push, else-marks-position}
use Rattle.trace_check.proofs.marks.marked_positions.Goals as goal

pub loop-position-preserved : goal.loop-position-preserved
loop-position-preserved c =
    let i : ℕ = c.loop-position.position in
    let listed : List ℕ → Type 0 = ListsMarked c.args.marks.now (i + 1) in
    elim c.if-marks-position.branch [
      | then-marks-position+in_ok-push w ↦ subst (λ (v : Vec ℕ Global). listed v.items) (sym w.positions-is)
          (subst listed (sym w.in_ok-push.ensures.items)
          (listing_push c.args.marks.now i c.loop-position.positions.items
          (is_marked c.args.marks.now i c.loop-position-test.true w.if-marks-position.true) c.loop-position.invariant))
      | else-marks-position w ↦ subst (λ (v : Vec ℕ Global). listed v.items) (sym w.positions-is) (listing_skip c.args.marks.now i
          c.loop-position.positions.items (is_unmarked c.args.marks.now i w.if-marks-position.false) c.loop-position.invariant)
    ]
