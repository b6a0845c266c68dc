use Rattle.qbf_tokens.proofs.Cited.{◌≡◌, ◌+◌, [], ◌∷◌, refl, arith}
use Rattle.window_numbers.proofs.Cited.{get_or, subst}
use Rattle.window_numbers.specs.Numbers.{FillsTo, NumberStands, place}
use Rattle.window_numbers.specs.Values.{value}
use Rattle.window_numbers.proofs.Gaps.{comes}
use Rattle.window_numbers.proofs.HeldNumbers.{fills_more}
use Rattle.window_numbers.proofs.LongNumbers.{tail_order}
use Rattle.window_numbers.proofs.NumbersInARow.{alone}
use Rattle.window_numbers.proofs.tails.FourTails.put_tail.Goals as goal

pub returns-in-Some-clause-fills : goal.returns-in-Some-clause-fills
returns-in-Some-clause-fills c = λ _ start runs few f.
    let n = c.args.numbers.now in
    let m = c.put_parted.new.self in
    let bytes = c.args.bytes.now in
    let i = c.args.i in
    let first = c.args.self.first in
    let k = first + i in
    let t = c.requires.tails in
    let lane = c.requires.room.0 in
    let from = get_or c.args.self.starts i 0 in
    let end = get_or c.args.self.ends i 0 in
    let v = value c.in-Some.number in
    let within = t.tails.within i lane in
    let before = tail_order _ _ _ (t.tails.tails i lane) in
    let some = (t.tails.numbers i lane).some in
    let next = t.next i lane in
    let stands : NumberStands bytes n.places k v = (
      omega (arith, within, next),
      rw next (comes bytes (place n k) from (end + 1) v (t.gaps i lane) (omega (arith, within, before, some)) c.in-Some.ensures),
    ) in
    let more = fills_more n m bytes start runs k 1 (v ∷ []) f refl (omega arith) (omega (arith, few, lane))
    (alone bytes n.places k v stands) c.put_parted.ensures.put c.put_parted.ensures.same in
    let on : k + 1 ≡ first + (i + 1) = omega arith in
    subst (λ j. FillsTo m bytes start runs j) on more
