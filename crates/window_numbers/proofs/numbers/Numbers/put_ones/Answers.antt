use Rattle.qbf_tokens.proofs.Cited.{[], ◌∷◌, refl, arith}
use Rattle.std.proofs.Common.{SFits, w32}
use Rattle.std.proofs.lemmas.Int.{to_z-of_z}
use Rattle.window_numbers.specs.Numbers.{place}
use Rattle.window_numbers.proofs.HeldNumbers.{fills_on}
use Rattle.window_numbers.proofs.NumbersInARow.{alone}
use Rattle.window_numbers.proofs.numbers.Numbers.put_ones.Goals as goal

pub numbers-preserved : goal.numbers-preserved
numbers-preserved c =
    let n = c.numbers.self in
    let bytes = c.args.bytes.now in
    let k = c.numbers.k in
    let value = c.in-Some.value in
    let fits : SFits w32 value = search in
    record {
      fills = fills_on n c.put.new.self c.note_zero-zeros.new.self bytes (place c.args.self.now c.args.self.now.first) c.args.runs k 1 (value ∷ [])
          c.numbers.invariant.fills refl (omega arith) (omega (arith, c.in-Some.ensures.stands.0))
          (alone bytes n.places k value c.in-Some.ensures.stands.1) (rw (to_z-of_z w32 value fits) at c.put.ensures.put) c.put.ensures.same
          c.note_zero-zeros.ensures.same;
      further = omega (arith, c.numbers.invariant.further);
    }
