use Rattle.std.proofs.Common.{arith, ◌≡◌, ◌∷◌, drop}
use Rattle.std.proofs.lemmas.Grind.{common_steps}
use Rattle.std.proofs.lemmas.List.{take_rest}
use Rattle.qcir.proofs.WrittenParts.{first_input}
use Rattle.qcir.proofs.writing.ClosedPut.put.Goals as goal

pub returns-in-len1-up : goal.returns-in-len1-up
returns-in-len1-up g c =
    let lits = c.args.self.now.1.now in
    let all : lits ≡ c.first-item.result ∷ drop 1 lits = grind (arith, common_steps) in
    rw (all, first_input c.args.self.now.0.now c.first-item.result (drop 1 lits)) (rw (take_rest lits 1) at c.put.ensures)
