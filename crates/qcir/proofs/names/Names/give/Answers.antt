use Rattle.std.proofs.Common.{arith, ◌<◌, ℕ, List, length, map, subst}
use Rattle.qcir.specs.Names.{with_name}
use Rattle.qcir.specs.Outcomes.{LeadsTo}
use Rattle.qcir.proofs.KeptNames.{given_again, given_new}
use Rattle.qcir.proofs.names.Names.give.Goals as goal
use Rattle.qcir.proofs.names.Names.give.Goals.{in-Ok-true, in-Ok-false, in-Err}

pub returns-clause-given : goal.returns-clause-given
returns-clause-given c =
    let keys = c.self.inside.set.keys in
    let few : length keys < 2147483647 = omega (arith, c.if-len.false, c.len.ensures.len) in
    let new = c.insert.new.set.keys in
    let P : List (List ℕ) → Type 0 = λ ns. LeadsTo (with_name ns c.args.name.now) (map (λ k. k.name.now) new) c.match-insert.result in
    subst P c.self.view_is (elim c.match-insert.branch [
      | in-Ok-true w ↦ let put = w.in-Ok-true.ensures.new w.in-Ok-true.field-0-test in
          rw w.result-is (given_new (λ k. k.name.now) (record { name = c.args.name }) keys new few put.0 put.1)
      | in-Ok-false w ↦ let there = w.in-Ok-false.ensures.given w.in-Ok-false.field-0-test in
          rw w.result-is (given_again (λ k. k.name.now) (record { name = c.args.name }) keys few there.1)
      | in-Err w ↦ rw w.result-is tt
    ])
