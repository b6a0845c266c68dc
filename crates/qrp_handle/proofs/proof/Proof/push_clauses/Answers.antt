use Rattle.std.proofs.Common.{◌≡◌, ◌≢◌, [], arith, length, sym, ap, ◌∙◌, tests}
use Rattle.std.proofs.lemmas.Grind.{common_steps}
use Rattle.qrp_handle.specs.Many.{clauses_of}
use Rattle.qrp_handle.proofs.Splitting.{all_taken, next_clause, one_more_added}
use Rattle.qrp_handle.proofs.proof.Proof.push_clauses.Goals as goal

pub loop-rest-preserved : goal.loop-rest-preserved
loop-rest-preserved c =
    let some : c.loop-rest.rest.now ≢ [] = grind (arith, common_steps, tests) in
    let next = next_clause (clauses_of c.args.written.now) c.loop-rest.count _ _ (c.loop-rest.invariant.left ∙ c.first_length-end.ensures.first some) in
    record {
      left = next.left ∙ ap clauses_of (sym c.after-rest.ensures);
      within = omega (arith, next.within);
      fewer = grind (arith, common_steps);
      small = c.loop-rest.invariant.small;
      added = one_more_added c.args.written.now c.loop-rest.count _ _ _ _ c.loop-rest.invariant.added c.in_default.ensures.pushed next.so_far;
    }

pub returns-clause-all : goal.returns-clause-all
returns-clause-all c =
    let none : length c.loop-rest.rest.now ≡ 0 = grind (arith, common_steps, tests) in
    all_taken (clauses_of c.args.written.now) c.loop-rest.count c.loop-rest.rest.now c.loop-rest.invariant.left none c.loop-rest.invariant.within
