use Rattle.trace_check.proofs.Cited.{◌+◌, ℕ, List, take, drop, subst, sym, take_all, arith, Block, pairs, pairs_of_block, Passes, FailsIn}
use Rattle.trace_check.proofs.SetsAgree.{passes_more, fails_more, next_set, rest_of_sets, agrees_by_passes, fault_by_fails}
use Rattle.trace_check.proofs.agree.sets_fault.Goals as goal

pub returns-in-Err-clause-some : goal.returns-in-Err-clause-some
returns-in-Err-clause-some g c =
    let sets : List Block = g.Q.KeptSets.sets c.args.sets.now in
    let i : ℕ = c.loop-place.place in
    let s : Block = record { quantifier = c.get-quantifier.result.0; vars = c.get-quantifier.result.1.now } in
    let fails = fails_more c.args.prefix.now 0 c.loop-place.highest (pairs (take i sets)) (pairs_of_block s)
    (pairs (drop (i + 1) sets)) c.in-Err.fault c.loop-place.invariant.passes c.in-Err.ensures.err in
    fault_by_fails c.args.prefix.now (pairs sets) c.in-Err.fault
    (subst (λ ps. FailsIn c.args.prefix.now 0 ps c.in-Err.fault) (rest_of_sets sets i s c.get-quantifier.ensures) fails)

pub loop-place-preserved : goal.loop-place-preserved
loop-place-preserved g c =
    let sets : List Block = g.Q.KeptSets.sets c.args.sets.now in
    let i : ℕ = c.loop-place.place in
    let s : Block = record { quantifier = c.get-quantifier.result.0; vars = c.get-quantifier.result.1.now } in
    record {
      within = omega (arith, c.loop-place-test.true, c.len-place-end.ensures);
      passes = subst (λ ps. Passes c.args.prefix.now 0 ps c.in-Ok.block) (sym (next_set sets i s c.get-quantifier.ensures))
          (passes_more c.args.prefix.now 0 c.loop-place.highest c.in-Ok.block (pairs (take i sets)) (pairs_of_block s)
          c.loop-place.invariant.passes c.in-Ok.ensures.ok);
    }

pub returns-clause-none : goal.returns-clause-none
returns-clause-none g c =
    let sets : List Block = g.Q.KeptSets.sets c.args.sets.now in
    agrees_by_passes c.args.prefix.now (pairs sets) c.loop-place.highest
    (subst (λ (taken : List Block). Passes c.args.prefix.now 0 (pairs taken) c.loop-place.highest)
    (take_all c.loop-place.place sets (omega (arith, c.loop-place-test.false, c.len-place-end.ensures))) c.loop-place.invariant.passes)
