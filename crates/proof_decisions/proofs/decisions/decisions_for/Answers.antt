use Rattle.qbf_core.proofs.Members.{got_in}
use Rattle.trace_check.proofs.Cited.{arith, get_or_from_slice_get, sym, ℕ}
use Rattle.proof_decisions.proofs.MadeDecisions.{decisions_more}
use Rattle.proof_decisions.proofs.decisions.decisions_for.Goals as goal

pub decide-requires-clause-core : goal.decide-requires-clause-core
decide-requires-clause-core g c =
    c.requires.core c.place_at-position.result (got_in c.args.core.now c.loop-i.i c.place_at-position.result c.place_at-position.ensures)

pub loop-i-preserved : goal.loop-i-preserved
loop-i-preserved g c =
    let x : ℕ = c.place_at-position.result in
    let more = decisions_more g.S.Side.side c.args.proof.formula.now (g.T.KeptSteps.steps c.args.proof.trace.now) c.args.core.now c.loop-i.i x
    c.loop-i.walk.decisions.kept.whole c.loop-i.walk.decisions.removed.whole c.decide.new.walk.decisions.kept.whole c.decide.new.walk.decisions.removed.whole
    (omega (arith, c.loop-i-test.true, c.loop-i.auto.i-end)) (sym (get_or_from_slice_get c.args.core.now c.loop-i.i x x c.place_at-position.ensures))
    c.loop-i.invariant.same c.loop-i.invariant.are c.in_ok-decide.ensures in
    record { same = more.0; are = more.1 }
