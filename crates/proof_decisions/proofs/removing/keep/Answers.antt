use Rattle.qrp_rules.proofs.Cited.{ℕ, ◌∙◌, Literal}
use Rattle.proof_decisions.proofs.RemovedLiterals.{left_all, left_more}
use Rattle.proof_decisions.proofs.removing.keep.Goals as goal

pub loop-lit-preserved : goal.loop-lit-preserved
loop-lit-preserved c =
    let i : ℕ = c.loop-lit.lit-index in
    let x : Literal = c.lit-item.result in
    let put = c.in_ok-put_kept.ensures in
    record {
      whole = c.put_kept.ensures.whole ∙ c.loop-lit.invariant.whole;
      left = left_more c.args.own c.args.lits.now i x c.loop-lit.kept.unfinished c.put_kept.new.kept.unfinished c.loop-lit-test.true c.lit-item.is
          c.loop-lit.invariant.left put.within put.grows put.here put.one;
    }

pub returns-clause-left : goal.returns-clause-left
returns-clause-left c =
    left_all c.args.own c.args.lits.now c.loop-lit.lit-index c.loop-lit.kept.unfinished c.loop-lit-test.false c.loop-lit.invariant.left
