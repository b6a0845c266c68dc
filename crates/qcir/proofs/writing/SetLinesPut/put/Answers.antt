use Rattle.std.proofs.Common.{arith, refl, rules}
use Rattle.std.proofs.lemmas.List.{drop_all}
use Rattle.qbf_core.proofs.BlockLaws.{blocks_of-pairs}
use Rattle.qbf_core.specs.Blocks.{pairs}
use Rattle.qbf_text.proofs.SentParts.{sent_fails, sent_part, sent_last}
use Rattle.qcir.proofs.WrittenParts.{prefix_next}
use Rattle.qcir.proofs.writing.SetLinesPut.put.Goals as goal

pub loop-i-init : goal.loop-i-init
loop-i-init g c = rw (blocks_of-pairs _ c.len-i-end.ensures.sound.alternates) (search rules)

pub returns-in_err-put_variable : goal.returns-in_err-put_variable
returns-in_err-put_variable g c =
    let next = prefix_next c.args.self.now.0.now c.loop-i.last (pairs c.args.self.now.1.now) c.loop-i.i _ _ _ c.pair-quantifier.ensures
    c.name_or_empty.ensures in
    sent_fails _ _ c.loop-i.invariant.sent next c.from_residual.ensures.1 c.in_err-put_variable.ensures

pub loop-i-preserved : goal.loop-i-preserved
loop-i-preserved g c =
    let next = prefix_next c.args.self.now.0.now c.loop-i.last (pairs c.args.self.now.1.now) c.loop-i.i _ _ _ c.pair-quantifier.ensures
    c.name_or_empty.ensures in
    record { sent = sent_part _ c.loop-i.invariant.sent next c.in_ok-put_variable.ensures }

pub returns-in-Some : goal.returns-in-Some
returns-in-Some g c =
    let all = drop_all c.loop-i.i (pairs c.args.self.now.1.now) (omega (arith, c.len-i-end.ensures.length, c.loop-i-test.false)) in
    sent_last c.loop-i.invariant.sent (rw (all, c.in-Some.is) refl) c.put_bytes.ensures.put
