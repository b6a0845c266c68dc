use Rattle.std.proofs.Common.{arith}
use Rattle.qbf_text.proofs.SentParts.{sent_fails, sent_last, sent_part}
use Rattle.aiger.proofs.BinaryNumbers.{groups_last, groups_next, groups_none, sent_all}
use Rattle.aiger.proofs.binary.put_number.Goals as goal

pub returns-then-rest-lt128 : goal.returns-then-rest-lt128
returns-then-rest-lt128 g c =
    sent_last c.loop-group.invariant.sent
    (groups_last c.loop-group._group c.loop-group.rest (omega arith) (omega arith)) c.put_byte.ensures.put

pub returns-in_err-put_byte : goal.returns-in_err-put_byte
returns-in_err-put_byte g c =
    let next = groups_next c.loop-group._group c.loop-group.rest (omega arith) (omega arith) in
    sent_fails _ _ c.loop-group.invariant.sent next c.from_residual.ensures.1 c.in_err-put_byte.ensures.put

pub loop-group-preserved : goal.loop-group-preserved
loop-group-preserved g c =
    let next = groups_next c.loop-group._group c.loop-group.rest (omega arith) (omega arith) in
    record { sent = sent_part _ c.loop-group.invariant.sent next c.in_ok-put_byte.ensures.put }

pub returns : goal.returns
returns g c = sent_all _ _ c.loop-group.invariant.sent (groups_none c.loop-group._group c.loop-group.rest (omega arith))
