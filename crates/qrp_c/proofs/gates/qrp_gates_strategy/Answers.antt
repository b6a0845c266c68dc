use Rattle.qrp_bytes.proofs.GatesReturned.{gates_strategy_returned, gates_strategy_refused, gates_winner_held}
use Rattle.qrp_c.proofs.gates.qrp_gates_strategy.Goals as goal

pub returns-in-Ok-clause-strategy : goal.returns-in-Ok-clause-strategy
returns-in-Ok-clause-strategy c =
    let found = c.in-Ok.ensures.ok in
    gates_strategy_returned found.1 found.2 c.encode_truth.ensures (rw (c.bytes.ensures.bytes, found.3) at c.put_text.ensures.written)

pub returns-in-Err-clause-strategy : goal.returns-in-Err-clause-strategy
returns-in-Err-clause-strategy c = gates_strategy_refused c.in-Err.fault c.in-Err.ensures.err c.encode_unverified.ensures.encoded
    c.encode_unverified.ensures.named c.put_text-in-Err.ensures.written

pub returns-in-Ok-clause-headline : goal.returns-in-Ok-clause-headline
unfolding returns-in-Ok-clause-strategy
returns-in-Ok-clause-headline c = λ some. gates_winner_held (returns-in-Ok-clause-strategy c) some

pub returns-in-Err-clause-headline : goal.returns-in-Err-clause-headline
unfolding returns-in-Err-clause-strategy
returns-in-Err-clause-headline c = λ some. gates_winner_held (returns-in-Err-clause-strategy c) some
