use Rattle.std.proofs.Common.{Ok, Err}
use Rattle.qrp_bytes.proofs.GatesReturned.{clauses_held}
use Rattle.qrp_c.proofs.gates.qrp_gates_clauses.Goals as goal

pub returns-in-Ok-clause-clauses : goal.returns-in-Ok-clause-clauses
returns-in-Ok-clause-clauses c =
    let found = c.in-Ok.ensures.ok in
    record {
      made = Ok found.0;
      are = found.1;
      encoded = c.encode_nothing.ensures;
      written = rw (c.bytes.ensures.bytes, found.2) at c.put_text.ensures.written;
    }

pub returns-in-Err-clause-clauses : goal.returns-in-Err-clause-clauses
returns-in-Err-clause-clauses c = record {
  made = Err c.in-Err.fault;
  are = c.in-Err.ensures.err;
  encoded = c.encode_unverified.ensures.encoded;
  written = c.put_text-in-Err.ensures.written;
}

pub returns-in-Ok-clause-headline : goal.returns-in-Ok-clause-headline
unfolding returns-in-Ok-clause-clauses
returns-in-Ok-clause-headline c = λ some. clauses_held (returns-in-Ok-clause-clauses c) some

pub returns-in-Err-clause-headline : goal.returns-in-Err-clause-headline
unfolding returns-in-Err-clause-clauses
returns-in-Err-clause-headline c = λ some. clauses_held (returns-in-Err-clause-clauses c) some
