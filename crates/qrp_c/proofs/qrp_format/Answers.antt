use Rattle.std.proofs.Common.{Ok, Err}
use Rattle.qrp_c.proofs.qrp_format.Goals as goal

pub returns-in-Ok-clause-formats : goal.returns-in-Ok-clause-formats
returns-in-Ok-clause-formats c =
    let found = c.in-Ok.ensures.ok in
    record {
      outcome = Ok found.0;
      reads = found.1;
      encoded = c.encode_nothing.ensures;
      written = rw (c.bytes.ensures.bytes, found.2) at c.put_text.ensures.written;
    }

pub returns-in-Err-clause-formats : goal.returns-in-Err-clause-formats
returns-in-Err-clause-formats c = record {
  outcome = Err (c.in-Err.fault, c.in-Err.line);
  reads = c.in-Err.ensures.err;
  encoded = c.encode_fault.ensures.encoded;
  written = c.put_text-in-Err.ensures.written;
}
