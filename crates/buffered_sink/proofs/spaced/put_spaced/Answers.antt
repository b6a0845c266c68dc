use Rattle.std.proofs.Common.{◌+◌, ap}
use Rattle.buffered_sink.proofs.Fronts.{put_number}
use Rattle.buffered_sink.proofs.spaced.put_spaced.Goals as goal

pub returns-clause-put : goal.returns-clause-put
returns-clause-put c =
    put_number c.args.negative c.args.n c.args.bytes.now c.put_digits.new.bytes c.args.at (c.args.at + c.from.result) c.put_digits.result
    (ap (λ k. c.args.at + k) c.from.ensures) c.requires c.put_digits.ensures.put
