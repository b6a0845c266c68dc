use Rattle.decimal.proofs.Moved.{run_is}
use Rattle.decimal.proofs.word.digit_run.Goals as goal

pub returns : goal.returns
returns c = run_is c.args.word c.ranges.word.fits
