use Rattle.window_numbers.proofs.BelowTen.{all_three}
use Rattle.window_numbers.proofs.lanes.all_below_ten.Goals as goal

pub returns : goal.returns
returns c is = all_three c.args.a c.args.b c.args.c c.fits-a.0 c.fits-b.0 c.fits-c.0 (c.surely_below_ten.ensures is)
