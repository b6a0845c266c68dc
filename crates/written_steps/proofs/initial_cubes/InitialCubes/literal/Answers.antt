use Rattle.qrp_rules.proofs.Cited.{refl, slice_get_read}
use Rattle.written_steps.proofs.initial_cubes.InitialCubes.literal.Goals as goal

pub returns : goal.returns
returns c = (c.index.result.now, slice_get_read c.args.self.now.lists.items _ c.args.position c.index.result.now refl c.requires c.index.ensures, refl)
