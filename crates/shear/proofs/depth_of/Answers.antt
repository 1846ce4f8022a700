-- `depth_of`: the law's, in its range.
use Rattle.std.proofs.Common.{refl}
use Rattle.shear.proofs.Ranges.{depth_in}
use Rattle.shear.proofs.depth_of.Goals as goal

pub returns : goal.returns
returns c = let d = depth_in c.args.lawful in (refl, d.0, d.1)
