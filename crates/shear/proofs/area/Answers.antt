-- `area`: flange and web.
use Rattle.std.proofs.Common.{refl}
use Rattle.section.proofs.Widths.{area_is, area_some, area_most}
use Rattle.shear.proofs.area.Goals as goal

pub returns : goal.returns
returns c = let a = c.args.lawful.accepted in rw (← area_is a) (refl, area_some a, area_most a)
