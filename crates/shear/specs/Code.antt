-- What the private functions answer. No public contract cites it.
use Rattle.std.specs.Prelude.{ℕ, ◌+◌, ◌*◌}

-- ---- bounds, crude ones
-- the load's share, and the concrete's with it
abbrev pub most_axial : ℕ
most_axial = 15 * (1000 * 10000000)

abbrev pub most_concrete : ℕ
most_concrete = 1000000 + most_axial

-- the stirrups, and the struts
abbrev pub most_shear : ℕ
most_shear = 400000000000000
