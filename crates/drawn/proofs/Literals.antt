-- The code's literals in f64 are whole numbers. Assumes nothing.
use mathlib.Core.Path.{◌≡◌, refl}
use lib.IntN.{pos}
use lib.Ieee.{binary64, of_bits, of_int}
use Rattle.arith.specs.Floats.{whole}

pub literal_0 : of_bits binary64 0 ≡ whole (pos 0)
unfolding of_bits of_int
literal_0 = refl

pub literal_2000 : of_bits binary64 0x409f_4000_0000_0000 ≡ whole (pos 2000)
unfolding of_bits of_int
literal_2000 = refl
