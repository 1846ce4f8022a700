-- What is answered of a law that is handed over as such: a size where its numbers are small enough for 64 bits, as every section's are; else 0.
use Rattle.std.specs.Prelude.{ℕ, ◌<◌, Bool, cond, ◌&&◌, ltb}
use Rattle.law.specs.declared.Law.{Law}
use Rattle.law.specs.Stress.{Stress, size}

-- the concrete's numbers, each below 2¹⁶
pub record Small (l : Law) : Type 0 where
  pub fcd : l.fcd < 65536
  pub s1 : l.s1 < 65536
  pub s2 : l.s2 < 65536
  pub s3 : l.s3 < 65536
  pub e1 : l.e1 < 65536
  pub e2 : l.e2 < 65536
  pub e3 : l.e3 < 65536

-- and as a test
abbrev pub small : Law → Bool
small l =
    ltb l.fcd 65536
    && ltb l.s1 65536
    && ltb l.s2 65536
    && ltb l.s3 65536
    && ltb l.e1 65536
    && ltb l.e2 65536
    && ltb l.e3 65536

unfoldable pub size_in : Law → Stress → ℕ
size_in l t = cond (small l) (size t) 0
