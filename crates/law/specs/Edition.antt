-- The numbers that an edition of RILEM's recommendation sets. Today there is one edition, document 002's.
use Rattle.std.specs.Prelude.{ℕ}

pub record Edition : Type 0 where
  -- the strain at which the law in tension ends
  pub e3 : ℕ
  -- the strain that is reached at `limitDepth`, 10 per mille, and the 27 of 7d > 27x, which says where it is
  pub limit_strain : ℕ
  pub limit_ratio : ℕ
  -- the drawn range: tension and compression up to these
  pub drawn_tension : ℕ
  pub drawn_compression : ℕ

unfoldable pub edition : Edition
edition = record { e3 = 10000; limit_strain = 10000; limit_ratio = 27; drawn_tension = 10000; drawn_compression = 3500 }
