-- What the law of every accepted section is.
use Rattle.std.specs.Prelude.{◌≤◌, ◌<◌, ◌≡◌}
use Rattle.law.specs.declared.Law.{Law}
use Rattle.law.specs.Edition.{edition}

-- what the three lines in tension need: each leads on
pub record Lawful (l : Law) : Type 0 where
  pub first : 0 < l.e1
  pub second : l.e1 < l.e2
  pub third : l.e2 < l.e3

pub record LawIn (l : Law) : Type 0 where
  pub lines : Lawful l
  pub fcd : (11333 ≤ l.fcd) × (l.fcd ≤ 28333)
  pub s1 : (1554 ≤ l.s1) × (l.s1 ≤ 7616)
  pub e1 : (42 ≤ l.e1) × (l.e1 ≤ 262)
  pub e2 : (142 ≤ l.e2) × (l.e2 ≤ 362)
  pub s2 : l.s2 ≤ 9000
  pub s3 : l.s3 ≤ 7400
  pub e3 : l.e3 ≡ edition.e3
  pub fyd : (347826 ≤ l.fyd) × (l.fyd ≤ 521739)
  pub strain : l.strain ≡ edition.limit_strain
  pub limit : (0 < l.limit) × (l.limit ≤ 1000)
  pub d : (0 < l.d) × (l.d ≤ 1000)
  pub ratio : l.ratio ≡ edition.limit_ratio
  pub drawn : l.drawn ≡ edition.drawn_tension
