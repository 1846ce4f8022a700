-- The 60 places that hold a record's bytes: the bytes from the first on, and zeros past them.
use Rattle.std.specs.Prelude.{ℕ, ◌≡◌, ◌≤◌, List, length, take, replicate}
use Rattle.arith.specs.Joined.{over}
use Rattle.record.specs.declared.RecordBytes.TheInside.{Inside}

abbrev pub in_places : List ℕ → List ℕ
in_places bytes = over bytes (replicate 60 0)

pub record Held (r : Inside) : Type 0 where
  pub few : r.len ≤ length r.bytes
  pub all : length r.bytes ≡ 60
  pub past : in_places (take r.len r.bytes) ≡ r.bytes
