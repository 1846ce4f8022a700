-- What the private functions need and answer. No public contract cites it.
use Rattle.std.specs.Prelude.{ℕ, ◌<◌, ◌≡◌, List, [], ◌++◌, length, take, drop, Option, None, Some}
use Rattle.std.specs.Borrow.{Bor}
use Rattle.arith.specs.Lines.{first_of}
use Rattle.section.specs.declared.Layer.{Layer}
use Rattle.section.specs.Added.{layer_refusal}
use Rattle.record.specs.Record.{size_at, record_refusal, section_in}
use Rattle.arith.specs.Joined.{over}
use Rattle.writer.specs.declared.Records.{Records}
use Rattle.writer.specs.Records.{part_from}

-- bytes put from a place on; what is before and past them stays
abbrev pub put_at : ℕ → List ℕ → List ℕ → List ℕ
put_at at bytes book = over (take at book ++ bytes) book

-- the first record of what is left is given, or nothing is left
abbrev pub GivesPart : Records → Option (Bor (List ℕ)) → Records → Type 0
GivesPart s None t = s.rest.now ≡ []
GivesPart s (Some part) t = (0 < length s.rest.now) × (part.now ≡ part_from s.rest.now 0) × (t.rest.now ≡ drop (size_at s.rest.now 0) s.rest.now)

-- of a record with a layer added, before its room: 6, then 12
abbrev pub layered_refusal : List ℕ → Layer → ℕ
layered_refusal r l = first_of (record_refusal r) (layer_refusal (section_in r) l)
