-- The runs of a section's strips of one width, one after another. No public contract cites it.
use Rattle.std.specs.Prelude.{◌≤◌, ◌<◌, ◌≡◌, Option, MatchOption}
use Rattle.section.specs.Has.{width_at}
use Rattle.depths.specs.declared.sign.Run.{Run}
use Rattle.depths.specs.declared.sign.Runs.{Runs}
use Rattle.depths.specs.Code.{run_end}

-- the run that begins at the strip that the last one ended before, while there is one
abbrev pub NextRun : Runs → Option Run → Runs → Type 0
NextRun r next after =
    (after.section ≡ r.section)
    × MatchOption next (r.section.h ≤ r.from) (λ run.
    (r.from < r.section.h) × (run.from ≡ r.from) × (run.width ≡ width_at r.section r.from) × (run.end ≡ run_end r.section r.from) × (after.from ≡ run.end))
