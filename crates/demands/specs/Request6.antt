-- Document 02 [6], how much work was that: the number of stresses evaluated for imbalances, strips plus layers for each depth looked at.
use Rattle.std.specs.Prelude.{ℕ, ◌+◌, ◌*◌, ◌≤◌, ◌≡◌, ◌⊎◌}
use Rattle.section.specs.declared.Section.{Section}
use Rattle.section.specs.Accepted.{Accepted}
use Rattle.depths.specs.Answers.{ListAnswer, FirstAnswer}
use Rattle.record.specs.Record.{section_in}
use Rattle.record.specs.Alone.{StandsAlone}
use Rattle.demands.specs.Every as Every
use Rattle.demands.specs.Request5.{record0}

-- h (h + m), for all the depths of a section
abbrev pub ceiling : Section → ℕ
ceiling s = s.h * (s.h + s.count)

-- ---- of a first depth: the last depth looked at times h + m
pub record FirstTook (s : Section) (x : FirstAnswer) : Type 0 where
  -- x for kind 1, x + 1 for kind 2, and there is no other kind; h for refusal 14, nothing for any other
  pub kind_1 : x.refusal ≡ 0 → x.kind ≡ 1 → x.work ≡ x.depth * (s.h + s.count)
  pub kind_2 : x.refusal ≡ 0 → x.kind ≡ 2 → x.work ≡ (x.depth + 1) * (s.h + s.count)
  pub kinds : x.refusal ≡ 0 → (x.kind ≡ 1) ⊎ (x.kind ≡ 2)
  pub none : x.refusal ≡ 14 → x.work ≡ ceiling s
  pub refused : (x.refusal ≡ 0 → ⊥) → (x.refusal ≡ 14 → ⊥) → x.work ≡ 0
  -- never more than h (h + m)
  pub most : x.work ≤ ceiling s

-- ---- of the list: exactly h (h + m) where it is written, where there is none and where the row is too short for it
pub record ListTook (s : Section) (x : ListAnswer) : Type 0 where
  pub whole : (x.refusal ≡ 0) ⊎ ((x.refusal ≡ 14) ⊎ (x.refusal ≡ 15)) → x.work ≡ ceiling s
  pub refused : (x.refusal ≡ 0 → ⊥) → (x.refusal ≡ 14 → ⊥) → (x.refusal ≡ 15 → ⊥) → x.work ≡ 0
  pub most : x.work ≤ ceiling s

-- ---- the request's figure of a list: document 01's record 0. Those of a first depth stand in Request5
abbrev pub ListFigure : Type 0
ListFigure = Every.depths (λ s before x after. s ≡ record0 → x.work ≡ 10000)

pub record Request6 : Type 0 where
  pub first : Every.first (λ s x. FirstTook s x)
  pub fw_first : Every.fw_first (λ part x. FirstTook (section_in part) x)
  pub depths : Every.depths (λ s before x after. ListTook s x)
  pub fw_depths : Every.fw_depths (λ part before x after. ListTook (section_in part) x)
  -- so that of every accepted section
  pub accepted : Every.depths (λ s before x after. Accepted s → x.work ≡ ceiling s)
  pub fw_accepted :
      Every.fw_depths (λ part before x after. StandsAlone part → Accepted (section_in part) → x.work ≡ ceiling (section_in part))
  pub figure : ListFigure
