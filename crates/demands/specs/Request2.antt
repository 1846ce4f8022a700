-- Document 02 [2], two layers of bars are one steel: what d is now, and what it promises to keep, over the answers.
use Rattle.std.specs.Prelude.{◌*◌, ◌-◌, ◌/◌, ◌≤◌, ◌<◌, ◌≡◌, List, ℤ, pos, length, IfOk}
use Rattle.section.specs.declared.Section.{Section}
use Rattle.section.specs.Accepted.{Accepted}
use Rattle.section.specs.Has.{depth_at, steel_area, steel_moment, layers_below}
use Rattle.law.specs.declared.Law.{Law}
use Rattle.law.specs.Law.{limit_depth, law_with}
use Rattle.drawn.specs.Drawn.{point_at}
use Rattle.forces.specs.Forces.{imbalance_under, moments}
use Rattle.depths.specs.Depths.{entry_of, listed_under, written}
use Rattle.depths.specs.Answers.{ListAnswer, FirstAnswer, first_of_list}
use Rattle.shear.specs.Shear.{resistance_under}
use Rattle.record.specs.Record.{section_in}
use Rattle.record.specs.Alone.{StandsAlone}
use Rattle.demands.specs.Every as Every

-- ---- the two depths of a law with bars
pub record TwoDepths (s : Section) (l : Law) : Type 0 where
  -- the sum of area times depth over the sum of areas, of the layers below mid-height, rounded down; and the deepest layer's depth
  pub centroid : l.d ≡ steel_moment s / steel_area s
  pub deepest : l.limit ≡ depth_at s (s.count - 1)
  -- depths are whole, so that d lies below mid-height rounded as it is
  pub below : s.h < 2 * l.d
  pub most : l.d ≤ l.limit

-- ---- what is kept: document 01's law, whose d is the depth of the deepest layer, or h without bars
abbrev pub deepest_law : Section → Law
deepest_law s = law_with (limit_depth s) s

-- an accepted section with one layer below mid-height, or none: that is one without bars
pub record OneSteel (s : Section) : Type 0 where
  pub accepted : Accepted s
  pub one : layers_below s ≤ 1

-- the count whatever room there is, and so 14 and 15; the words where they are written
abbrev pub ListKept : Section → List ℤ → ListAnswer → List ℤ → Type 0
ListKept s before x after = (x.count ≡ length (listed_under (deepest_law s) s)) × (x.refusal ≡ 0 → after ≡ written (listed_under (deepest_law s) s) before)

abbrev pub FirstKept : Section → FirstAnswer → Type 0
FirstKept s x = x ≡ first_of_list s (entry_of (listed_under (deepest_law s) s) 0)

pub record Request2 : Type 0 where
  pub without_bars : Every.law_of_call (λ s x. IfOk x (λ l. s.count ≡ 0 → (l.d ≡ s.h) × (l.limit ≡ s.h)))
  pub with_bars : Every.law_of_call (λ s x. IfOk x (λ l. 0 < s.count → TwoDepths s l))
  -- and of the law that the calls below go by
  pub lawful_without_bars : Every.lawful_of (λ s x. IfOk x (λ l. s.count ≡ 0 → (l.law.d ≡ s.h) × (l.law.limit ≡ s.h)))
  pub lawful_with_bars : Every.lawful_of (λ s x. IfOk x (λ l. 0 < s.count → TwoDepths s l.law))
  -- every figure of a section that has one steel
  pub law_of_call : Every.law_of_call (λ s x. OneSteel s → IfOk x (λ l. l ≡ deepest_law s))
  pub lawful_of : Every.lawful_of (λ s x. OneSteel s → IfOk x (λ l. l.law ≡ deepest_law s))
  pub draw : Every.draw (λ s e x. OneSteel s → IfOk x (λ p. p ≡ point_at (deepest_law s) e))
  pub imbalance : Every.imbalance (λ s d x. OneSteel s → IfOk x (λ n. n ≡ imbalance_under (deepest_law s) s d))
  pub moment : Every.moment (λ s d x. OneSteel s → IfOk x (λ n. n ≡ moments (deepest_law s) s d))
  pub depths : Every.depths (λ s before x after. OneSteel s → ListKept s before x after)
  pub first : Every.first (λ s x. OneSteel s → x.refusal ≡ 0 → FirstKept s x)
  pub shear : Every.shear (λ s x. OneSteel s → IfOk x (λ n. n ≡ pos (resistance_under (deepest_law s) s)))
  -- and by the C face
  pub fw_draw : Every.fw_draw (λ part e x. OneSteel (section_in part) → x.refusal ≡ 0 → x.point ≡ point_at (deepest_law (section_in part)) e)
  pub fw_imbalance :
      Every.fw_imbalance
      (λ part d x. let s = section_in part in OneSteel s → x.refusal ≡ 0 → x.amount ≡ imbalance_under (deepest_law s) s d)
  pub fw_moment :
      Every.fw_moment (λ part d x. let s = section_in part in OneSteel s → x.refusal ≡ 0 → x.amount ≡ moments (deepest_law s) s d)
  pub fw_depths : Every.fw_depths (λ part before x after. StandsAlone part → OneSteel (section_in part) → ListKept (section_in part) before x after)
  pub fw_first : Every.fw_first (λ part x. OneSteel (section_in part) → x.refusal ≡ 0 → FirstKept (section_in part) x)
  pub fw_shear :
      Every.fw_shear (λ part x. let s = section_in part in OneSteel s → x.refusal ≡ 0 → x.amount ≡ pos (resistance_under (deepest_law s) s))
