-- What refuses imbalance and moment at a depth: 7 to 13 with 20 first, then 18 (document 01, 'What is refused').
use Rattle.std.specs.Prelude.{ℕ}
use Rattle.arith.specs.Lines.{line, first_of, within}
use Rattle.section.specs.declared.Section.{Section}
use Rattle.section.specs.Refusal.{section_refusal}
use Rattle.section.specs.Has.{last_depth}

unfoldable pub grid_refusal : Section → ℕ → ℕ
grid_refusal s x = first_of (section_refusal s) (line (within 1 (last_depth s) x) 18 0)
