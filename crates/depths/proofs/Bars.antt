-- The force of a section's bar at a neutral axis, as it is computed. Assumes nothing.
use Prim.Native.Nat.{ℕ, ◌*◌, ◌≤◌, ◌<◌}
use mathlib.Core.Path.{◌≡◌, ◌∙◌, subst}
use native.Mathlib.Omega.{arith}
use lib.IntN.{ℤ, pos, ◌*ℤ◌}
use lib.ListN.{get_or, take}
use mir.Syntax.{w64}
use mir.Val.{to_z}
use Rattle.std.proofs.lemmas.List.{get_or-take}
use Rattle.arith.proofs.Machine.{back, Stands, returned, stands_pos, stands_mul}
use Rattle.section.specs.declared.Layer.{Layer}
use Rattle.section.specs.declared.Section.{Section}
use Rattle.section.specs.Accepted.{Accepted}
use Rattle.section.specs.Section.{no_layer}
use Rattle.law.specs.declared.Law.{Law}
use Rattle.law.specs.Law.{law_of}
use Rattle.strips.specs.declared.Axis.{Axis}
use Rattle.strips.specs.Strips.{scale_of}
use Rattle.forces.specs.Forces.{strain_scale, bar_counts, bar_force}
use Rattle.forces.proofs.Bars.{bar_weak}

-- among those that count
abbrev pub layer : Section → ℕ → Layer
layer s j = get_or (take s.count s.layers) j no_layer

module _ {s : Section} (ok : Accepted s) {l : Law} (law : l ≡ law_of s) (a : Axis) (scale : scale_of a ≡ strain_scale (law_of s) a.x) where
  pub bar_stands :
      (j : ℕ) → j < s.count → (layer s j).area ≤ 65535 → {r : ℤ} → r ≡ bar_counts l (scale_of a) a.x (layer s j).depth
      → Stands (to_z w64 (layer s j).area *ℤ back r) (bar_force (law_of s) s a.x j) (65535 * 521739)
  unfolding bar_force
  bar_stands j few wide {r} e =
      let is = e ∙ (λ i. bar_counts (law i) (scale i) a.x (layer s j).depth) in
      let force = λ (y : Layer). pos y.area *ℤ bar_counts (law_of s) (strain_scale (law_of s) a.x) a.x y.depth in
      subst (λ (y : Layer). Stands (to_z w64 (layer s j).area *ℤ back r) (force y) (65535 * 521739))
      (get_or-take s.count s.layers j no_layer few)
      (stands_mul (stands_pos (layer s j).area 65535 wide (omega arith)) (returned 521739 is (rw e (bar_weak ok law (scale_of a) a.x _)) (omega arith)))
