-- What imbalance and moment tell that are not refused. Assumes nothing.
use Prim.Native.Nat.{ℕ, ◌≤◌}
use mathlib.Core.Path.{◌≡◌}
use lib.IntN.{ℤ}
use Rattle.std.specs.Prelude.{Result, Ok}
use Rattle.refusal.specs.declared.Refusal.{Refusal}
use Rattle.refusal.specs.Refusal.{Answers}
use Rattle.refusal.proofs.Answers.{answered}
use Rattle.arith.specs.Lines.{Between}
use Rattle.arith.proofs.Lines.{passes, none_of, between}
use Rattle.section.specs.declared.Section.{Section}
use Rattle.section.specs.Refusal.{section_refusal}
use Rattle.section.specs.Accepted.{Accepted}
use Rattle.section.specs.Has.{last_depth}
use Rattle.section.proofs.Accepted.{accepts}
use Rattle.forces.specs.Answers.{grid_refusal}

-- of an accepted section, at a depth on the grid, nothing is refused
pub none_refused : {s : Section} → Accepted s → {x : ℕ} → 1 ≤ x → x ≤ last_depth s → grid_refusal s x ≡ 0
unfolding grid_refusal
none_refused {s} ok {x} from to = rw (accepts s ok, (between 1 (last_depth s) x).1 (from, to))

pub amount_there :
    {s : Section} → Accepted s → {x : ℕ} → 1 ≤ x → x ≤ last_depth s
    → (z : ℤ) {r : Result ℤ Refusal} → Answers (grid_refusal s x) z r → r ≡ Ok z
amount_there ok from to z is = answered is (none_refused ok from to)

pub on_grid : (s : Section) (x : ℕ) → grid_refusal s x ≡ 0 → (section_refusal s ≡ 0) × Between 1 (last_depth s) x
unfolding grid_refusal
on_grid s x none =
    let k = none_of (section_refusal s) _ none in
    (k.0, (passes 17 0 (between 1 (last_depth s) x) k.1).0)
