-- A lone record passes 6 exactly where all that document 01 says of it holds. Assumes nothing.
use Prim.Native.Nat.{ℕ, ◌+◌}
use mathlib.Core.Path.{◌≡◌}
use mathlib.Core.List.{List}
use mathlib.Core.Logic.Iff
use mathlib.Core.Logic.{◌↔◌}
use lib.ListN.{length}
use Rattle.arith.proofs.Tests.{Decides, is_most, is_same, is_both, is_unless_zero}
use Rattle.arith.proofs.Lines.{passes}
use Rattle.record.specs.Record.{le16_at, layers_end, layers_at, flange_at, size_at, record_right, record_refusal}
use Rattle.record.specs.Alone.{StandsAlone}

pub stands_alone : (r : List ℕ) → Decides (record_right r) (StandsAlone r)
unfolding record_right
stands_alone r =
    Iff.trans
    (is_both
    (is_both (is_same (length r) (size_at r 0)) (is_most (layers_at r 0) 8))
    (is_unless_zero (flange_at r 0) (is_same (le16_at r (layers_end (layers_at r 0) + 2)) 0)))
    (λ p. (p.0.0, p.0.1, p.1), λ p. ((p.0, p.1), p.2))

pub record_stands : (r : List ℕ) → (record_refusal r ≡ 0) ↔ StandsAlone r
unfolding record_refusal
record_stands r = (λ e. (passes 5 0 (stands_alone r) e).0, λ a. rw ((stands_alone r).1 a))
