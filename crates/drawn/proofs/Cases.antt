-- The law's tests, made once: which piece and which fraction a strain is on, and what then holds of both. Assumes nothing.
use Prim.Native.Nat.{ℕ, ◌*◌, ◌≤◌, ◌<◌}
use mathlib.Core.Path.{◌≡◌, refl, sym}
use mathlib.Core.Bool.{Bool, true, false, cond}
use native.Mathlib.Nat as NatL
use native.Mathlib.Omega.{arith}
use lib.Dec.{leb}
use lib.IntN.{pos}
use borrow.Author.Tests.{leb-true, leb-false}
use Rattle.arith.specs.Floats.{whole}
use Rattle.law.specs.declared.Law.{Law}
use Rattle.law.specs.Ranges.{Lawful}
use Rattle.law.specs.Stress.{Stress, flat, ramp, parabola, compressed, stretched}
use Rattle.law.specs.Sizes.{Small}
use Rattle.drawn.specs.declared.Piece.{Piece}
use Rattle.drawn.specs.declared.Piece.TheVariants.{Flat, Parabola}
use Rattle.drawn.specs.Pieces.{down, stretched_piece, compressed_piece}

module _ (Q : Piece → Stress → Type 0) where
  split :
      (c d : Bool) (a b : Piece) (t u : Stress)
      → c ≡ d
      → (c ≡ true → Q a t)
      → (c ≡ false → Q b u)
      → Q (cond c a b) (cond d t u)
  split true d a b t u k f g = rw (sym k) (f refl)
  split false d a b t u k f g = rw (sym k) (g refl)

  module _ (l : Law) (p : ℕ) where
    pub compressed_by :
        (p ≤ 2000 → Q (Parabola (whole (pos l.fcd)) (whole (pos 2000))) (parabola l.fcd p 1))
        → Q (Flat (whole (pos l.fcd))) (flat false l.fcd)
        → Q (compressed_piece l p) (compressed l p 1)
    unfolding compressed_piece compressed
    compressed_by rises levels = split (leb p 2000) (leb p 2000) _ _ _ _ refl (λ h. rises (leb-true p 2000 h)) (λ h. levels)

    -- a test of a strain over 1
    over_one : (e : ℕ) → leb p e ≡ leb p (e * 1)
    over_one e = rw (NatL.mul-one e)

    pub stretched_by :
        Lawful l
        → Small l
        → ((ea sa eb sb : ℕ) → ea < eb → ea ≤ p → p ≤ eb → eb < 65536 → sa < 65536 → sb < 65536 → Q (down ea sa eb sb) (ramp ea sa eb sb p 1))
        → Q (Flat (whole (pos 0))) (flat true 0)
        → Q (stretched_piece l p) (stretched l p 1)
    unfolding stretched_piece stretched
    stretched_by o n on none =
        split (leb p l.e1) (leb p (l.e1 * 1)) _ _ _ _ (over_one l.e1)
        (λ h. on 0 0 l.e1 l.s1 o.first (omega arith) (leb-true p l.e1 h) n.e1 (omega arith) n.s1)
        (λ h1.
        split (leb p l.e2) (leb p (l.e2 * 1)) _ _ _ _ (over_one l.e2)
        (λ h. on l.e1 l.s1 l.e2 l.s2 o.second (omega (arith, leb-false p l.e1 h1)) (leb-true p l.e2 h) n.e2 n.s1 n.s2)
        (λ h2.
        split (leb p l.e3) (leb p (l.e3 * 1)) _ _ _ _ (over_one l.e3)
        (λ h. on l.e2 l.s2 l.e3 l.s3 o.third (omega (arith, leb-false p l.e2 h2)) (leb-true p l.e3 h) n.e3 n.s2 n.s3)
        (λ h. none)))
