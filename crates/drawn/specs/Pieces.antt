-- Document 01, 'Stress at a strain': the pieces that the law is drawn from, in f64, and which piece a whole strain is on.
use Rattle.std.specs.Prelude.{ℕ, cond, leb, ℤ, pos, neg_ℤ, nat_abs, Float}
use Rattle.std.specs.Float.{binary64}
use Rattle.std.specs.Float.Ieee.{add, sub, mul, div}
use Rattle.arith.specs.Floats.{is_neg, whole}
use Rattle.law.specs.declared.Law.{Law}
use Rattle.drawn.specs.declared.Piece.{Piece}
use Rattle.drawn.specs.declared.Piece.TheVariants.{Flat, Ramp, Parabola}

-- what a piece is at a strain, each operation in f64. A ramp weighs its two ends, from plus zero up: a product may be minus zero
unfoldable pub evaluated : Piece → Float → Float
evaluated (Flat stress) e = stress
evaluated (Ramp e0 e1 s0 s1) e =
    div binary64
    (add binary64 (add binary64 (whole (pos 0)) (mul binary64 s0 (sub binary64 e1 e))) (mul binary64 s1 (sub binary64 e e0)))
    (sub binary64 e1 e0)
evaluated (Parabola peak strain) e =
    div binary64 (mul binary64 (mul binary64 peak e) (sub binary64 (mul binary64 (whole (pos 2)) strain) e)) (mul binary64 strain strain)

-- tension is drawn below zero, on both axes
abbrev pub below : ℕ → Float
below n = whole (neg_ℤ (pos n))

abbrev pub down : ℕ → ℕ → ℕ → ℕ → Piece
down ea sa eb sb = Ramp (below eb) (below ea) (below sb) (below sa)

unfoldable pub stretched_piece : Law → ℕ → Piece
stretched_piece l p =
    cond (leb p l.e1) (down 0 0 l.e1 l.s1)
    (cond (leb p l.e2) (down l.e1 l.s1 l.e2 l.s2)
    (cond (leb p l.e3) (down l.e2 l.s2 l.e3 l.s3)
    (Flat (whole (pos 0)))))

unfoldable pub compressed_piece : Law → ℕ → Piece
compressed_piece l p = cond (leb p 2000) (Parabola (whole (pos l.fcd)) (whole (pos 2000))) (Flat (whole (pos l.fcd)))

unfoldable pub piece_at : Law → ℤ → Piece
piece_at l e = cond (is_neg e) (stretched_piece l (nat_abs e)) (compressed_piece l (nat_abs e))
