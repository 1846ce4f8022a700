-- At a whole strain, what a piece has over and under the line is exact, so that it is the f64 nearest to the law's fraction. Assumes nothing.
use Prim.Native.Nat.{ℕ, suc, ◌+◌, ◌*◌, ◌-◌, ◌≤◌, ◌<◌}
use mathlib.Core.Path.{◌≡◌, sym, ap, ◌∙◌, subst}
use mathlib.Core.Bool.{false}
use native.Mathlib.Nat as NatL
use native.Mathlib.Omega.{arith}
use lib.IntN.{ℤ, pos, negsuc, neg_ℤ}
use lib.Ieee.{Float, binary64, add, sub, mul, div}
use Rattle.arith.specs.Floats.{whole, frac}
use Rattle.arith.proofs.Floats.{whole_is, Loose, add_loose, sub_whole, mul_nonneg, mul_loose, div_whole}
use Rattle.arith.proofs.Products.{narrow_product}
use Rattle.arith.proofs.Signed.{abs_neg}
use Rattle.law.specs.declared.Law.{Law}
use Rattle.law.specs.Ranges.{Lawful}
use Rattle.law.specs.Stress.{flat, ramp, parabola}
use Rattle.law.specs.Sizes.{Small}
use Rattle.drawn.specs.declared.Piece.TheVariants.{Flat, Parabola}
use Rattle.drawn.specs.Drawn.{stress_at, drawn_stress}
use Rattle.drawn.specs.Pieces.{evaluated, below, down, piece_at}
use Rattle.drawn.proofs.Cases.{compressed_by, stretched_by}
use Rattle.drawn.proofs.Ends.{less, between, times, plus}

-- ---- a ramp
-- the difference of two numbers below zero
apart : (a b : ℕ) → a ≤ b → b < 65536 → sub binary64 (below a) (below b) ≡ whole (pos (b - a))
apart a b h k =
    sub_whole (neg_ℤ (pos a)) (neg_ℤ (pos b)) (omega (arith, abs_neg (pos a))) (omega (arith, abs_neg (pos b))) ∙ ap whole (between a b h)

-- a sum that is whole so far, and one more product below zero
further : (a s v : ℕ) → a < 4294967296 → s < 65536 → v < 65536 → add binary64 (below a) (mul binary64 (below s) (whole (pos v))) ≡ below (a + s * v)
further a s v h k j =
    let q = narrow_product s v k j in
    let product = mul binary64 (below s) (whole (pos v)) in
    let loose =
    subst (λ (w : ℤ). Loose product w) (times s v)
    (mul_loose (neg_ℤ (pos s)) (pos v) (omega (arith, abs_neg (pos s))) (omega arith)) in
    add_loose (neg_ℤ (pos a)) (neg_ℤ (pos (s * v))) _ (omega (arith, abs_neg (pos a))) (omega (arith, abs_neg (pos (s * v)))) loose
    ∙ ap whole (plus a (s * v))

module _ (ea sa eb sb p : ℕ) (long : ea < eb) (from : ea ≤ p) (to : p ≤ eb) (E : eb < 65536) (A : sa < 65536) (B : sb < 65536) where
  ramp_exact : evaluated (down ea sa eb sb) (below p) ≡ drawn_stress (ramp ea sa eb sb p 1)
  unfolding evaluated
  ramp_exact =
      let u = eb - p in
      let v = p - ea in
      let n = 0 + sb * v + sa * u in
      let pb = narrow_product sb v B (omega arith) in
      let pa = narrow_product sa u A (omega arith) in
      let num : n ≡ sa * (eb * 1 - p) + sb * (p - ea * 1) = rw (NatL.mul-one eb, NatL.mul-one ea) (omega arith) in
      (λ i.
      div binary64
      (add binary64 (add binary64 (below 0) (mul binary64 (below sb) (apart ea p from (omega arith) i))) (mul binary64 (below sa) (apart p eb to E i)))
      (apart ea eb (omega arith) E i))
      ∙ ap (λ (x : Float). div binary64 (add binary64 x (mul binary64 (below sa) (whole (pos u)))) (whole (pos (eb - ea))))
      (further 0 sb v (omega arith) B (omega arith))
      ∙ ap (λ (x : Float). div binary64 x (whole (pos (eb - ea)))) (further (0 + sb * v) sa u (omega arith) A (omega arith))
      ∙ div_whole (neg_ℤ (pos n)) (eb - ea) (omega arith) (omega (arith, abs_neg (pos n))) (omega arith)
      ∙ (λ i. frac (neg_ℤ (pos (num i))) (sym (NatL.mul-one (eb - ea)) i))

-- ---- the parabola
parabola_exact :
    (fcd p : ℕ)
    → fcd < 65536 → p ≤ 2000
    → evaluated (Parabola (whole (pos fcd)) (whole (pos 2000))) (whole (pos p)) ≡ drawn_stress (parabola fcd p 1)
unfolding evaluated
parabola_exact fcd p h k =
    let b = 4000 - p in
    let small = narrow_product fcd p h (omega arith) in
    let arch = NatL.mul-le-mul {n₁ = fcd * p} {m₁ = b} {n₂ = 4294967295} {m₂ = 4000} (omega arith) (omega arith) in
    let rest : sub binary64 (mul binary64 (whole (pos 2)) (whole (pos 2000))) (whole (pos p)) ≡ whole (pos b) =
    ap (λ (x : Float). sub binary64 x (whole (pos p))) (mul_nonneg 2 2000 (omega arith) (omega arith))
    ∙ sub_whole (pos 4000) (pos p) (omega arith) (omega arith) ∙ ap whole (less 4000 p (omega arith)) in
    (λ i. div binary64 (mul binary64 (mul_nonneg fcd p (omega arith) (omega arith) i) (rest i)) (mul_nonneg 2000 2000 (omega arith) (omega arith) i))
    ∙ ap (λ (x : Float). div binary64 x (whole (pos 4000000))) (mul_nonneg (fcd * p) b (omega arith) (omega arith))
    ∙ div_whole (pos (fcd * p * b)) 4000000 (omega arith) (omega arith) (omega arith)

-- ---- a whole number
level_exact : (s : ℕ) (e : Float) → evaluated (Flat (whole (pos s))) e ≡ drawn_stress (flat false s)
unfolding evaluated
level_exact s e = whole_is (pos s)

-- ---- the law
pub drawn_exactly : (l : Law) → Lawful l → Small l → (e : ℤ) → evaluated (piece_at l e) (whole e) ≡ drawn_stress (stress_at l e)
unfolding piece_at
drawn_exactly l o n (pos p) =
    compressed_by (λ a t. evaluated a (whole (pos p)) ≡ drawn_stress t) l p (parabola_exact l.fcd p n.fcd) (level_exact l.fcd (whole (pos p)))
drawn_exactly l o n (negsuc k) =
    stretched_by (λ a t. evaluated a (below (suc k)) ≡ drawn_stress t) l (suc k) o n
    (λ ea sa eb sb. ramp_exact ea sa eb sb (suc k)) (level_exact 0 (below (suc k)))
