-- How near a rounded quotient is: within half a unit of the digits that are kept. So one below 2 ^ 20 is within 2 ^ -34, and one that is whole is
-- exact. Assumes nothing.
use mathlib.Core.Path.{◌≡◌, refl, sym, ap, ◌∙◌, subst}
use mathlib.Core.Bool.{Bool, true, false, not}
use Prim.Native.Nat.{ℕ, zero, suc, ◌+◌, ◌-◌, ◌*◌, ◌/◌, ◌%◌, ◌^◌, ◌≤◌, ◌<◌, compare, Ordering}
use native.Mathlib.Nat.{le_trans, le_of_eq, lt_of_le_of_lt, zero-lt-suc, one-mul, zero-mul, mul_comm, mul_assoc, mul_left_comm, mul_right_comm}
use native.Mathlib.Nat.{add-mul, mul-pos, mul-le-mul_right, mul-le-mul_left, mul-lt-mul_of_pos_right, le_of_mul-le-mul_right, lt_irrefl, div-add-mod', mod-lt, div-lt_iff_lt-mul, suc-mul}
use native.Mathlib.Omega.{arith}
use lib.Dec.{T, is_le, compare_is_eq, eqb, leb→le, nleb→lt, eqb→eq, eqb_refl, lit<, lit≤}
use lib.Arith.{lt_of_le-ne}
use lib.Pow.{pow_pos, pow_mono, pow-add}
use lib.IntN.{ℤ, pos, negsuc, nat_abs, neg_ℤ, ◌*ℤ◌, zero-*ℤ}
use lib.Ieee.{Float, nan, inf, fin, binary64, low, up, down, nearest, size, round, of_int}
use lib.Ieee.Digits.{size-le}
use lib.Ieee.Fits.{down_pos, round_is}
use lib.Ieee.Exact.{HasValue, units_val}
use lib.Ieee.Nearest.{closest}
use lib.Ieee.Order.{drop, kept}
use lib.Ieee.Scale.{grid, overflow}
use Rattle.arith.specs.Floats.{is_neg, whole, frac, Close, Near}
use Rattle.arith.proofs.Floats.{round_scale, whole_is}

-- ---- a fraction rounded to the nearest whole number is within a half of it

abbrev Cmp : Ordering → ℕ → ℕ → Type 0
Cmp Ordering.lt a b = a < b
Cmp Ordering.eq a b = a ≡ b
Cmp Ordering.gt a b = b < a

cmp : (a b : ℕ) → Cmp (compare a b) a b
cmp a b = go (compare a b) (leb→le a b) (nleb→lt a b) (eqb→eq a b) (λ (e : a ≡ b). subst (λ (x : ℕ). T (eqb a x)) e (eqb_refl a))
  where
    go : (o : Ordering) → (T (is_le o) → a ≤ b) → (T (not (is_le o)) → b < a) → (T (compare_is_eq o) → a ≡ b) → (a ≡ b → T (compare_is_eq o)) → Cmp o a b
    go Ordering.lt h k e n = lt_of_le-ne (h tt) n
    go Ordering.eq h k e n = e tt
    go Ordering.gt h k e n = k tt

abbrev Half : ℕ → ℕ → ℕ → Type 0
Half c a b = (c * 2 ≤ a * 2 + b) × (a * 2 ≤ c * 2 + b)

half_at : (q r b : ℕ) (o : Ordering) → Cmp o (r * 2) b → r < b → Half (nearest q o * b) (q * b + r) b
half_at q r b Ordering.lt h l = (omega arith, omega arith)
half_at q r b Ordering.eq h l =
    let e : (q + q % 2) * b ≡ q * b + q % 2 * b = add-mul q (q % 2) b in
    let p : q % 2 * b ≤ 1 * b = mul-le-mul_right b (bit q) in
    let o : 1 * b ≡ b = one-mul b in
    (omega arith, omega arith)
  where
    bit : (q : ℕ) → q % 2 ≤ 1
    bit q = omega arith
half_at q r b Ordering.gt h l =
    let e : suc q * b ≡ q * b + b = suc-mul q b in
    (omega arith, omega arith)

closest_half : (a b : ℕ) → 0 < b → Half (closest a b * b) a b
closest_half a b B = subst (λ (x : ℕ). Half (closest a b * b) x b) (div-add-mod' a b) (half_at (a / b) (a % b) b (compare (a % b * 2) b) (cmp (a % b * 2) b) (mod-lt a B))

-- ---- `round` in units of the format's smallest value

abbrev dropped : ℕ → ℕ → ℕ
dropped n d = drop 53 (n * 2 ^ low binary64) d

grid_half : (n d : ℕ) → 0 < d → Half (grid binary64 n d * d) (n * 2 ^ low binary64) (d * 2 ^ dropped n d)
grid_half n d D =
    let k = dropped n d in
    let c = closest (n * 2 ^ low binary64) (d * 2 ^ k) in
    let e : c * (d * 2 ^ k) ≡ c * 2 ^ k * d = simp (mul_assoc, mul_comm, mul_left_comm) in
    subst (λ (x : ℕ). Half x (n * 2 ^ low binary64) (d * 2 ^ k)) e (closest_half (n * 2 ^ low binary64) (d * 2 ^ k) (mul-pos D (pow_pos k)))

spare : (z p t : ℕ) → z ≤ p + t → z - p ≤ t
spare z p t h = omega arith

swap : (d t l : ℕ) → d * 2 ^ t * 2 ^ l ≡ 2 ^ (t + l) * d
swap d t l = rw pow-add (simp (mul_assoc, mul_comm, mul_left_comm))

-- a fraction below 2 ^ t
under : (n d t : ℕ) → 0 < d → n < d * 2 ^ t → n * 2 ^ low binary64 < 2 ^ (t + low binary64) * d
under n d t D h = subst (λ (x : ℕ). n * 2 ^ low binary64 < x) (swap d t (low binary64)) (mul-lt-mul_of_pos_right h (pow_pos (low binary64)))

dropped_le : (n d : ℕ) → 0 < d → n < d * 2 ^ 20 → dropped n d ≤ 1041
dropped_le n d D h = spare (size (n * 2 ^ low binary64 / d)) 53 1041 (size-le (n * 2 ^ low binary64 / d) 1094 ((div-lt_iff_lt-mul D).1 (under n d 20 D h)))

round_val : (s : Bool) (n d : ℕ) → grid binary64 n d < overflow binary64 → HasValue (round binary64 s n d) s (grid binary64 n d) (2 ^ low binary64)
round_val s n d h =
    subst (λ (z : Float). HasValue z s (grid binary64 n d) (2 ^ low binary64)) (sym (round_is binary64 s n d))
    (units_val binary64 s (kept 53 (n * 2 ^ low binary64) d) (dropped n d) h)

-- a fraction below 2 ^ 20 does not overflow
reach : (g N d K P : ℕ) → 0 < d → g * d * 2 ≤ N * 2 + d * K → N < P * d → K ≤ P → g ≤ P * 2
reach g N d K P D h l k =
    let e : d * K ≤ P * d = le_trans (le_of_eq (mul_comm d K)) (mul-le-mul_right d k) in
    let r : g * d ≤ P * 2 * d = subst (λ (x : ℕ). g * d ≤ x) (mul_right_comm P d 2) (omega arith) in
    le_of_mul-le-mul_right r D

fine : (n d : ℕ) → 0 < d → n < d * 2 ^ 20 → grid binary64 n d < overflow binary64
fine n d D h =
    lt_of_le_of_lt
    (reach (grid binary64 n d) (n * 2 ^ low binary64) d (2 ^ dropped n d) (2 ^ 1094) D (grid_half n d D).0 (under n d 20 D h) (le_trans (pow_mono (dropped_le n d D h)) (lit≤ tt)))
    (lit< tt)

-- ---- the bound, with the powers of two as variables: 1 / l is the smallest value, u half of the unit that is kept, and v / w the value g / l
left : (v w g l d u c : ℕ) → l * 2 ≡ c * u → v * l ≡ g * w → v * d * c * u ≡ g * d * 2 * w
left v w g l d u c e q =
    let a : v * d * (l * 2) ≡ v * l * (d * 2) = simp (mul_assoc, mul_comm, mul_left_comm) in
    let b : g * w * (d * 2) ≡ g * d * 2 * w = simp (mul_assoc, mul_comm, mul_left_comm) in
    mul_assoc (v * d) c u ∙ ap (λ (x : ℕ). v * d * x) (sym e) ∙ a ∙ ap (λ (x : ℕ). x * (d * 2)) q ∙ b

right : (w l n u c : ℕ) → l * 2 ≡ c * u → n * w * c * u ≡ n * l * 2 * w
right w l n u c e =
    let a : n * w * (l * 2) ≡ n * l * 2 * w = simp (mul_assoc, mul_comm, mul_left_comm) in
    mul_assoc (n * w) c u ∙ ap (λ (x : ℕ). n * w * x) (sym e) ∙ a

over : (d k w u : ℕ) → k ≤ u → d * k * w ≤ d * w * u
over d k w u h = le_trans (le_of_eq (mul_right_comm d k w)) (mul-le-mul_left (d * w) h)

-- x ≤ y + z, with each side multiplied by w, and x * w, y * w, z * w known
through : (x y z w u X Y Z : ℕ) → 0 < u → X * u ≡ x * w → Y * u ≡ y * w → z * w ≤ Z * u → x ≤ y + z → X ≤ Y + Z
through x y z w u X Y Z U p q r h =
    let a : x * w ≤ (y + z) * w = mul-le-mul_right w h in
    let b : (y + z) * w ≡ y * w + z * w = add-mul y z w in
    let c : (Y + Z) * u ≡ Y * u + Z * u = add-mul Y Z u in
    let d : X * u ≤ (Y + Z) * u = omega arith in
    le_of_mul-le-mul_right d U

bound : (v w g l d n k u c : ℕ) → 0 < u → l * 2 ≡ c * u → k ≤ u → v * l ≡ g * w → Half (g * d) (n * l) (d * k)
    → (v * d * c ≤ n * w * c + d * w) × (n * w * c ≤ v * d * c + d * w)
bound v w g l d n k u c U e h q b = (
  through (g * d * 2) (n * l * 2) (d * k) w u (v * d * c) (n * w * c) (d * w) U (left v w g l d u c e q) (right w l n u c e) (over d k w u h) b.0,
  through (n * l * 2) (g * d * 2) (d * k) w u (n * w * c) (v * d * c) (d * w) U (right w l n u c e) (left v w g l d u c e q) (over d k w u h) b.1,
)

-- ---- a quotient below 2 ^ 20 is within 2 ^ -34
frac_within : (n : ℤ) (d : ℕ) → 0 < d → nat_abs n < d * 2 ^ 20 → Close (2 ^ 34) (frac n d) n d
frac_within n d D h = go (frac n d) (round_val (is_neg n) k d (fine k d D h))
  where
    k : ℕ
    k = nat_abs n

    go : (r : Float) → HasValue r (is_neg n) (grid binary64 k d) (2 ^ low binary64) → Close (2 ^ 34) r n d
    go nan v = elim v [ ]
    go (inf _) v = elim v [ ]
    go (fin s m e) v =
        let l = 2 ^ low binary64 in
        let b = bound (m * up e) (down e) (grid binary64 k d) l d k (2 ^ dropped k d) (2 ^ 1041) (2 ^ 34) (pow_pos 1041) refl (pow_mono (dropped_le k d D h)) v.1 (grid_half k d D) in
        (v.0, b.0, b.1)

-- a coarser bound
coarse : (x y z : ℕ) → x * 17179869184 ≤ y * 17179869184 + z → x * 1000000 ≤ y * 1000000 + z
coarse x y z h = omega arith

-- what is not 0 does not round to 0
not_lost : (n d w : ℕ) → 0 < n → 0 < w → d < 2 ^ 34 → n * w * 2 ^ 34 ≤ d * w → ⊥
not_lost n d w N W D h =
    let a : n * 2 ^ 34 * w ≤ d * w = le_trans (le_of_eq (mul_right_comm n (2 ^ 34) w)) h in
    let b : n * 2 ^ 34 ≤ d = le_of_mul-le-mul_right a W in
    omega arith

nought_out : (u d c x y : ℕ) → y ≤ 0 * u * d * c + x → y ≤ x
nought_out u d c x y h =
    let e : 0 * u * d * c ≡ 0 = ap (λ (k : ℕ). k * d * c) (zero-mul u) ∙ ap (λ (k : ℕ). k * c) (zero-mul d) ∙ zero-mul c in
    omega arith

only_zero : (n : ℤ) (d : ℕ) (s : Bool) (e : ℤ) → d < 2 ^ 34 → Close (2 ^ 34) (fin s 0 e) n d → n ≡ pos 0
only_zero (pos zero) d s e D w = refl
only_zero (pos (suc k)) d s e D w = absurd (not_lost (suc k) d (down e) (zero-lt-suc k) (down_pos e) D (nought_out (up e) d (2 ^ 34) (d * down e) (suc k * down e * 2 ^ 34) w.2))
only_zero (negsuc k) d s e D w = absurd (not_lost (suc k) d (down e) (zero-lt-suc k) (down_pos e) D (nought_out (up e) d (2 ^ 34) (d * down e) (suc k * down e * 2 ^ 34) w.2))

coarser : (r : Float) (n : ℤ) (d : ℕ) → Close (2 ^ 34) r n d → Close 1000000 r n d
coarser nan n d w = elim w [ ]
coarser (inf _) n d w = elim w [ ]
coarser (fin s m e) n d w =
    (w.0, coarse (m * up e * d) (nat_abs n * down e) (d * down e) w.1, coarse (nat_abs n * down e) (m * up e * d) (d * down e) w.2)

-- ---- a quotient that is whole
frac_neg : (k d a : ℕ) → 0 < k → k ≡ suc a * d → 0 < d → frac (neg_ℤ (pos k)) d ≡ whole (negsuc a)
frac_neg zero d a K e D = absurd (lt_irrefl 0 K)
frac_neg (suc k) d a K e D = round_scale true (suc k) (suc a) d D e ∙ sym (whole_is (negsuc a))

frac_whole : (q : ℤ) (d : ℕ) → 0 < d → frac (q *ℤ pos d) d ≡ whole q
frac_whole (pos a) d D = round_scale false (a * d) a d D refl ∙ sym (whole_is (pos a))
frac_whole (negsuc a) d D = frac_neg (suc a * d) d a (mul-pos (zero-lt-suc a) D) refl D

plus_zero : whole (pos 0) ≡ fin false 0 (pos 0)
unfolding of_int
plus_zero = refl

pub near_frac : (n : ℤ) (d : ℕ) → 0 < d → d < 2 ^ 34 → nat_abs n < d * 2 ^ 20 → Near (frac n d) n d
near_frac n d D W h =
    let w = frac_within n d D h in
    let whole_is : (q : ℤ) → n ≡ q *ℤ pos d → frac n d ≡ whole q = λ q e. ap (λ (x : ℤ). frac x d) e ∙ frac_whole q d D in
    record {
      proper = D;
      close = coarser (frac n d) n d w;
      exact = whole_is;
      zero = λ s e r.
          let z : n ≡ pos 0 = only_zero n d s e W (subst (λ (x : Float). Close (2 ^ 34) x n d) r w) in
          (z, whole_is (pos 0) (z ∙ sym (zero-*ℤ (pos d))) ∙ plus_zero);
    }
