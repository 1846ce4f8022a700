-- Sums, differences and products of whole numbers in f64 are those of the whole numbers, and a quotient is rounded once. Assumes nothing.
use mathlib.Core.Path.{◌≡◌, refl, sym, ap, ◌∙◌, subst}
use mathlib.Core.Logic.{◌⊎◌, inl, inr}
use mathlib.Core.Bool.{Bool, true, false, not, cond}
use Prim.Native.Nat.{ℕ, zero, suc, ◌+◌, ◌-◌, ◌*◌, ◌^◌, ◌≤◌, ◌<◌}
use native.Mathlib.Nat.{zero-lt-suc, mul-one, zero-mul, mul_comm, mul_assoc, mul_left_comm, add-mul, mul-mul-mul_comm, add-zero, sub-zero}
use native.Mathlib.Nat.{mul-pos, mul-lt-mul_of_pos_right, lt_of_mul-lt-mul_right, lt_irrefl}
use native.Mathlib.Omega.{arith}
use lib.Dec.{T, ltb, eqb, ltb→lt, lt→ltb, nltb→le, eqb→eq}
use lib.IntN.{ℤ, pos, negsuc, nat_abs, neg_ℤ, sub_ℕ, ◌+ℤ◌, ◌-ℤ◌, ◌*ℤ◌, +ℤ_idr}
use lib.Ieee.{Float, nan, inf, fin, binary64, up, down, unlike, round, neg, sum, add, sub, mul, div, of_int}
use lib.Ieee.Fits.{down_pos}
use lib.Ieee.Exact.{HasValue}
use lib.Ieee.Scale.{round_same}
use lib.Ieee.Back.{round_whole}
use Rattle.arith.specs.Floats.{is_neg, whole, frac, Holds}
use Rattle.arith.proofs.Products.{sub_scale}

-- ---- a whole number's float

pub whole_is : (z : ℤ) → whole z ≡ round binary64 (is_neg z) (nat_abs z) 1
unfolding of_int
whole_is (pos n) = refl
whole_is (negsuc n) = refl

abbrev Val : Float → ℤ → Type 0
Val x z = HasValue x (is_neg z) (nat_abs z) 1

whole_val : (z : ℤ) → nat_abs z ≤ 2 ^ 53 → Val (whole z) z
whole_val z h = subst (λ (x : Float). Val x z) (sym (whole_is z)) (round_whole binary64 (is_neg z) (nat_abs z) h)

pub holds : (z : ℤ) → nat_abs z ≤ 2 ^ 53 → Holds (whole z) z
holds z h = go (whole z) (whole_val z h)
  where
    go : (x : Float) → Val x z → Holds x z
    go nan v = elim v [ ]
    go (inf _) v = elim v [ ]
    go (fin s m e) v = (v.0, sym (mul-one (m * up e)) ∙ v.1)

-- ---- the sum

same_bool : (p q : Bool) → (T p → T q) → (T q → T p) → p ≡ q
same_bool true true f g = refl
same_bool true false f g = absurd (f tt)
same_bool false true f g = absurd (g tt)
same_bool false false f g = refl

ltb_scale : (a b c : ℕ) → 0 < c → ltb (a * c) (b * c) ≡ ltb a b
ltb_scale a b c C =
    same_bool (ltb (a * c) (b * c)) (ltb a b)
    (λ t. lt→ltb a b (lt_of_mul-lt-mul_right c (ltb→lt (a * c) (b * c) t)))
    (λ t. lt→ltb (a * c) (b * c) (mul-lt-mul_of_pos_right (ltb→lt a b t) C))

pub round_scale : (s : Bool) (a n c : ℕ) → 0 < c → a ≡ n * c → round binary64 s a c ≡ round binary64 s n 1
round_scale s a n c C e = round_same binary64 s a c n 1 C (zero-lt-suc 0) (mul-one a ∙ e)

sum_scale : (s : Bool) (a : ℕ) (t : Bool) (b c : ℕ) → 0 < c → sum binary64 s (a * c) t (b * c) c ≡ sum binary64 s a t b 1
unfolding sum
sum_scale true a true b c C = round_scale true (a * c + b * c) (a + b) c C (sym (add-mul a b c))
sum_scale false a false b c C = round_scale false (a * c + b * c) (a + b) c C (sym (add-mul a b c))
sum_scale true a false b c C =
    λ i. cond (ltb_scale a b c C i) (round_scale false (b * c - a * c) (b - a) c C (sub_scale b a c) i)
    ((ap (λ (x : Bool). round binary64 x (a * c - b * c) c) (ltb_scale b a c C) ∙ round_scale (ltb b a) (a * c - b * c) (a - b) c C (sub_scale a b c)) i)
sum_scale false a true b c C =
    λ i. cond (ltb_scale a b c C i) (round_scale true (b * c - a * c) (b - a) c C (sub_scale b a c) i)
    (round_scale false (a * c - b * c) (a - b) c C (sub_scale a b c) i)

part : (x a e g : ℕ) → x * 1 ≡ a * e → x * g ≡ a * (e * g)
part x a e g h = ap (λ (z : ℕ). z * g) (sym (mul-one x) ∙ h) ∙ mul_assoc a e g

add_at : (x y : Float) (s : Bool) (a : ℕ) (t : Bool) (b : ℕ) → HasValue x s a 1 → HasValue y t b 1 → add binary64 x y ≡ sum binary64 s a t b 1
unfolding add
add_at nan y s a t b h k = absurd h
add_at (inf u) y s a t b h k = absurd h
add_at (fin u m e) nan s a t b h k = absurd k
add_at (fin u m e) (inf v) s a t b h k = absurd k
add_at (fin u m e) (fin v n d) s a t b h k =
    let c = down e * down d in
    (λ i. sum binary64 (h.0 i) (part (m * up e) a (down e) (down d) h.1 i) (k.0 i)
    ((part (n * up d) b (down d) (down e) k.1 ∙ ap (λ (z : ℕ). b * z) (mul_comm (down d) (down e))) i) c)
    ∙ sum_scale s a t b c (mul-pos (down_pos e) (down_pos d))

-- ---- the sum of two whole numbers

diff_pos : (a b : ℕ) → a < suc b → suc b - a ≡ suc (suc b - suc a)
diff_pos a b h = omega arith

-- a - (b + 1), each way round
sum_mixed : (a b : ℕ) → sum binary64 false a true (suc b) 1 ≡ whole (sub_ℕ a (suc b))
unfolding sum
sum_mixed a b = go (ltb a (suc b)) (ltb→lt a (suc b))
  where
    go : (t : Bool) → (T t → a < suc b) → cond t (round binary64 true (suc b - a) 1) (round binary64 false (a - suc b) 1) ≡ whole (cond t (negsuc (suc b - suc a)) (pos (a - suc b)))
    go true h = ap (λ (x : ℕ). round binary64 true x 1) (diff_pos a b (h tt)) ∙ sym (whole_is (negsuc (suc b - suc a)))
    go false h = sym (whole_is (pos (a - suc b)))

eq_of_not : (a b : ℕ) → a ≤ b → b ≤ a → a - b ≡ b - a
eq_of_not a b h k = omega arith

never : (a b : ℕ) → suc a < b → b < suc a → ⊥
never a b h k = omega arith

sum_mixed' : (a b : ℕ) → sum binary64 true (suc a) false b 1 ≡ whole (sub_ℕ b (suc a))
unfolding sum
sum_mixed' a b = go (ltb (suc a) b) (ltb b (suc a)) (ltb→lt (suc a) b) (nltb→le (suc a) b) (ltb→lt b (suc a)) (nltb→le b (suc a))
  where
    go : (t u : Bool) → (T t → suc a < b) → (T (not t) → b ≤ suc a) → (T u → b < suc a) → (T (not u) → suc a ≤ b)
        → cond t (round binary64 false (b - suc a) 1) (round binary64 u (suc a - b) 1) ≡ whole (cond u (negsuc (suc a - suc b)) (pos (b - suc a)))
    go true true h h' k k' = absurd (never a b (h tt) (k tt))
    go true false h h' k k' = sym (whole_is (pos (b - suc a)))
    go false true h h' k k' = ap (λ (x : ℕ). round binary64 true x 1) (diff_pos b a (k tt)) ∙ sym (whole_is (negsuc (suc a - suc b)))
    go false false h h' k k' = ap (λ (x : ℕ). round binary64 false x 1) (eq_of_not (suc a) b (k' tt) (h' tt)) ∙ sym (whole_is (pos (b - suc a)))

twice_suc : (a b : ℕ) → suc a + suc b ≡ suc (suc (a + b))
twice_suc a b = omega arith

sum_int : (z w : ℤ) → sum binary64 (is_neg z) (nat_abs z) (is_neg w) (nat_abs w) 1 ≡ whole (z +ℤ w)
unfolding sum
sum_int (pos a) (pos b) = sym (whole_is (pos (a + b)))
sum_int (pos a) (negsuc b) = sum_mixed a b
sum_int (negsuc a) (pos b) = sum_mixed' a b
sum_int (negsuc a) (negsuc b) = ap (λ (x : ℕ). round binary64 true x 1) (twice_suc a b) ∙ sym (whole_is (negsuc (suc (a + b))))

-- and with -0
none_below : (a : ℕ) → a < 0 → ⊥
none_below a h = omega arith

sum_nought : (z : ℤ) → sum binary64 (is_neg z) (nat_abs z) true 0 1 ≡ whole z
unfolding sum
sum_nought (negsuc a) = ap (λ (x : ℕ). round binary64 true x 1) (add-zero (suc a)) ∙ sym (whole_is (negsuc a))
sum_nought (pos a) = go (ltb a 0) (ltb→lt a 0)
  where
    go : (t : Bool) → (T t → a < 0) → cond t (round binary64 true (0 - a) 1) (round binary64 false (a - 0) 1) ≡ whole (pos a)
    go true h = absurd (none_below a (h tt))
    go false h = ap (λ (x : ℕ). round binary64 false x 1) (sub-zero a) ∙ sym (whole_is (pos a))

add_whole : (z w : ℤ) → nat_abs z ≤ 2 ^ 53 → nat_abs w ≤ 2 ^ 53 → add binary64 (whole z) (whole w) ≡ whole (z +ℤ w)
add_whole z w Z W = add_at (whole z) (whole w) (is_neg z) (nat_abs z) (is_neg w) (nat_abs w) (whole_val z Z) (whole_val w W) ∙ sum_int z w

-- ---- the difference

neg_val : (x : Float) (s : Bool) (a : ℕ) → HasValue x s a 1 → HasValue (neg x) (not s) a 1
unfolding neg
neg_val nan s a h = h
neg_val (inf t) s a h = h
neg_val (fin t m e) s a h = (ap not h.0, h.1)

sum_less : (z w : ℤ) → sum binary64 (is_neg z) (nat_abs z) (not (is_neg w)) (nat_abs w) 1 ≡ whole (z -ℤ w)
sum_less z (pos zero) = sum_nought z ∙ ap whole (sym (+ℤ_idr z))
sum_less z (pos (suc n)) = sum_int z (negsuc n)
sum_less z (negsuc n) = sum_int z (pos (suc n))

sub_is : (x y : Float) → sub binary64 x y ≡ add binary64 x (neg y)
unfolding sub
sub_is x y = refl

pub sub_whole : (z w : ℤ) → nat_abs z ≤ 2 ^ 53 → nat_abs w ≤ 2 ^ 53 → sub binary64 (whole z) (whole w) ≡ whole (z -ℤ w)
sub_whole z w Z W =
    sub_is (whole z) (whole w)
    ∙ add_at (whole z) (neg (whole w)) (is_neg z) (nat_abs z) (not (is_neg w)) (nat_abs w) (whole_val z Z) (neg_val (whole w) (is_neg w) (nat_abs w) (whole_val w W))
    ∙ sum_less z w

-- ---- the product

mul_at : (x y : Float) (s : Bool) (a : ℕ) (t : Bool) (b : ℕ) → HasValue x s a 1 → HasValue y t b 1 → mul binary64 x y ≡ round binary64 (unlike s t) (a * b) 1
unfolding mul
mul_at nan y s a t b h k = absurd h
mul_at (inf u) y s a t b h k = absurd h
mul_at (fin u m e) nan s a t b h k = absurd k
mul_at (fin u m e) (inf v) s a t b h k = absurd k
mul_at (fin u m e) (fin v n d) s a t b h k =
    ap (λ (x : Bool). round binary64 (unlike x v) (m * up e * (n * up d)) (down e * down d)) h.0
    ∙ ap (λ (x : Bool). round binary64 (unlike s x) (m * up e * (n * up d)) (down e * down d)) k.0
    ∙ round_scale (unlike s t) (m * up e * (n * up d)) (a * b) (down e * down d) (mul-pos (down_pos e) (down_pos d))
    ((λ i. (sym (mul-one (m * up e)) ∙ h.1) i * (sym (mul-one (n * up d)) ∙ k.1) i) ∙ mul-mul-mul_comm a (down e) b (down d))

-- a product of two that are not below zero
pub mul_nonneg : (a b : ℕ) → a ≤ 2 ^ 53 → b ≤ 2 ^ 53 → mul binary64 (whole (pos a)) (whole (pos b)) ≡ whole (pos (a * b))
mul_nonneg a b A B = mul_at (whole (pos a)) (whole (pos b)) false a false b (whole_val (pos a) A) (whole_val (pos b) B) ∙ sym (whole_is (pos (a * b)))

-- ---- the product of any two whole numbers: the float of z, or -0 where z is 0. Added to a whole number it is the number's float again

unfoldable pub Loose : Float → ℤ → Type 0
Loose x z = (x ≡ whole z) ⊎ ((z ≡ pos 0) × (x ≡ fin true 0 (pos 0)))

minus_zero : (k : ℕ) → k ≡ 0 → round binary64 true k 1 ≡ fin true 0 (pos 0)
unfolding round
minus_zero k h = ap (λ (x : ℕ). round binary64 true x 1) h

loose_neg : (k : ℕ) → Loose (round binary64 true k 1) (neg_ℤ (pos k))
unfolding Loose
loose_neg zero = inr (refl, minus_zero 0 refl)
loose_neg (suc k) = inl (sym (whole_is (negsuc k)))

loose_pos : (k : ℕ) → Loose (round binary64 false k 1) (pos k)
unfolding Loose
loose_pos k = inl (sym (whole_is (pos k)))

pub mul_loose : (z w : ℤ) → nat_abs z ≤ 2 ^ 53 → nat_abs w ≤ 2 ^ 53 → Loose (mul binary64 (whole z) (whole w)) (z *ℤ w)
mul_loose z w Z W = subst (λ (x : Float). Loose x (z *ℤ w)) (sym (mul_at (whole z) (whole w) (is_neg z) (nat_abs z) (is_neg w) (nat_abs w) (whole_val z Z) (whole_val w W))) (go z w)
  where
    go : (z w : ℤ) → Loose (round binary64 (unlike (is_neg z) (is_neg w)) (nat_abs z * nat_abs w) 1) (z *ℤ w)
    go (pos a) (pos b) = loose_pos (a * b)
    go (pos a) (negsuc b) = loose_neg (a * suc b)
    go (negsuc a) (pos b) = loose_neg (suc a * b)
    go (negsuc a) (negsuc b) = loose_pos (suc a * suc b)

pub add_loose : (z w : ℤ) (y : Float) → nat_abs z ≤ 2 ^ 53 → nat_abs w ≤ 2 ^ 53 → Loose y w → add binary64 (whole z) y ≡ whole (z +ℤ w)
unfolding Loose
add_loose z w y Z W (inl e) = ap (λ (x : Float). add binary64 (whole z) x) e ∙ add_whole z w Z W
add_loose z w y Z W (inr h) =
    ap (λ (x : Float). add binary64 (whole z) x) h.1
    ∙ add_at (whole z) (fin true 0 (pos 0)) (is_neg z) (nat_abs z) true 0 (whole_val z Z) (refl, refl)
    ∙ sum_nought z
    ∙ ap whole (sym (ap (λ (x : ℤ). z +ℤ x) h.0 ∙ +ℤ_idr z))

-- ---- the quotient

not_nought : (n u b v : ℕ) → 0 < b → 0 < v → n * u * 1 ≡ b * v → n ≡ 0 → ⊥
not_nought n u b v B D h z = lt_irrefl 0 (subst (λ (x : ℕ). 0 < x) (sym h ∙ mul-one (n * u) ∙ ap (λ (x : ℕ). x * u) z ∙ zero-mul u) (mul-pos B D))

cross : (x y a b e d : ℕ) → x * 1 ≡ a * e → y * 1 ≡ b * d → x * d * b ≡ a * (y * e)
cross x y a b e d h k =
    let mid : a * e * d * b ≡ a * (b * d * e) = simp (mul_assoc, mul_comm, mul_left_comm) in
    ap (λ (z : ℕ). z * d * b) (sym (mul-one x) ∙ h)
    ∙ mid
    ∙ ap (λ (z : ℕ). a * (z * e)) (sym (sym (mul-one y) ∙ k))

div_at : (x y : Float) (s : Bool) (a : ℕ) (t : Bool) (b : ℕ) → 0 < b → HasValue x s a 1 → HasValue y t b 1 → div binary64 x y ≡ round binary64 (unlike s t) a b
unfolding div
div_at nan y s a t b B h k = absurd h
div_at (inf u) y s a t b B h k = absurd h
div_at (fin u m e) nan s a t b B h k = absurd k
div_at (fin u m e) (inf v) s a t b B h k = absurd k
div_at (fin u m e) (fin v n d) s a t b B h k =
    go (eqb n 0) (eqb→eq n 0)
    ∙ (λ i. round binary64 (unlike (h.0 i) (k.0 i)) (m * up e * down d) (n * up d * down e))
    ∙ round_same binary64 (unlike s t) (m * up e * down d) (n * up d * down e) a b
    (mul-pos (subst (λ (x : ℕ). 0 < x) (sym (sym (mul-one (n * up d)) ∙ k.1)) (mul-pos B (down_pos d))) (down_pos e)) B
    (cross (m * up e) (n * up d) a b (down e) (down d) h.1 k.1)
  where
    quotient : Float
    quotient = round binary64 (unlike u v) (m * up e * down d) (n * up d * down e)

    go : (c : Bool) → (T c → n ≡ 0) → cond c (cond (eqb m 0) nan (inf (unlike u v))) quotient ≡ quotient
    go true z = absurd (not_nought n (up d) b (down d) B (down_pos d) k.1 (z tt))
    go false z = refl

alike : (s : Bool) → unlike s false ≡ s
alike true = refl
alike false = refl

pub div_whole : (n : ℤ) (d : ℕ) → 0 < d → nat_abs n ≤ 2 ^ 53 → d ≤ 2 ^ 53 → div binary64 (whole n) (whole (pos d)) ≡ frac n d
div_whole n d D N W =
    div_at (whole n) (whole (pos d)) (is_neg n) (nat_abs n) false d D (whole_val n N) (whole_val (pos d) W)
    ∙ ap (λ (s : Bool). round binary64 s (nat_abs n) d) (alike (is_neg n))
