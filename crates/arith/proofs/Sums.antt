-- Sums and products of n terms: a term at a time, how large they get, what divides them. Assumes nothing.
use Prim.Native.Nat.{ℕ, zero, suc, ◌+◌, ◌*◌, ◌-◌, ◌^◌, ◌≤◌, ◌<◌, ◌∣◌}
use mathlib.Core.Path.{◌≡◌, refl, sym, ap, ◌∙◌}
use mathlib.Core.Logic.{⊎_elim}
use native.Mathlib.Nat as NatL
use native.Mathlib.Numerals.{add-one}
use native.Mathlib.Omega.{arith}
use lib.IntN.{ℤ, pos, nat_abs, ◌+ℤ◌, +ℤ_idr, +ℤ_assoc}
use mir.Syntax.{w64}
use mir.Val.{SFits}
use Rattle.arith.specs.Sums.{sum_n, sum_z, after}
use Rattle.arith.proofs.Signed.{abs_add}
use Rattle.arith.proofs.Machine.{back, Stands, stands, stands_add, stands_fits, stored, returned, stands_for}

pub sum_next : (f : ℕ → ℕ) (n : ℕ) → sum_n (n + 1) f ≡ sum_n n f + f n
unfolding sum_n
sum_next f n = rw add-one

runs_joined : (f : ℕ → ℕ) (from m n : ℕ) → sum_n (m + n) (after from f) ≡ sum_n m (after from f) + sum_n n (after (from + m) f)
unfolding sum_n
runs_joined f from m zero = rw (NatL.add-zero m) (sym (NatL.add-zero (sum_n m (after from f))))
runs_joined f from m (suc n) = rw (NatL.add-suc m n, runs_joined f from m n, ← NatL.add_assoc from m n) (NatL.add_assoc (sum_n m (after from f)) (sum_n n (after (from + m) f)) (f (from + m + n)))

-- a run, cut in two
pub run_cut : (f : ℕ → ℕ) (from mid to : ℕ) → from ≤ mid → mid ≤ to → sum_n (to - from) (after from f) ≡ sum_n (mid - from) (after from f) + sum_n (to - mid) (after mid f)
run_cut f from mid to h k =
    ap (λ n. sum_n n (after from f)) (omega arith) ∙ runs_joined f from (mid - from) (to - mid)
    ∙ ap (λ n. sum_n (mid - from) (after from f) + sum_n (to - mid) (after n f)) (omega arith)

-- a run of terms that are alike
pub run_flat : (f : ℕ → ℕ) (c from n : ℕ) → ((i : ℕ) → from ≤ i → i < from + n → f i ≡ c) → sum_n n (after from f) ≡ c * n
unfolding sum_n
run_flat f c from zero h = sym (NatL.mul-zero c)
run_flat f c from (suc n) h = rw (run_flat f c from n (λ i p q. h i p (omega arith)), h (from + n) (omega arith) (omega arith)) (sym (NatL.mul-suc c n))

-- n terms that are alike
pub sum_alike : (n c : ℕ) → sum_n n (λ i. c) ≡ c * n
sum_alike n c = run_flat (λ i. c) c 0 n (λ i p q. refl)

-- a run of none
pub run_nil : (f : ℕ → ℕ) (from to : ℕ) → ((i : ℕ) → from ≤ i → i < to → f i ≡ 0) → 0 ≡ sum_n (to - from) (after from f)
run_nil f from to h = sym (run_flat f 0 from (to - from) (λ i p q. h i p (omega arith)) ∙ NatL.zero-mul (to - from))

-- ---- two sums, term by term
pub sum_same : (f g : ℕ → ℕ) (n : ℕ) → ((i : ℕ) → i < n → f i ≡ g i) → sum_n n f ≡ sum_n n g
unfolding sum_n
sum_same f g zero h = refl
sum_same f g (suc n) h = rw (sum_same f g n (λ i k. h i (omega arith)), h n (omega arith))

pub sum_under : (f g : ℕ → ℕ) (n : ℕ) → ((i : ℕ) → i < n → f i ≤ g i) → sum_n n f ≤ sum_n n g
unfolding sum_n
sum_under f g zero h = omega arith
sum_under f g (suc n) h = omega (arith, sum_under f g n (λ i k. h i (omega arith)), h n (omega arith))

pub run_same : (f g : ℕ → ℕ) (from to : ℕ) → ((i : ℕ) → from ≤ i → i < to → f i ≡ g i) → sum_n (to - from) (after from f) ≡ sum_n (to - from) (after from g)
run_same f g from to h = sum_same (after from f) (after from g) (to - from) (λ i k. h (from + i) (omega arith) (omega arith))

-- the same terms, from the last to the first
pub sum_first : (n : ℕ) (f : ℕ → ℕ) → sum_n (suc n) f ≡ f 0 + sum_n n (λ i. f (suc i))
unfolding sum_n
sum_first zero f = omega arith
sum_first (suc n) f = omega (arith, sum_first n f)

pub sum_back : (n : ℕ) (f g : ℕ → ℕ) → ((i : ℕ) → i < n → f (n - 1 - i) ≡ g i) → sum_n n g ≡ sum_n n f
unfolding sum_n
sum_back zero f g h = refl
sum_back (suc n) f g h =
    let first : f n ≡ g 0 = ap f (omega arith) ∙ h 0 (omega arith) in
    omega (arith, sum_first n g, sum_back n f (λ i. g (suc i)) (λ i k. ap f (omega arith) ∙ h (suc i) (omega arith)))

-- ---- how large a sum gets
pub sum_most : (n B : ℕ) (f : ℕ → ℕ) → ((i : ℕ) → i < n → f i ≤ B) → sum_n n f ≤ B * n
sum_most n B f h = omega (arith, sum_under f (λ i. B) n h, sum_alike n B)

-- no term is larger
pub sum_holds : (n : ℕ) (f : ℕ → ℕ) (i : ℕ) → i < n → f i ≤ sum_n n f
unfolding sum_n
sum_holds zero f i h = absurd (omega arith)
sum_holds (suc n) f i h = ⊎_elim (λ e. rw e (omega arith)) (λ k. omega (arith, sum_holds n f i k)) (NatL.eq-or-lt_of_le {n = i} {m = n} (omega arith))

-- ---- signed sums: how large they get; a run, cut in two
pub signed_most : (n B : ℕ) (f : ℕ → ℤ) → ((i : ℕ) → nat_abs (f i) ≤ B) → nat_abs (sum_z n f) ≤ B * n
unfolding sum_z
signed_most zero B f h = omega arith
signed_most (suc n) B f h = omega (arith, signed_most n B f h, h n, abs_add (sum_z n f) (f n), NatL.mul-suc B n)

signed_joined : (f : ℕ → ℤ) (from m n : ℕ) → sum_z (m + n) (after from f) ≡ sum_z m (after from f) +ℤ sum_z n (after (from + m) f)
unfolding sum_z
signed_joined f from m zero = rw (NatL.add-zero m) (sym (+ℤ_idr (sum_z m (after from f))))
signed_joined f from m (suc n) = rw (NatL.add-suc m n, signed_joined f from m n, ← NatL.add_assoc from m n) (+ℤ_assoc (sum_z m (after from f)) (sum_z n (after (from + m) f)) (f (from + m + n)))

pub signed_cut : (f : ℕ → ℤ) (from mid to : ℕ) → from ≤ mid → mid ≤ to → sum_z (to - from) (after from f) ≡ sum_z (mid - from) (after from f) +ℤ sum_z (to - mid) (after mid f)
signed_cut f from mid to h k =
    ap (λ n. sum_z n (after from f)) (omega arith) ∙ signed_joined f from (mid - from) (to - mid)
    ∙ ap (λ n. sum_z (mid - from) (after from f) +ℤ sum_z (to - mid) (after n f)) (omega arith)

-- ---- a signed sum that a loop adds up: z stands for the sum of the first n terms, each of a size of at most B
pub record Running (f : ℕ → ℤ) (B n : ℕ) (z : ℤ) : Type 0 where
  pub sum : Stands z (sum_z n f) (B * n)

pub running_none : (f : ℕ → ℤ) (B : ℕ) → Running f B 0 (pos 0)
unfolding sum_z
running_none f B = record { sum = stands (pos 0) (B * 0) (omega arith) }

module _ {f : ℕ → ℤ} {B n : ℕ} {z : ℤ} (h : Running f B n z) (r : ℤ) (is : r ≡ f n) (most : nat_abs r ≤ B) (room : B * (n + 1) < 2 ^ 63) where
  more : Stands (z +ℤ back r) (sum_z (n + 1) f) (B * (n + 1))
  unfolding sum_z
  more = rw (add-one, NatL.mul-suc B n) (stands_add h.sum (returned B is most (omega (arith, NatL.mul-add B n 1))))

  pub running_fits : SFits w64 (z +ℤ back r)
  running_fits = stands_fits more room

  pub running_next : Running f B (n + 1) (back (z +ℤ back r))
  running_next = record { sum = stored more room }

pub running_all : {f : ℕ → ℤ} {B n : ℕ} {z : ℤ} (m M : ℕ) → Running f B n z → n ≡ m → m ≤ M → (z ≡ sum_z m f) × (nat_abs z ≤ B * M)
running_all {f} {B} {n} m M h e k =
    let s = stands_for h.sum in
    (s.0 ∙ ap (λ i. sum_z i f) e, omega (arith, s.1, ap (λ i. B * i) e, NatL.mul-le-mul_left B k))

-- ---- where the terms are positive; a product, and that each factor divides it
pub sum_positive : (n : ℕ) (f : ℕ → ℕ) → 0 < n → ((i : ℕ) → i < n → 0 < f i) → 0 < sum_n n f
unfolding sum_n
sum_positive zero f some h = absurd (omega arith)
sum_positive (suc n) f some h = omega (arith, h n (omega arith))

unfoldable pub prod_n : ℕ → (ℕ → ℕ) → ℕ
prod_n zero f = 1
prod_n (suc n) f = prod_n n f * f n

pub prod_positive : (n : ℕ) (f : ℕ → ℕ) → ((i : ℕ) → i < n → 0 < f i) → 0 < prod_n n f
unfolding prod_n
prod_positive zero f h = omega arith
prod_positive (suc n) f h = NatL.mul-pos (prod_positive n f (λ i k. h i (omega arith))) (h n (omega arith))

pub factor_divides : (n : ℕ) (f : ℕ → ℕ) (i : ℕ) → i < n → f i ∣ prod_n n f
unfolding prod_n
factor_divides zero f i h = absurd (omega arith)
factor_divides (suc n) f i h =
    ⊎_elim (λ e. rw e (NatL.dvd-mul_left (f n) (prod_n n f))) (λ k. NatL.dvd-mul_right_of_dvd (f i) (factor_divides n f i k) (f n))
    (NatL.eq-or-lt_of_le {n = i} {m = n} (omega arith))
