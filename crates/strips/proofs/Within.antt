-- The sum over a run of strips lies within its bounds, of every law and axis. Assumes nothing.
use Prim.Native.Nat.{ℕ, zero, suc, ◌+◌, ◌*◌, ◌-◌, ◌≤◌, ◌<◌}
use Rattle.std.proofs.Common.{min, max}
use mathlib.Core.Path.{◌≡◌, refl, sym, ap, ◌∙◌}
use mathlib.Core.Bool.{Bool, true, false, cond}
use native.Mathlib.Omega.{arith}
use lib.Dec.{leb}
use lib.IntN.{ℤ, pos, neg_ℤ, nat_abs, ◌+ℤ◌, ◌-ℤ◌}
use lib.Signed.{◌≤ℤ◌}
use mir.Syntax.{w64}
use mir.Val.{to_z}
use borrow.Author.Rules.{rules}
use borrow.Author.Tests.{le-leb, lt-leb}
use Rattle.arith.specs.Sums.{sum_n, sum_z, after}
use Rattle.arith.proofs.Sums.{sum_most, signed_most, signed_cut}
use Rattle.arith.proofs.Signed.{zarith, parts_add, parts_minus, up_neg, dn_neg, abs_parts}
use Rattle.arith.proofs.Machine.{back, Stands, stands_pos, stands_add, stands_sub, stored}
use Rattle.arith.proofs.Tests.{Decides, is_less, is_most, is_both}
use Rattle.law.specs.declared.Law.{Law}
use Rattle.law.specs.Stress.{signed}
use Rattle.law.proofs.Sides.{signed_add}
use Rattle.strips.specs.declared.Axis.{Axis}
use Rattle.strips.specs.declared.Bound.{Bound}
use Rattle.strips.specs.declared.Range.{Range}
use Rattle.strips.specs.Strips.{strip_size, strip_at}
use Rattle.strips.specs.Bounds.{fits, pressed_bound, pulled_bound, apart, sides, closed_bounds, unknown, bounds_of}
use Rattle.strips.specs.Code.{Near, Fit, Holds}
use Rattle.strips.proofs.Runs.{size_most, strip_most}
use Rattle.strips.proofs.Cutting.{above, below}
use Rattle.strips.proofs.Pressing.{pressed_near, pressed_few}
use Rattle.strips.proofs.Pulling.{pulled_near, pulled_few}

-- ---- what the test of sizes decides
pub fits_is : (l : Law) (a : Axis) (to : ℕ) → Decides (fits l a to) (Fit l a to)
fits_is l a to =
    let axis = is_both (is_both (is_both (is_both (is_less 0 a.over) (is_most a.over 22000)) (is_less 0 a.unit)) (is_most a.unit 50)) (is_most a.x 2000) in
    let stresses =
    is_both (is_both (is_both (is_both (is_both axis (is_most to 2000)) (is_most l.fcd 28333)) (is_most l.s1 10000)) (is_most l.s2 10000))
    (is_most l.s3 10000) in
    let all = is_both (is_both (is_both (is_both stresses (is_less 0 l.e1)) (is_less l.e1 l.e2)) (is_less l.e2 l.e3)) (is_most l.e3 25000) in (
      λ e.
          let h = all.0 e in
          record {
            axis = record { over = (omega arith, omega arith); unit = (omega arith, omega arith); x = omega arith };
            few = omega arith;
            lines = record { first = omega arith; second = omega arith; third = omega arith };
            fcd = omega arith;
            s1 = omega arith;
            s2 = omega arith;
            s3 = omega arith;
            e3 = omega arith;
          },
      λ f. let k = f.lines in all.1 (search rules),
    )

-- ---- a run of strips on one side
one_side : (f : ℕ → ℤ) (g : ℕ → ℕ) (from n : ℕ) (pulls : Bool) → ((i : ℕ) → from ≤ i → i < from + n → f i ≡ signed pulls (g i))
    → sum_z n (after from f) ≡ signed pulls (sum_n n (after from g))
unfolding sum_z sum_n
one_side f g from zero true h = refl
one_side f g from zero false h = refl
one_side f g from (suc n) pulls h =
    rw (one_side f g from n pulls (λ i p q. h i p (omega arith)), h (from + n) (omega arith) (omega arith))
    (sym (signed_add pulls (sum_n n (after from g)) (g (from + n))))

-- ---- a closed sum, of a size that the code has room for
pub record Closes (sum : ℕ) (b : Bound) : Type 0 where
  pub near : Near sum b.rounded b.most
  pub few : b.rounded ≤ 2000
  pub most : b.most ≤ 140000000

-- what the code answers for one
pub as_closed : {S : ℕ} {b d : Bound} → b ≡ d → Closes S d → (b ≡ d) × (b.most ≤ 140000000) × (b.rounded ≤ 2000)
as_closed e k = (e, rw e k.most, rw e k.few)

small : (l : Law) (a : Axis) (pulls : Bool) (from n : ℕ) → n ≤ 2000 → sum_n n (after from (strip_size l pulls a)) ≤ 65536 * 2000
small l a pulls from n k = omega (arith, sum_most n 65536 (after from (strip_size l pulls a)) (λ i h. size_most l pulls a (from + i)))

module _ {l : Law} {a : Axis} {to : ℕ} (fit : Fit l a to) {from mid : ℕ} (h : from ≤ to) (e : mid ≡ max from (min a.x to)) where
  pub push : Closes (sum_n (mid - from) (after from (strip_size l false a))) (pressed_bound l a (a.x - to) (a.x - from))
  push =
      let order : a.x - to ≤ a.x - from = omega arith in
      let near = rw (above fit h e) at (pressed_near fit order) in
      let few = pressed_few fit order (omega (arith, fit.axis.x)) in
      record { near = near; few = few; most = omega (arith, near.rest, few, small l a false from (mid - from) (omega (arith, fit.few))) }

  pub pull : Closes (sum_n (to - mid) (after mid (strip_size l true a))) (pulled_bound l a (from - a.x) (to - a.x))
  pull =
      let order : from - a.x ≤ to - a.x = omega arith in
      let near = rw (below fit h e) at (pulled_near fit order) in
      let few = pulled_few fit order (omega (arith, fit.few)) in
      record { near = near; few = few; most = omega (arith, near.rest, few, small l a true mid (to - mid) (omega (arith, fit.few))) }

-- ---- both sides
module _ (l : Law) (a : Axis) {from to mid : ℕ} (h : from ≤ to) (e : mid ≡ max from (min a.x to)) where
  side : (i : ℕ) (pulls : Bool) → leb a.x i ≡ pulls → strip_at l a i ≡ signed pulls (strip_size l pulls a i)
  side i pulls t = ap (λ b. signed b (strip_size l b a i)) t

  parted :
      sum_z (to - from) (after from (strip_at l a))
      ≡ pos (sum_n (mid - from) (after from (strip_size l false a))) +ℤ neg_ℤ (pos (sum_n (to - mid) (after mid (strip_size l true a))))
  parted =
      let up = one_side (strip_at l a) (strip_size l false a) from (mid - from) false (λ i p q. side i false (lt-leb a.x i (omega arith))) in
      let down = one_side (strip_at l a) (strip_size l true a) mid (to - mid) true (λ i p q. side i true (le-leb a.x i (omega arith))) in
      signed_cut (strip_at l a) from mid to (omega arith) (omega arith) ∙ (λ j. up j +ℤ down j)

lies : {P Q : ℕ} {p q : Bound} → Near P p.rounded p.most → Near Q q.rounded q.most
    → ((sides p q).low ≤ℤ (pos P +ℤ neg_ℤ (pos Q))) × ((pos P +ℤ neg_ℤ (pos Q)) ≤ℤ (sides p q).high)
lies {P} {Q} {p} {q} h k =
    let z : ℤ = apart p q in
    let sum = parts_add (pos P) (neg_ℤ (pos Q)) in
    let less = up_neg (pos Q) in
    let more = dn_neg (pos Q) in
    let both = parts_minus (pos p.most) (pos q.most) in (
      omega (arith, zarith, parts_minus z (pos p.rounded)),
      omega (arith, zarith, parts_add z (pos q.rounded)),
    )

-- each step of the code, with the most that it can be
abbrev between : Bound → Bound → ℤ
between p q = to_z w64 p.most -ℤ to_z w64 q.most

pub record Steps (p q : Bound) : Type 0 where
  pub apart : Stands (between p q) (apart p q) (140000000 + 140000000)
  pub low : Stands (back (between p q) -ℤ to_z w64 p.rounded) (sides p q).low (140000000 + 140000000 + 2000)
  pub high : Stands (back (between p q) +ℤ to_z w64 q.rounded) (sides p q).high (140000000 + 140000000 + 2000)

pub steps : (p q : Bound) → (p.most ≤ 140000000) × (p.rounded ≤ 2000) → (q.most ≤ 140000000) × (q.rounded ≤ 2000) → Steps p q
steps p q h k =
    let apart = stands_sub (stands_pos p.most 140000000 h.0 (omega arith)) (stands_pos q.most 140000000 k.0 (omega arith)) in
    record {
      apart = apart;
      low = stands_sub (stored apart (omega arith)) (stands_pos p.rounded 2000 h.1 (omega arith));
      high = stands_add (stored apart (omega arith)) (stands_pos q.rounded 2000 k.1 (omega arith));
    }

module _ {l : Law} {a : Axis} {from to : ℕ} (fit : Fit l a to) (h : from ≤ to) where
  closed_hold : Holds (sum_z (to - from) (after from (strip_at l a))) (closed_bounds l a from to)
  closed_hold =
      let p = push fit h refl in
      let q = pull fit h refl in
      let s = steps _ _ (p.most, p.few) (q.most, q.few) in
      let w = lies p.near q.near in
      rw (parted l a h refl) record { above = w.0; below = w.1; low_most = omega (arith, s.low.most); high_most = omega (arith, s.high.most) }

-- ---- of any law, axis and run
unknown_hold : (z : ℤ) → nat_abs z ≤ 4294967296 → Holds z unknown
unknown_hold z h =
    let size = abs_parts z in
    record {
      above = omega (arith, zarith, up_neg (pos 4294967296), dn_neg (pos 4294967296));
      below = omega (arith, zarith);
      low_most = omega arith;
      high_most = omega arith;
    }

pub bounds_hold : (l : Law) (a : Axis) (from to : ℕ) → from ≤ to → to ≤ 65535 → Holds (sum_z (to - from) (after from (strip_at l a))) (bounds_of l a from to)
unfolding bounds_of
bounds_hold l a from to h few =
    let S : ℤ = sum_z (to - from) (after from (strip_at l a)) in
    let in_order : min from to ≡ from = omega arith in
    let size : nat_abs S ≤ 65536 * (to - from) =
    signed_most (to - from) 65536 (after from (strip_at l a)) (λ i. strip_most l a (from + i) (leb a.x (from + i))) in
    rw in_order (pick (fits l a to) (λ t. closed_hold ((fits_is l a to).0 t) h) (unknown_hold S (omega arith)))
  where
    pick : {S : ℤ} {b c : Range} (t : Bool) → (t ≡ true → Holds S b) → Holds S c → Holds S (cond t b c)
    pick true y n = y refl
    pick false y n = n

-- ---- what the code answers
module _ (l : Law) (a : Axis) (from to : ℕ) where
  pub is_unknown : fits l a to ≡ false → unknown ≡ bounds_of l a from to
  unfolding bounds_of
  is_unknown t = rw t

  pub is_closed : fits l a to ≡ true → closed_bounds l a (min from to) to ≡ bounds_of l a from to
  unfolding bounds_of
  is_closed t = rw t
