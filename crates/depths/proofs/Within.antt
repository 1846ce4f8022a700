-- The imbalance of a section at a depth, by bounds of its strips' force. Assumes nothing.
use Prim.Native.Nat.{ℕ, zero, suc, ◌+◌, ◌*◌, ◌-◌, ◌^◌, ◌≤◌, ◌<◌}
use mathlib.Core.Path.{◌≡◌, refl, sym, ap, ◌∙◌, subst}
use mathlib.Core.Bool.{true}
use mathlib.Core.Logic.{◌⊎◌, inl, inr, ⊎_elim}
use native.Mathlib.Nat as NatL
use native.Mathlib.Omega.{arith}
use lib.IntN.{ℤ, pos, nat_abs, ◌+ℤ◌, ◌-ℤ◌, ◌*ℤ◌}
use lib.Signed.{lt_z, ◌≤ℤ◌, ◌<ℤ◌}
use mir.Syntax.{w64}
use mir.Val.{to_z}
use borrow.Author.Tests.{lt-ltb, le-ltb}
use Rattle.arith.specs.Sums.{sum_z, after}
use Rattle.arith.proofs.Tests.{less_or_not}
use Rattle.arith.proofs.Sums.{signed_cut}
use Rattle.arith.proofs.Signed.{zarith, le_parts, parts_add, parts_minus, up_scale, dn_scale, mul_add, test_lt}
use Rattle.arith.proofs.Machine.{back, Stands, stands, stands_pos, stands_add, stands_sub, stands_mul, stored}
use Rattle.section.specs.declared.Section.{Section}
use Rattle.section.specs.Accepted.{Accepted}
use Rattle.section.specs.Has.{width_at, load_of}
use Rattle.section.proofs.Load.{load_held, load_in_m_n}
use Rattle.section.proofs.Widths.{flange_width_is, web_width, flange_inside}
use Rattle.law.specs.declared.Law.{Law}
use Rattle.law.specs.Law.{law_of}
use Rattle.strips.specs.declared.Axis.{Axis}
use Rattle.strips.specs.declared.Range.{Range}
use Rattle.strips.specs.Strips.{scale_of, strip_at}
use Rattle.strips.specs.Code.{Holds}
use Rattle.forces.specs.Forces.{strain_scale, strip_force, bar_force, forces, imbalance}
use Rattle.forces.proofs.Strips.{strip_is}
use Rattle.std.specs.Prelude.{Some}
use Rattle.std.specs.declared.cmp.Ordering.TheVariants.{Less, Greater}
use Rattle.std.specs.Cmp.{int_cmp_is}
use Rattle.depths.specs.declared.sign.Run.{Run}
use Rattle.depths.specs.declared.sign.Runs.{Runs}
use Rattle.depths.specs.Code.{most_run, most_bars, Lies, run_end, Summed, sign_of}
use Rattle.depths.specs.Runs.{NextRun}

-- ---- so many times a sum
scaled : (w n : ℕ) (f g : ℕ → ℤ) → ((i : ℕ) → i < n → f i ≡ pos w *ℤ g i) → sum_z n f ≡ pos w *ℤ sum_z n g
unfolding sum_z
scaled w zero f g h = sym (ap pos (NatL.mul-zero w))
scaled w (suc n) f g h = rw (scaled w n f g (λ i k. h i (omega arith)), h n (omega arith)) (sym (mul_add (pos w) (sum_z n g) (g n)))

scale_le : (w : ℕ) (x y : ℤ) → x ≤ℤ y → (pos w *ℤ x) ≤ℤ (pos w *ℤ y)
scale_le w x y h = omega (arith, zarith, up_scale w x, dn_scale w x, up_scale w y, dn_scale w y, NatL.mul-le-mul_left w (le_parts h))

-- ---- bounds that are computed: so many times those of a run, and the sum of two
module _ {w : ℕ} (wide : w ≤ 2000) (z : ℤ) (small : nat_abs z ≤ 4294967296) where
  pub times : Stands (to_z w64 w *ℤ back z) (pos w *ℤ z) most_run
  times = stands_mul (stands_pos w 2000 wide (omega arith)) (stored (stands z 4294967296 small) (omega arith))

pub run_lies :
    {w : ℕ} (wide : w ≤ 2000) (sum : ℤ) {r : Range} → Holds sum r
    → Lies (pos w *ℤ sum) most_run (record { low = back (to_z w64 w *ℤ back r.low); high = back (to_z w64 w *ℤ back r.high) })
run_lies {w} wide sum {r} b =
    let low = times wide r.low b.low_most in
    let high = times wide r.high b.high_most in
    rw ((stored low (omega arith)).is, (stored high (omega arith)).is)
    (record { above = scale_le w _ _ b.above; below = scale_le w _ _ b.below; low_most = low.most; high_most = high.most })

-- a sum of forces and one more
module _ {F G : ℤ} {m n : ℕ} {r t : Range} (b : Lies F m r) (c : Lies G n t) (room : m + n < 2 ^ 63) where
  low_stands : Stands (back r.low +ℤ back t.low) (r.low +ℤ t.low) (m + n)
  low_stands = stands_add (stored (stands r.low m b.low_most) (omega arith)) (stored (stands t.low n c.low_most) (omega arith))

  high_stands : Stands (back r.high +ℤ back t.high) (r.high +ℤ t.high) (m + n)
  high_stands = stands_add (stored (stands r.high m b.high_most) (omega arith)) (stored (stands t.high n c.high_most) (omega arith))

  both_lie : Lies (F +ℤ G) (m + n) (record { low = back (back r.low +ℤ back t.low); high = back (back r.high +ℤ back t.high) })
  both_lie =
      rw ((stored low_stands room).is, (stored high_stands room).is)
      (record {
        above = omega (arith, zarith, b.above, c.above, parts_add F G, parts_add r.low t.low);
        below = omega (arith, zarith, b.below, c.below, parts_add F G, parts_add r.high t.high);
        low_most = low_stands.most;
        high_most = high_stands.most;
      })

wider : {F : ℤ} {m n : ℕ} {r : Range} → m ≤ n → Lies F m r → Lies F n r
wider h b = record { above = b.above; below = b.below; low_most = omega (arith, b.low_most); high_most = omega (arith, b.high_most) }

-- ---- the runs: flange and web
module _ (s : Section) (from : ℕ) where
  pub one_width : (i : ℕ) → from ≤ i → i < run_end s from → width_at s i ≡ width_at s from
  one_width i h k =
      ⊎_elim (λ p. flange_width_is s i (rw (lt-ltb from s.hf p) at k) ∙ sym (flange_width_is s from p))
      (λ p. web_width s i (omega arith) ∙ sym (web_width s from p)) (less_or_not from s.hf)

  -- it ends at the flange's underside, where it began above it, or else at the section's
  pub run_ends : ((from < s.hf) × (run_end s from ≡ s.hf)) ⊎ ((s.hf ≤ from) × (run_end s from ≡ s.h))
  run_ends = ⊎_elim (λ p. inl (p, rw (lt-ltb from s.hf p))) (λ p. inr (p, rw (le-ltb from s.hf p))) (less_or_not from s.hf)

  pub run_longer : s.hf ≤ s.h → from < s.h → (from < run_end s from) × (run_end s from ≤ s.h)
  run_longer inside more = ⊎_elim (λ p. (omega (arith, p), omega (arith, p))) (λ p. (omega (arith, p), omega (arith, p))) run_ends

module _ {s : Section} {force : ℕ → ℤ} where
  pub summed_none : Summed s force 0 (record { low = pos 0; high = pos 0 })
  unfolding sum_z
  summed_none = record {
    runs = 0;
    two = omega arith;
    one = λ h. omega arith;
    none = λ h. refl;
    inside = omega arith;
    lies = record { above = omega (arith, zarith); below = omega (arith, zarith); low_most = omega arith; high_most = omega arith };
  }

  pub summed_all : {from : ℕ} {r : Range} → Summed s force from r → s.h ≤ from → Lies (sum_z s.h force) (most_run * 2) r
  summed_all {from} b h = let e : from ≡ s.h = omega (arith, b.inside) in rw e at (wider {n = most_run * 2} (omega (arith, b.two)) b.lies)

  -- one run more
  summed_next :
      {from end : ℕ} {r t : Range} {G : ℤ} → s.hf ≤ s.h → Summed s force from r → from < s.h → Lies G most_run t
      → end ≡ run_end s from → sum_z from force +ℤ G ≡ sum_z (run_end s from) force
      → Summed s force end (record { low = back (back r.low +ℤ back t.low); high = back (back r.high +ℤ back t.high) })
  summed_next {from} inside b more c is e =
      let ends = run_ends s from in
      rw is
      (record {
        runs = b.runs + 1;
        two = omega (arith, b.one more);
        one = λ k. ⊎_elim (λ p. omega (arith, b.none p.0)) (λ p. absurd (omega (arith, p.1))) ends;
        none = λ k. ⊎_elim (λ p. absurd (omega (arith, p.1))) (λ p. absurd (omega (arith, p.1))) ends;
        inside = (run_longer s from inside more).1;
        lies = rw (← e) (wider (omega arith) (both_lie b.lies c (omega (arith, b.one more))));
      })

-- ---- the strips' force: a run of strips of one width, and all of them
module _ {s : Section} (ok : Accepted s) {l : Law} (law : l ≡ law_of s) (a : Axis) (scale : scale_of a ≡ strain_scale (law_of s) a.x) where
  abbrev force : ℕ → ℤ
  force = strip_force (law_of s) s a.x

  run_is : (w from to : ℕ) → from ≤ to → ((i : ℕ) → from ≤ i → i < to → width_at s i ≡ w)
      → sum_z (to - from) (after from force) ≡ pos w *ℤ sum_z (to - from) (after from (strip_at l a))
  unfolding strip_force
  run_is w from to h wide =
      scaled w (to - from) _ _ (λ i k. (λ j. pos (wide (from + i) (omega arith) (omega arith) j) *ℤ sym (strip_is s l a ok law scale (from + i)) j))

  whole : (n : ℕ) → sum_z (n - 0) (after 0 force) ≡ sum_z n force
  whole n = λ j. sum_z (NatL.sub-zero n j) (λ i. force (NatL.zero-add i j))

  -- the strips before a run and those of it
  pub run_on : (from to : ℕ) → from ≤ to → ((i : ℕ) → from ≤ i → i < to → width_at s i ≡ width_at s from)
      → sum_z from force +ℤ (pos (width_at s from) *ℤ sum_z (to - from) (after from (strip_at l a))) ≡ sum_z to force
  run_on from to h wide =
      (λ j. sym (whole from) j +ℤ sym (run_is (width_at s from) from to h wide) j)
      ∙ sym (signed_cut force 0 from to (omega arith) h) ∙ whole to

  -- the next run of strips, and where its force lies
  module _ {w v : Runs} {run : Run} (of : w.section ≡ s) (next : NextRun w (Some run) v) where
    longer : (w.from < run_end s w.from) × (run_end s w.from ≤ s.h)
    longer = run_longer s w.from (flange_inside ok) (rw of at next.1.0)

    pub summed_run :
        {r t : Range} → Summed s force w.from r → Lies (pos run.width *ℤ sum_z (run.end - run.from) (after run.from (strip_at l a))) most_run t
        → Summed s force v.from (record { low = back (back r.low +ℤ back t.low); high = back (back r.high +ℤ back t.high) })
    summed_run {r} {t} b lies =
        let p = (rw of at next).1 in
        summed_next (flange_inside ok) b p.0
        (subst (λ z. Lies z most_run t) (λ j. pos (p.2 j) *ℤ sum_z (p.3 j - p.1 j) (after (p.1 j) (strip_at l a))) lies)
        (p.4 ∙ p.3) (run_on w.from (run_end s w.from) (omega (arith, longer.0)) (one_width s w.from))

-- ---- the code's steps: bars less the load, and a bound of the strips' force with them
module _ {s : Section} (ok : Accepted s) (B : ℤ) (few : nat_abs B ≤ most_bars) where
  abbrev loadLess : ℤ
  loadLess = back B -ℤ back (pos 1000 *ℤ back (load_held s))

  pub rest : Stands loadLess (B -ℤ load_of s) (most_bars + 1000 * 10000000)
  rest = stands_sub (stored (stands B most_bars few) (omega arith)) (stored (load_in_m_n ok) (omega arith))

  pub bounded : (z : ℤ) → nat_abs z ≤ most_run * 2 → Stands (back z +ℤ back loadLess) (z +ℤ (B -ℤ load_of s)) (most_run * 2 + (most_bars + 1000 * 10000000))
  bounded z small = stands_add (stored (stands z (most_run * 2) small) (omega arith)) (stored rest (omega arith))

-- ---- the sign of the imbalance by a bound on one side of zero
module _ (s : Section) (x : ℕ) {B : ℤ} (bars : B ≡ sum_z s.count (bar_force (law_of s) s x)) (F : ℤ) (all : F ≡ sum_z s.h (strip_force (law_of s) s x)) where
  total : (F +ℤ B) -ℤ load_of s ≡ imbalance s x
  unfolding imbalance forces
  total = λ i. (all i +ℤ bars i) -ℤ load_of s

  pub is_below : (z : ℤ) → F ≤ℤ z → lt_z (z +ℤ (B -ℤ load_of s)) (pos 0) ≡ true → Less ≡ sign_of (imbalance s x)
  is_below z h t =
      let e : (z +ℤ (B -ℤ load_of s)) <ℤ pos 0 = test_lt t in
      let lies : ((F +ℤ B) -ℤ load_of s) <ℤ pos 0 =
      omega (arith, zarith, h, parts_add F B, parts_minus (F +ℤ B) (load_of s), parts_minus B (load_of s), parts_add z (B -ℤ load_of s)) in
      int_cmp_is (imbalance s x) (pos 0) Less (rw total at lies)

  pub is_above : (z : ℤ) → z ≤ℤ F → lt_z (pos 0) (z +ℤ (B -ℤ load_of s)) ≡ true → Greater ≡ sign_of (imbalance s x)
  is_above z h t =
      let e : pos 0 <ℤ (z +ℤ (B -ℤ load_of s)) = test_lt t in
      let lies : pos 0 <ℤ ((F +ℤ B) -ℤ load_of s) =
      omega (arith, zarith, h, parts_add F B, parts_minus (F +ℤ B) (load_of s), parts_minus B (load_of s), parts_add z (B -ℤ load_of s)) in
      int_cmp_is (imbalance s x) (pos 0) Greater (rw total at lies)
