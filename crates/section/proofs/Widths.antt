-- The widths of a section's strips, flange and web, and their sum. Assumes nothing.
use Prim.Native.Nat.{ℕ, ◌+◌, ◌*◌, ◌-◌, ◌≤◌, ◌<◌}
use mathlib.Core.Path.{◌≡◌, sym, ap, ◌∙◌}
use mathlib.Core.Logic.{⊎_elim}
use native.Mathlib.Nat as NatL
use native.Mathlib.Omega.{arith}
use borrow.Author.Tests.{lt-ltb, le-ltb}
use Rattle.arith.specs.Sums.{sum_n, after}
use Rattle.arith.specs.Lines.{Between}
use Rattle.arith.proofs.Tests.{less_or_not}
use Rattle.arith.proofs.Sums.{run_cut, run_flat, sum_most, sum_positive}
use Rattle.section.specs.declared.Section.{Section}
use Rattle.section.specs.Accepted.{Accepted}
use Rattle.section.specs.Has.{width_at, concrete_area}

module _ (s : Section) (i : ℕ) where
  pub flange_width_is : i < s.hf → width_at s i ≡ s.bf
  flange_width_is h = rw (lt-ltb i s.hf h)

  pub web_width : s.hf ≤ i → width_at s i ≡ s.b
  web_width h = rw (le-ltb i s.hf h)

module _ {s : Section} (a : Accepted s) where
  -- without a flange too
  pub flange_inside : s.hf ≤ s.h
  flange_inside = ⊎_elim (λ h. omega (arith, (a.flange h).0)) (λ h. omega arith) (less_or_not 0 s.hf)

  pub width_in : (i : ℕ) → Between s.b 2000 (width_at s i)
  width_in i =
      ⊎_elim
      (λ h. rw (flange_width_is s i h) (a.flange (omega arith)).1)
      (λ h. rw (web_width s i h) (omega arith, a.sizes.0.1))
      (less_or_not i s.hf)

  pub area_is : concrete_area s ≡ s.bf * s.hf + s.b * (s.h - s.hf)
  area_is =
      let f = width_at s in
      let all : sum_n (s.h - 0) (after 0 f) ≡ sum_n s.h f = λ j. sum_n (NatL.sub-zero s.h j) (λ i. f (NatL.zero-add i j)) in
      let flange : sum_n (s.hf - 0) (after 0 f) ≡ s.bf * (s.hf - 0) = run_flat f s.bf 0 (s.hf - 0) (λ i h k. flange_width_is s i (omega arith)) in
      let web : sum_n (s.h - s.hf) (after s.hf f) ≡ s.b * (s.h - s.hf) = run_flat f s.b s.hf (s.h - s.hf) (λ i h k. web_width s i h) in
      sym all ∙ run_cut f 0 s.hf s.h (omega arith) flange_inside ∙ (λ j. flange j + web j)
      ∙ ap (λ n. s.bf * n + s.b * (s.h - s.hf)) (NatL.sub-zero s.hf)

  pub area_some : 0 < concrete_area s
  area_some = sum_positive s.h (width_at s) (omega (arith, a.sizes.1.0)) (λ i h. omega (arith, (width_in i).0, a.sizes.0.0))

  pub area_most : concrete_area s ≤ 2000 * 1000
  area_most = omega (arith, sum_most s.h 2000 (width_at s) (λ i h. (width_in i).1), a.sizes.1.1)
