-- The walk from one listed depth to the next, by the signs. Assumes nothing.
use Prim.Native.Nat.{ℕ, zero, suc, ◌+◌, ◌≤◌, ◌<◌}
use mathlib.Core.Path.{◌≡◌, refl, sym, ap, ◌∙◌}
use mathlib.Core.Bool.{true, false}
use mathlib.Core.Logic.{◌⊎◌, inl, inr, ⊎_elim}
use native.Mathlib.Nat as NatL
use native.Mathlib.Omega.{arith}
use lib.IntN.{pos}
use borrow.Author.Tests.{ne_eqb}
use Rattle.std.specs.Prelude.{Option, None, Some}
use Rattle.std.specs.declared.cmp.Ordering.{Ordering}
use Rattle.std.specs.declared.cmp.Ordering.TheVariants.{Less, Equal, Greater}
use Rattle.std.specs.Ordering.{is_eq}
use Rattle.std.proofs.lemmas.Cmp.{int_ranked}
use Rattle.section.specs.declared.Section.{Section}
use Rattle.section.specs.Has.{last_depth}
use Rattle.forces.specs.Forces.{imbalance}
use Rattle.depths.specs.declared.Kind.TheVariants.{Zero, Pair}
use Rattle.depths.specs.Depths.{opposite, kind_at}
use Rattle.depths.specs.Code.{sign_of, sign_looked, opposed, open_from, NoneTo, Walked, Next}
use Rattle.depths.specs.declared.walk.Walk.{Walk}
use Rattle.depths.proofs.Sided.{opposite_signs, kind_one, kind_two, kind_none, kind_last}

-- ---- a sign that lies on a side of zero, and what is open after it
abbrev Beside : Option Ordering → Type 0
Beside b = (p : Ordering) × (b ≡ Some p) × (is_eq p ≡ false)

open_cases : (i : ℕ) (b : Option Ordering) → (open_from i b ≡ i + 1) ⊎ ((open_from i b ≡ i) × Beside b)
open_cases i None = inl refl
open_cases i (Some Less) = inr (refl, (Less, refl, refl))
open_cases i (Some Equal) = inl refl
open_cases i (Some Greater) = inr (refl, (Greater, refl, refl))

pub open_most : (i : ℕ) (b : Option Ordering) → open_from i b ≤ i + 1
open_most i b = ⊎_elim (λ e. omega (arith, e)) (λ k. omega (arith, k.0)) (open_cases i b)

open_side : (i : ℕ) (p : Ordering) → is_eq p ≡ false → open_from i (Some p) ≡ i
open_side i Less e = refl
open_side i Equal e = cc
open_side i Greater e = refl

open_zero : (i : ℕ) (p : Ordering) → is_eq p ≡ true → open_from i (Some p) ≡ i + 1
open_zero i Less e = cc
open_zero i Equal e = refl
open_zero i Greater e = cc

-- only such a sign is opposite to another one
opposed_beside : (b : Option Ordering) (q : Ordering) → opposed b q ≡ true → Beside b × (is_eq q ≡ false)
opposed_beside None q e = cc
opposed_beside (Some Less) Less e = cc
opposed_beside (Some Less) Equal e = cc
opposed_beside (Some Less) Greater e = ((Less, refl, refl), refl)
opposed_beside (Some Equal) Less e = cc
opposed_beside (Some Equal) Equal e = cc
opposed_beside (Some Equal) Greater e = cc
opposed_beside (Some Greater) Less e = ((Greater, refl, refl), refl)
opposed_beside (Some Greater) Equal e = cc
opposed_beside (Some Greater) Greater e = cc

-- nothing is opposite to zero
unopposed : (b : Option Ordering) (q : Ordering) → is_eq q ≡ true → opposed b q ≡ false
unopposed None q e = refl
unopposed (Some p) Less e = cc
unopposed (Some Less) Equal e = refl
unopposed (Some Equal) Equal e = refl
unopposed (Some Greater) Equal e = refl
unopposed (Some p) Greater e = cc

-- ---- a depth that was looked at
module _ (s : Section) where
  looked_at : (i : ℕ) {p : Ordering} → Some p ≡ sign_looked s i → p ≡ sign_of (imbalance s i)
  looked_at zero e = cc
  looked_at (suc i) e = let k = rw (ne_eqb (suc i) 0 (λ z. omega arith)) at e in cc

  looked_next : (i : ℕ) {p : Ordering} → p ≡ sign_of (imbalance s (i + 1)) → Some p ≡ sign_looked s (i + 1)
  looked_next i e = rw (ne_eqb (i + 1) 0 (λ z. omega arith)) (ap Some e)

  -- zero itself, or not
  is_zero : (x : ℕ) (p : Ordering) → p ≡ sign_of (imbalance s x) → is_eq p ≡ true → imbalance s x ≡ pos 0
  is_zero x Less e h = cc
  is_zero x Equal e h = int_ranked _ (pos 0) Equal e
  is_zero x Greater e h = cc

  not_zero : (x : ℕ) (p : Ordering) → p ≡ sign_of (imbalance s x) → is_eq p ≡ false → imbalance s x ≡ pos 0 → ⊥
  not_zero x p e h z = let k : is_eq p ≡ true = rw (e, z) in cc

-- ---- the walk
pub walked_none : (s : Section) (looked : ℕ) (sign : Option Ordering) → Walked s (open_from looked sign) looked sign
walked_none s looked sign = record { on = omega arith; none = λ x low high. absurd (omega arith) }

module _ {s : Section} {from i : ℕ} {before : Option Ordering} (w : Walked s from i before) (there : before ≡ sign_looked s i) where
  -- where the last depth that was looked at has no kind, if its kind was open, there is none up to the next
  further : ((p : Ordering) → p ≡ sign_of (imbalance s i) → before ≡ Some p → is_eq p ≡ false → kind_at s i ≡ 0) → NoneTo s from (i + 1)
  further here x low high =
      ⊎_elim (λ e. w.none x low (omega (arith, e)))
      (λ k.
      ⊎_elim (λ e. rw e (here k.1.0 (looked_at s i (sym k.1.1 ∙ there)) k.1.1 k.1.2)) (λ less. w.none x low (omega (arith, k.0)))
      (NatL.eq-or-lt_of_le {n = x} {m = i} (omega arith)))
      (open_cases i before)

  -- at the grid's end
  kinds_end : i ≡ last_depth s → NoneTo s from (i + 1)
  kinds_end all = further (λ p is at side. kind_last s i (not_zero s i p is side) (omega arith))

  -- one depth more, and the sign there
  module _ (more : i < last_depth s) {here : Ordering} (is : here ≡ sign_of (imbalance s (i + 1))) where
    signs : (p : Ordering) → p ≡ sign_of (imbalance s i) → before ≡ Some p → opposite (imbalance s i) (imbalance s (i + 1)) ≡ opposed before here
    signs p e at = opposite_signs (imbalance s i) (imbalance s (i + 1)) ∙ (λ j. opposed (Some (sym e j)) (sym is j)) ∙ ap (λ b. opposed b here) (sym at)

    none_there : opposed before here ≡ false → NoneTo s from (i + 1)
    none_there h = further (λ p e at side. kind_none s i (not_zero s i p e side) more (signs p e at ∙ h))

    one_next : is_eq here ≡ true → Next s from (record { depth = i + 1; kind = Zero }) (i + 1) (Some here)
    one_next e = record {
      on = omega (arith, w.on, open_most i before);
      inside = omega arith;
      none = none_there (unopposed before here e);
      kind = sym (kind_one s (i + 1) (is_zero s (i + 1) here is e));
      on_from = open_zero (i + 1) here e;
      last = refl;
    }

    two_next : opposed before here ≡ true → Next s from (record { depth = i; kind = Pair }) (i + 1) (Some here)
    two_next e =
        let b = opposed_beside before here e in
        let opens : open_from i before ≡ i = rw b.0.1 (open_side i b.0.0 b.0.2) in
        record {
          on = omega (arith, w.on, opens);
          inside = omega arith;
          none = λ x low high. w.none x low (omega (arith, opens));
          kind = sym (kind_two s i more (signs b.0.0 (looked_at s i (sym b.0.1 ∙ there)) b.0.1 ∙ e));
          on_from = open_side (i + 1) here b.1;
          last = refl;
        }

    walked_on : is_eq here ≡ false → opposed before here ≡ false → Walked s from (i + 1) (Some here)
    walked_on side h =
        let opens = open_side (i + 1) here side in
        record { on = omega (arith, w.on, open_most i before, opens); none = λ x low high. none_there h x low (omega (arith, opens)) }

-- ---- the code's steps: the walk over a section, when the next depth is looked at
module _ {s : Section} {from : ℕ} (v : Walk) (same : v.lawful.section ≡ s) {i : ℕ} (at : i ≡ v.looked) (so_far : Walked s from v.looked v.sign)
    {last : ℕ} (grid : last ≡ last_depth s) where
  walked : Walked s from i v.sign
  walked = rw at so_far

  there : v.sign ≡ sign_looked s i
  there = rw at (v.there ∙ ap (λ s. sign_looked s v.looked) same)

  pub finds_none : last ≤ i → (v.looked ≡ last_depth s) × NoneTo s from (last_depth s + 1)
  finds_none past =
      let end : i ≡ last_depth s = omega (arith, v.inside, ap last_depth same) in
      (sym at ∙ end, λ k low high. kinds_end walked there end k low (omega arith))

  module _ (more : i < last) {here : Ordering} (is : here ≡ sign_of (imbalance s (i + 1))) where
    inside : i < last_depth s
    inside = omega arith

    pub finds_one : is_eq here ≡ true → Next s from (record { depth = i + 1; kind = Zero }) (i + 1) (Some here)
    finds_one = one_next walked there inside is

    pub finds_two : opposed v.sign here ≡ true → Next s from (record { depth = i; kind = Pair }) (i + 1) (Some here)
    finds_two = two_next walked there inside is

    pub walked_next : is_eq here ≡ false → opposed v.sign here ≡ false → Walked s from (i + 1) (Some here)
    walked_next = walked_on walked there inside is
