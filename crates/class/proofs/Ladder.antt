-- Of the ladder's steps that are at most f the largest is the rule's, and there is none where f is below the first. Assumes nothing.
use Rattle.std.proofs.Common.{◌≡◌, ℕ, ◌≤◌, ◌<◌, max, Bool, true, false, cond, leb, List, [], ◌∷◌, drop}
use Rattle.std.proofs.Common.{Option, None, Some, MatchOption, refl, ap, ◌∙◌, arith, rules}
use Rattle.std.specs.Prelude.{⊤}
use Rattle.std.specs.List.{fold}
use native.Mathlib.Nat.{max-le}
use borrow.Author.Tests.{leb-true, leb-false, lt-leb}
use Rattle.class.specs.Class.{ladder, largest_step, step_of}

-- each step is at least the one before it
abbrev Rise : ℕ → List ℕ → Type 0
Rise a [] = ⊤
Rise a (s ∷ ss) = (a ≤ s) × Rise s ss

rises_from : (a s : ℕ) (ss : List ℕ) → a ≤ s → Rise s ss → Rise a ss
rises_from a s [] less rise = tt
rises_from a s (r ∷ rs) less rise = (omega (arith, rise.0), rise.1)

module _ (f : ℕ) where
  -- a step in place of the one below it, where it is at most f
  abbrev pub step_up : Option ℕ → ℕ → Option ℕ
  step_up below s = cond (leb s f) (Some s) below

  -- where the steps rise, the last of these is the largest of any steps
  last_by :
      (a s : ℕ) (ss : List ℕ) (t : Bool) → leb s f ≡ t → a ≤ s → Rise s ss
      → ((b : ℕ) → Rise b ss → fold step_up (Some b) ss ≡ Some (max b (largest_step ss f)))
      → fold step_up (cond t (Some s) (Some a)) ss ≡ Some (max a (max (cond t s 0) (largest_step ss f)))
  last_by a s ss true e less rise rest = rest s rise ∙ ap (λ n. Some n) (omega arith)
  last_by a s ss false e less rise rest = rest a (rises_from a s ss less rise) ∙ ap (λ n. Some n) (omega arith)

  last_is : (a : ℕ) (ss : List ℕ) → Rise a ss → fold step_up (Some a) ss ≡ Some (max a (largest_step ss f))
  unfolding largest_step
  last_is a [] rise = ap (λ n. Some n) (omega arith)
  last_is a (s ∷ ss) rise = last_by a s ss (leb s f) refl rise.0 rise.1 (λ b r. last_is b ss r)

  -- it is at most f
  capped : (s : ℕ) (t : Bool) → leb s f ≡ t → cond t s 0 ≤ f
  capped s true e = leb-true s f e
  capped s false e = omega arith

  at_most : (ss : List ℕ) → largest_step ss f ≤ f
  unfolding largest_step
  at_most [] = omega arith
  at_most (s ∷ ss) = max-le (capped s (leb s f) refl) (at_most ss)

  -- none where all are above f
  none : (low : ℕ) (ss : List ℕ) → f < low → Rise low ss → fold step_up None ss ≡ None
  none low [] below rise = refl
  none low (s ∷ ss) below rise = rw (lt-leb s f (omega (arith, rise.0))) (none s ss (omega (arith, rise.0)) rise.1)

  -- so of the first step and more above it
  picked_by :
      (low : ℕ) (ss : List ℕ) (t : Bool) (r : Option ℕ) → leb low f ≡ t → Rise low ss → r ≡ fold step_up (cond t (Some low) None) ss
      → MatchOption r (f < low) (λ s. (s ≡ max (cond t low 0) (largest_step ss f)) × (low ≤ s) × (s ≤ f))
  picked_by low ss true r e rise is =
      let fits = leb-true low f e in
      rw (is, last_is low ss rise) (refl, omega arith, max-le fits (at_most ss))
  picked_by low ss false r e rise is =
      let below = leb-false low f e in
      rw (is, none low ss below rise) below

  pub picked : (r : Option ℕ) → r ≡ fold step_up None ladder → MatchOption r (f < 1000) (λ s. (s ≡ step_of f) × (1000 ≤ s) × (s ≤ f))
  unfolding ladder step_of largest_step
  picked r is = picked_by 1000 (drop 1 ladder) (leb 1000 f) r refl (search rules) is
