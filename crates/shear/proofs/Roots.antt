-- k and c, from the roots that their digits give. Assumes nothing.
use Prim.Native.Nat.{ℕ, ◌+◌, ◌<◌, min}
use mathlib.Core.Path.{◌≡◌, ap}
use mathlib.Core.Bool.{true, false}
use lib.Dec.{ltb, leb}
use Rattle.arith.specs.Largest.{largest}
use Rattle.roots.specs.Root.{raised, Root}
use Rattle.roots.proofs.Powers.{raised_climbs}
use Rattle.roots.proofs.Theorems.{root_below, root_found, root_limited, root_is}
use Rattle.shear.specs.Shear.{squared, cubed, k_of}

-- the numbers below `end` are enough where r beyond 1000, which does not show in k, is among them
pub k_root : (d end n : ℕ) → 0 < d → Root (raised false d) end 200000000 n → 1000 < end → (min (1000 + n) 2000 ≡ k_of d) × (n < end)
unfolding k_of
k_root d end n some r enough =
    let c = raised_climbs false d some in
    (root_limited c r 1000 1000 enough, root_below c r)

-- and where `end` is too large for c
pub c_root :
    (bd bound end n : ℕ) → 0 < bd → Root (raised true bd) end bound n → bound < raised true bd end
    → (n ≡ largest (cubed bd) bound) × (n < end)
c_root bd bound end n some r large =
    let c = raised_climbs true bd some in
    (root_found c r large, root_below c r)

-- k, by what its root and the next number come to
pub k_is : (d r : ℕ) → 0 < d → leb (squared d r) 200000000 ≡ true → ltb 200000000 (squared d (r + 1)) ≡ true → k_of d ≡ min (1000 + r) 2000
unfolding k_of
k_is d r some fits next = ap (λ n. min (1000 + n) 2000) (root_is false d 200000000 r some fits next)
