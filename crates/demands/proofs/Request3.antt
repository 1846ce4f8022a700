-- Document 02 [3]: what it promises, by what the contract of `root` tells. Assumes nothing.
use Prim.Native.Nat.{ℕ, ◌*◌}
use mathlib.Core.Path.{◌≡◌, refl}
use mathlib.Core.Bool.{Bool, true}
use native.Mathlib.Omega.{arith}
use Rattle.roots.specs.Root.{raised, past, Root}
use Rattle.roots.proofs.Theorems.{root_is}
use Rattle.shear.specs.Shear.{c_of}
use Rattle.shear.proofs.Roots.{k_root, k_is, c_root}
use Rattle.demands.specs.Request3.{Request3}

-- what a call is told, with what it was asked put in
asked :
    (by : ℕ) {cube cube' : Bool} {digits digits' bound bound' n : ℕ} → cube ≡ cube' → digits ≡ digits' → bound ≡ bound'
    → Root (raised cube by) (past digits) bound n → Root (raised cube' by) (past digits') bound' n
asked by cube digits bound p = rw (← cube, ← digits, ← bound) p

pub request3 : Request3
unfolding c_of
request3 = record {
  k = λ κs a x e p cube digits bound some. (k_root a.1.1.0 _ x some (asked a.1.1.0 cube digits bound p) (omega arith)).0;
  c = λ κs a x e p cube digits few some.
      (c_root a.1.1.0 a.1.1.1.0 _ x some (asked a.1.1.0 cube digits refl p) (omega arith)).0;
  figures = (
    (k_is 999 447 (omega arith) refl refl, root_is true (300 * 999) (100000000000 * 1000 * 20) 1882 (omega arith) refl refl),
    (k_is 26 2773 (omega arith) refl refl, root_is true 1 (2000000000 * 50) 4641 (omega arith) refl refl),
    (k_is 26 2773 (omega arith) refl refl, root_is true (50 * 26) (100000000000 * 1 * 20) 1154 (omega arith) refl refl),
    (k_is 400 707 (omega arith) refl refl, root_is true (300 * 400) (100000000000 * 2400 * 30) 3914 (omega arith) refl refl),
    (k_is 400 707 (omega arith) refl refl, root_is true 1 (2000000000 * 30) 3914 (omega arith) refl refl),
  );
}
