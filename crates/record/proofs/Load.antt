-- The load's 32 bits with their sign and without: the machine's are the rule's. Assumes nothing.
use Prim.Native.Nat.{ℕ, ◌^◌, ◌<◌}
use mathlib.Core.Path.{◌≡◌, refl}
use mathlib.Core.Logic.{⊎_elim}
use lib.IntN.{ℤ, pos, negsuc}
use mir.Syntax.{w32}
use mir.Val.{SFits, to_z, of_z}
use borrow.Author.Tests.{lt-ltb, le-ltb}
use Rattle.arith.proofs.Tests.{less_or_not}
use Rattle.record.specs.Record.{signed32}
use Rattle.record.specs.Filed.{unsigned32}

pub signed_is : (n : ℕ) → n < 2 ^ 32 → to_z w32 n ≡ signed32 n
unfolding signed32
signed_is n h =
    ⊎_elim (λ q. rw (lt-ltb n 2147483648 q)) (λ q. rw (le-ltb n 2147483648 q, lt-ltb n 4294967296 h)) (less_or_not n 2147483648)

pub unsigned_is : (z : ℤ) → SFits w32 z → of_z w32 z ≡ unsigned32 z
unfolding unsigned32
unsigned_is (pos n) f = refl
unsigned_is (negsuc n) f = refl
