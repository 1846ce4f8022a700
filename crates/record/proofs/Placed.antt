-- Numbers in bytes, and what is read where they were put. Assumes nothing.
use Prim.Native.Nat.{ℕ, zero, suc, ◌+◌, ◌*◌, ◌%◌, ◌/◌, ◌≤◌, ◌<◌}
use mathlib.Core.Path.{◌≡◌, refl, sym, ◌∙◌}
use mathlib.Core.List.{List, [], ◌∷◌, ◌++◌, append_assoc}
use native.Mathlib.Nat.{add_assoc, mul-suc}
use native.Mathlib.Numerals.{add-one}
use native.Mathlib.Omega.{arith}
use lib.ListN.{length, get_or, take, drop}
use lib.Seq.{get_or-append_seam, get_or-append-add, drop-cons, drop-drop, take-add}
use Rattle.arith.specs.Joined.{joined}
use Rattle.arith.proofs.Joined.{joined_length, joined_at}
use Rattle.record.specs.Record.{Bytes, le16_at, le32_at}
use Rattle.record.specs.Filed.{bytes16, bytes32, number_bytes}

-- ---- a number where it was put
module _ (p : List ℕ) (v : ℕ) (t : List ℕ) where
  pub le16_there : le16_at (p ++ (bytes16 v ++ t)) (length p) ≡ v
  le16_there = rw (get_or-append_seam p (v % 256) (v / 256 ∷ t) 0, get_or-append-add p (bytes16 v ++ t) 1 0) (omega arith)

  pub le32_there : le32_at (p ++ (bytes32 v ++ t)) (length p) ≡ v
  le32_there =
      rw (
        add_assoc (length p) 2 1,
        get_or-append_seam p (v % 65536 % 256) (v % 65536 / 256 ∷ bytes16 (v / 65536) ++ t) 0,
        get_or-append-add p (bytes32 v ++ t) 1 0,
        get_or-append-add p (bytes32 v ++ t) 2 0,
        get_or-append-add p (bytes32 v ++ t) 3 0,
      )
      (omega arith)

-- the k-th of some
pub le16_number : (numbers : List ℕ) (n k : ℕ) → k < n → le16_at (joined (number_bytes numbers) n) (2 * k) ≡ get_or numbers k 0
le16_number numbers n k h =
    let f = number_bytes numbers in
    rw (joined_at f n k h, append_assoc (joined f k) (f k) _, ← (joined_length f 2 k (λ i l. refl))) (le16_there (joined f k) (get_or numbers k 0) _)

-- ---- bytes, by their numbers
two_bytes : (a b : ℕ) → a < 256 → bytes16 (a + 256 * b) ≡ a ∷ b ∷ []
two_bytes a b h =
    let low : (a + 256 * b) % 256 ≡ a = omega arith in
    let high : (a + 256 * b) / 256 ≡ b = omega arith in
    rw (low, high)

two_there : (r : List ℕ) (i : ℕ) → i + 2 ≤ length r → Bytes r → take 2 (drop i r) ≡ bytes16 (le16_at r i)
two_there r i h b = rw (drop-cons r i 0 (omega arith), drop-cons r (suc i) 0 (omega arith), add-one i) (sym (two_bytes _ _ (b i)))

pub four_there : (r : List ℕ) (i : ℕ) → i + 4 ≤ length r → Bytes r → take 4 (drop i r) ≡ bytes32 (le32_at r i)
four_there r i h b =
    let low : le32_at r i % 65536 ≡ le16_at r i = omega (arith, b i, b (i + 1)) in
    let high : le32_at r i / 65536 ≡ le16_at r (i + 2) = omega (arith, b i, b (i + 1)) in
    take-add 2 2 (drop i r) ∙ rw (drop-drop 2 i r, two_there r i (omega arith) b, two_there r (i + 2) (omega arith) b, low, high)

pub taken : (r : List ℕ) (n : ℕ) → 2 * n ≤ length r → Bytes r → joined (λ k. bytes16 (le16_at r (2 * k))) n ≡ take (2 * n) r
unfolding joined
taken r zero h b = refl
taken r (suc n) h b = rw (taken r n (omega arith) b, ← (two_there r (2 * n) (omega arith) b), mul-suc 2 n) (sym (take-add (2 * n) 2 r))

-- and of 32 bits, from a place on
pub taken32 : (r : List ℕ) (at n : ℕ) → at + 4 * n ≤ length r → Bytes r → joined (λ k. bytes32 (le32_at r (at + 4 * k))) n ≡ take (4 * n) (drop at r)
unfolding joined
taken32 r at zero h b = refl
taken32 r at (suc n) h b =
    rw (
      taken32 r at n (omega arith) b,
      ← (four_there r (at + 4 * n) (omega arith) b),
      ← (drop-drop (4 * n) at r),
      mul-suc 4 n,
    )
    (sym (take-add (4 * n) 4 (drop at r)))
