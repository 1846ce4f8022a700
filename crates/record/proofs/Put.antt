-- Numbers put behind some bytes, one after another. Assumes nothing.
use Prim.Native.Nat.{ℕ, zero, suc, ◌+◌, ◌*◌, ◌≤◌, ◌<◌}
use mathlib.Core.Path.{◌≡◌, refl, ap, ◌∙◌}
use mathlib.Core.List.{List, ◌++◌, append_assoc, append-nil}
use native.Mathlib.Omega.{arith}
use lib.ListN.{length, get_or, take, length-append}
use lib.Seq.{get_or-take}
use Rattle.arith.specs.Joined.{joined}
use Rattle.arith.proofs.Joined.{joined_next, joined_length}
use Rattle.section.specs.declared.Layer.{Layer}
use Rattle.section.specs.declared.Section.{Section}
use Rattle.section.specs.Section.{no_layer, layer_at}
use Rattle.record.specs.Filed.{bytes16, places_of, number_bytes}

pub numbers_length : (numbers : List ℕ) (n : ℕ) → length (joined (number_bytes numbers) n) ≡ 2 * n
numbers_length numbers n = joined_length (number_bytes numbers) 2 n (λ i h. refl)

module _ (was numbers : List ℕ) where
  pub put_none : was ++ joined (number_bytes numbers) 0 ≡ was
  unfolding joined
  put_none = append-nil was

  pub put_length : (i : ℕ) → length (was ++ joined (number_bytes numbers) i) ≡ length was + 2 * i
  put_length i = length-append was (joined (number_bytes numbers) i) ∙ ap (λ (k : ℕ). length was + k) (numbers_length numbers i)

  pub put_more : (i : ℕ) → (was ++ joined (number_bytes numbers) i) ++ bytes16 (get_or numbers i 0) ≡ was ++ joined (number_bytes numbers) (i + 1)
  put_more i = rw (joined_next (number_bytes numbers) i) (append_assoc was (joined (number_bytes numbers) i) (number_bytes numbers i))

pub ruleset puts = (put_none, put_length, put_more)

-- ---- the places of a section
module _ (s : Section) where
  -- those before the layers
  pub head_put : (head : List ℕ) → head ≡ take 12 (places_of s) → joined (number_bytes head) (length head) ≡ joined (number_bytes (places_of s)) 12
  unfolding joined places_of
  head_put head e = rw e

  place_of :
      (j : ℕ) → j < 8
      → (get_or (places_of s) (12 + 2 * j) 0 ≡ (layer_at s.layers j).depth) ×
      (get_or (places_of s) (12 + 2 * j + 1) 0 ≡ (layer_at s.layers j).area)
  unfolding places_of
  place_of zero h = (refl, refl)
  place_of (suc zero) h = (refl, refl)
  place_of (suc (suc zero)) h = (refl, refl)
  place_of (suc (suc (suc zero))) h = (refl, refl)
  place_of (suc (suc (suc (suc zero)))) h = (refl, refl)
  place_of (suc (suc (suc (suc (suc zero))))) h = (refl, refl)
  place_of (suc (suc (suc (suc (suc (suc zero)))))) h = (refl, refl)
  place_of (suc (suc (suc (suc (suc (suc (suc zero))))))) h = (refl, refl)
  place_of (suc (suc (suc (suc (suc (suc (suc (suc j)))))))) h = absurd (omega arith)

  -- and a layer of those that are counted
  pub layer_put :
      {layers : List Layer} (j : ℕ) → layers ≡ take s.count s.layers → s.count ≤ 8 → j < s.count
      → (joined (number_bytes (places_of s)) (12 + 2 * j) ++ bytes16 (get_or layers j no_layer).depth) ++ bytes16 (get_or layers j no_layer).area
      ≡ joined (number_bytes (places_of s)) (12 + 2 * (j + 1))
  layer_put j is few h =
      let f = number_bytes (places_of s) in
      let p = place_of j (omega arith) in
      let e : 12 + 2 * (j + 1) ≡ 12 + 2 * j + 1 + 1 = omega arith in
      rw (e, joined_next f (12 + 2 * j + 1), joined_next f (12 + 2 * j), p.0, p.1, is, get_or-take s.count s.layers j no_layer h)
