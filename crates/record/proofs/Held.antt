-- Bytes put behind those that are held, into places that are zeros: zeros stay past them. Assumes nothing.
use Prim.Native.Nat.{ℕ, ◌+◌, ◌≤◌}
use mathlib.Core.Path.{◌≡◌, sym, ap, ◌∙◌}
use mathlib.Core.List.{List, ◌++◌}
use native.Mathlib.Omega.{arith}
use lib.ListN.{length, take, drop, replicate, length-drop}
use lib.Seq.{drop-append_seam}
use borrow.Rule.Slice.PartMut.{put_mid, same_len_mid}
use Rattle.std.proofs.lemmas.List.{length-take-le, take-append-drop, drop-drop}
use Rattle.std.proofs.lemmas.Slice.{take-put_mid, drop-put_mid}
use Rattle.record.specs.declared.RecordBytes.TheInside.{Inside}
use Rattle.record.specs.Held.{Held}

module _ (r : Inside) (h : Held r) (ys : List ℕ) (k : ℕ) (long : length ys ≡ k) (room : r.len + k ≤ 60) where
  abbrev new : List ℕ
  new = put_mid r.len k r.bytes ys

  new_length : length new ≡ 60
  new_length =
      same_len_mid r.len k r.bytes ys
      (omega (arith, long, length-take-le k (drop r.len r.bytes) (omega (arith, length-drop r.len r.bytes, h.all))))
      ∙ h.all

  -- those that were held, and these
  pub put_held : take (r.len + k) new ≡ take r.len r.bytes ++ ys
  put_held = take-put_mid r.len k r.bytes ys (r.len + k) (omega (arith, long)) (omega (arith, h.all, room))

  zeros_past : drop r.len r.bytes ≡ drop r.len (replicate 60 0)
  zeros_past =
      let held = length-take-le r.len r.bytes (omega (arith, h.all, room)) in
      ap (drop r.len) (sym h.past)
      ∙ ap (λ n. drop n (take r.len r.bytes ++ drop (length (take r.len r.bytes)) (replicate 60 0))) (sym held)
      ∙ drop-append_seam (take r.len r.bytes) (drop (length (take r.len r.bytes)) (replicate 60 0))
      ∙ ap (λ n. drop n (replicate 60 0)) held

  still_past : drop (r.len + k) new ≡ drop (r.len + k) (replicate 60 0)
  still_past =
      drop-put_mid r.len k r.bytes ys (r.len + k) (omega arith) (omega (arith, h.all, room)) long
      ∙ sym (drop-drop k r.len r.bytes) ∙ ap (drop k) zeros_past ∙ drop-drop k r.len (replicate 60 0)

  pub held_more : Held (record { bytes = new; len = r.len + k })
  held_more = record {
    few = omega (arith, new_length, room);
    all = new_length;
    past = ap (λ n. take (r.len + k) new ++ drop n (replicate 60 0)) (length-take-le (r.len + k) new (omega (arith, new_length, room)))
        ∙ ap (λ (l : List ℕ). take (r.len + k) new ++ l) (sym still_past) ∙ take-append-drop (r.len + k) new;
  }
