-- The list of depths as the program reads it back: its refusal, its count, its words. Assumes nothing.
use Prim.Native.Nat.{ℕ, ◌+◌, ◌*◌, ◌-◌, ◌≤◌, ◌<◌}
use mathlib.Core.Path.{◌≡◌, sym, ap, ◌∙◌}
use mathlib.Core.List.{List}
use native.Mathlib.Omega.{arith}
use lib.Dec.{ltb}
use lib.IntN.{ℤ, pos}
use lib.ListN.{length, get_or, take, drop, length-append}
use lib.Signed.{◌≤ℤ◌}
use Rattle.std.proofs.lemmas.List.{get_or-take, length-take-le}
use borrow.Author.Tests.{ltb-true, le-leb}
use Rattle.arith.specs.Lines.{line}
use Rattle.arith.proofs.Lines.{passed, none_of, only_first}
use Rattle.section.specs.declared.Section.{Section}
use Rattle.section.specs.Refusal.{section_refusal}
use Rattle.section.proofs.Accepted.{accepted}
use Rattle.section.specs.Has.{last_depth}
use Rattle.forces.specs.Forces.{moment}
use Rattle.depths.specs.Depths.{kind_at, entry_of, listed, words, written}
use Rattle.depths.specs.Answers.{ListAnswer, depths_refusal, list_refusal, list_answer, row_after}
use Rattle.depths.proofs.Listed.{count_most, words_length, words_of, word_of}
use Rattle.depths.proofs.Answers.{list_number, list_count, row_written}
use Rattle.booklines.specs.Line.{bending_in}
use Rattle.booklines.proofs.Least.{Least, least_found}

-- ---- into a row that holds every list, what is refused is just what the line's bending is refused by
no_fifteen : (s : Section) (room : ℕ) → 3000 ≤ room → list_refusal s room ≡ depths_refusal s
unfolding list_refusal depths_refusal
no_fifteen s room h = only_first (depths_refusal s) _ (λ e. rw (le-leb (3 * length (listed s)) room (omega (arith, count_most (kind_at s) (moment s) (last_depth s), high e))))
  where
    high : depths_refusal s ≡ 0 → s.h ≤ 1000
    high e = (accepted s (none_of (section_refusal s) _ e).0).sizes.1.1

module _ (s : Section) (row : List ℤ) (room : 3000 ≤ length row) {a : ListAnswer} (is : a ≡ list_answer s (length row)) where
  pub number : a.refusal ≡ depths_refusal s
  number = list_number s (length row) is ∙ no_fifteen s (length row) room

  module _ (ok : a.refusal ≡ 0) where
    none : depths_refusal s ≡ 0
    none = sym number ∙ ok

    lines : (section_refusal s ≡ 0) × (line (ltb 0 (length (listed s))) 14 0 ≡ 0)
    unfolding depths_refusal
    lines = none_of (section_refusal s) _ none

    some : 0 < length (listed s)
    some = ltb-true 0 _ (passed (ltb 0 (length (listed s))) 13 0 lines.1).0

    count : a.count ≡ length (listed s)
    count = list_count s (length row) is lines.0

    module _ (after : List ℤ) (then : after ≡ row_after s row) where
      filled : after ≡ written (listed s) row
      filled = then ∙ row_written s row (no_fifteen s (length row) room ∙ none)

      pub words_fit : 3 * a.count ≤ length after
      words_fit = rw (count, filled) (omega (arith, length-append (words (listed s)) (drop (3 * length (listed s)) row), words_length (listed s)))

      long : length (take (3 * a.count) after) ≡ 3 * length (listed s)
      long = length-take-le (3 * a.count) after words_fit ∙ ap (λ n. 3 * n) count

      pub some_words : 2 < length (take (3 * a.count) after)
      some_words = omega (arith, long, some)

      word : (j r : ℕ) → j < length (listed s) → r < 3 → get_or after (3 * j + r) (pos 0) ≡ get_or (words_of (entry_of (listed s) j)) r (pos 0)
      word j r h l = rw filled (word_of (listed s) _ j r h l)

      listed_moment : (j : ℕ) → j < length (listed s) → get_or (take (3 * a.count) after) (3 * j + 2) (pos 0) ≡ (entry_of (listed s) j).moment
      listed_moment j h = get_or-take (3 * a.count) after (3 * j + 2) (pos 0) (omega (arith, count)) ∙ word j 2 h (omega arith)

      module _ {m : ℤ} (below : (j : ℕ) → 3 * j + 2 < length (take (3 * a.count) after) → m ≤ℤ get_or (take (3 * a.count) after) (3 * j + 2) (pos 0))
          (one : (j : ℕ) × (3 * j + 2 < length (take (3 * a.count) after)) × (m ≡ get_or (take (3 * a.count) after) (3 * j + 2) (pos 0))) where
        least : Least (λ j. (entry_of (listed s) j).moment) (length (listed s) - 1) m
        least = record {
          below = λ j h. rw (← listed_moment j (omega (arith, some))) (below j (omega (arith, long, some)));
          at = one.0;
          inside = omega (arith, one.1, long);
          is = one.2 ∙ listed_moment one.0 (omega (arith, one.1, long));
        }

        pub bends : record { count = a.count; depth = get_or after 0 (pos 0); kind = get_or after 1 (pos 0); moment = m } ≡ bending_in (listed s)
        bends = rw (count, word 0 0 some (omega arith), word 0 1 some (omega arith), least_found least)
