-- `bending_of`: the list's refusal, or its numbers as the row has them.
use Rattle.std.proofs.Common.{◌≤◌, List, ℤ, pos, length, get_or, replicate}
use Rattle.std.proofs.lemmas.List.{length-take-le}
use mathlib.Core.Path.{refl, sym, ◌∙◌}
use native.Mathlib.Omega.{arith}
use borrow.Author.Rules.{rules}
use Rattle.refusal.proofs.Answers.{answers}
use Rattle.arith.proofs.Machine.{read}
use Rattle.booklines.specs.declared.TheConstants.{ROW}
use Rattle.booklines.proofs.Lists.{number, words_fit, some_words, bends}
use Rattle.booklines.proofs.bending_of.Goals as goal

-- the row that is lent
abbrev lent : List ℤ
lent = replicate ROW (pos 0)

room : 3000 ≤ length lent
room = omega arith

pub returns-in_err-count : goal.returns-in_err-count
returns-in_err-count c =
    let k = number _ lent room c.in_err-count.ensures.0 in
    search rules

pub slice_bounds-row-end : goal.slice_bounds-row-end
slice_bounds-row-end c =
    let d = c.in_ok-count.ensures in
    words_fit _ lent room d.0 refl _ d.1

pub slice_bounds-least_moment-end : goal.slice_bounds-least_moment-end
slice_bounds-least_moment-end c =
    let d = c.in_ok-count.ensures in
    sym (length-take-le _ _ (words_fit _ lent room d.0 refl _ d.1))

pub least_moment-requires : goal.least_moment-requires
least_moment-requires c =
    let d = c.in_ok-count.ensures in
    some_words _ lent room d.0 refl _ d.1

pub returns : goal.returns
returns c =
    let d = c.in_ok-count.ensures in
    let m = c.least_moment.ensures in
    let first = read {z = get_or c.depths.new.row 0 (pos 0)} (record { sfits = search rules }) in
    let kind = read {z = get_or c.depths.new.row 1 (pos 0)} (record { sfits = search rules }) in
    let least = read (record { sfits = c.least_moment.type_inv }) in
    answers (sym (number _ lent room d.0))
    ((λ i. record { count = c.in_ok-count.field-0.count; depth = first i; kind = kind i; moment = least i })
    ∙ bends _ lent room d.0 refl _ d.1 m.none_below m.one_of_them)
