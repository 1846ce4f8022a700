-- `records_right`: the first record, then each.
use Rattle.std.proofs.Common.{◌≡◌, ◌∙◌, rules, refl, arith, sym}
use Rattle.std.proofs.lemmas.Iterator.{YieldsList-from_range}
use Rattle.std.proofs.lemmas.Iterator.Search.{all_from_yields_List}
use Rattle.book.specs.Book.{start_of, ends_right, records_right}
use Rattle.book.proofs.Below.{each_below}
use Rattle.book.proofs.Stated.records_right.Goals as goal

pub returns-then-start-eq0 : goal.returns-then-start-eq0
unfolding records_right
returns-then-start-eq0 c =
    let s = c.args.self.bytes.now in
    let n = c.args.self.count in
    let first : start_of s 0 ≡ 0 = sym c.start.ensures ∙ c.if-start-eq0.true in
    let range = YieldsList-from_range 0 n n refl (omega arith) in
    let all = all_from_yields_List (ends_right s) _ _ c.all.result c.all.ensures.ran range (λ x b q k. (search rules, search rules)) in
    rw (first, ← c.args.self.count_is) (all ∙ each_below (ends_right s) n)
