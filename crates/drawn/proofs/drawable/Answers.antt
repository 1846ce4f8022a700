-- `drawable`: the edition's drawn range, as the law carries it.
use mathlib.Core.Path.{◌≡◌, ap, ◌∙◌}
use mathlib.Core.Bool.{◌&&◌, cond}
use native.Mathlib.Omega.{arith}
use lib.IntN.{pos, neg_ℤ}
use Rattle.std.specs.Range.{range_inclusive_start}
use Rattle.std.specs.Ordering.{is_le, is_lt, int_cmp}
use Rattle.arith.proofs.Machine.{read, read32, read_minus}
use Rattle.law.specs.declared.Law.{Law}
use Rattle.law.specs.Edition.{edition}
use Rattle.law.proofs.Ranges.{law_in}
use Rattle.drawn.proofs.Strains.{le_is}
use Rattle.drawn.proofs.drawable.Goals as goal

pub returns : goal.returns
unfolding edition
returns c =
    let of = c.args.of.now in
    let drawn : of.law.drawn ≡ 10000 = ap (λ (l : Law). l.drawn) of.is ∙ (law_in of.accepted).drawn in
    let low : range_inclusive_start c.new.result ≡ neg_ℤ (pos 10000) =
    c.new.ensures.start ∙ read_minus of.law.drawn (omega arith) ∙ ap (λ n. neg_ℤ (pos n)) drawn in
    let whole = read32 c.ranges.strain in
    let wide = read (rw whole (record { sfits = omega (arith, c.ranges.strain.sfits) })) ∙ whole in
    let high = c.new.ensures.end in
    c.contains.ensures.value
    ∙ (λ i. is_le (int_cmp (low i) (wide i)) && cond (c.new.ensures.exhausted i) (is_lt (int_cmp (wide i) (high i))) (is_le (int_cmp (wide i) (high i))))
    ∙ (λ i. le_is (neg_ℤ (pos 10000)) c.args.strain i && le_is c.args.strain (pos 3500) i)
