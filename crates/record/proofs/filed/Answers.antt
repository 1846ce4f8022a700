-- `filed`: with a flange behind the layers, or without.
use Rattle.std.proofs.Common.{◌≡◌, ◌+◌, ◌*◌, arith, rules}
use Rattle.refusal.proofs.Answers.{answers}
use Rattle.record.specs.Filed.{filed}
use Rattle.record.proofs.Inverse.{filed_flat, filed_rib}
use Rattle.record.proofs.filed.Goals as goal
use Rattle.record.proofs.filed.Goals.{Joined-s-ne0, then-s-ne0, else-s-ne0}

whole : (c : Joined-s-ne0) → c.if-s-ne0.record ≡ filed c.args.s
whole c =
    let s = c.args.s in
    let l = c.loop-layer in
    let n : 12 + 2 * l.layer-index ≡ 12 + 2 * s.count = omega arith in
    let all = rw n at l.invariant.so_far in
    elim c.if-s-ne0.branch [
      | then-s-ne0 w ↦ rw (w.record-is, w.push-then-s-ne0-2.ensures, w.push-then-s-ne0.ensures, all) (filed_rib s l.invariant.few (omega arith))
      | else-s-ne0 w ↦ rw (w.record-is, all) (filed_flat s l.invariant.few (omega arith))
    ]

pub returns : goal.returns
returns c = answers (search rules) (whole c)
