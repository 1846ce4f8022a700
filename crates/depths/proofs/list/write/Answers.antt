-- `write`: the row begins with the words of the list so far (Rows).
use Prim.Native.Nat.{◌+◌, ◌*◌, ◌^◌, ◌≤◌, ◌<◌}
use mathlib.Core.Path.{◌≡◌, refl, sym, ap, ◌∙◌}
use mathlib.Core.List.{[], ◌∷◌, ◌++◌}
use native.Mathlib.Omega.{arith}
use lib.IntN.{pos}
use lib.ListN.{length, drop, length-take}
use Rattle.std.specs.Prelude.{map}
use Rattle.arith.proofs.Machine.{read, read_pos}
use Rattle.section.specs.Has.{last_depth}
use Rattle.forces.specs.Forces.{moment}
use Rattle.depths.specs.declared.list.Mark.{Mark}
use Rattle.depths.specs.Code.{marked}
use Rattle.depths.specs.Depths.{kind_at, list_to, words}
use Rattle.depths.proofs.Kept.{has_none, has_some, has_kind, has_room, mark_at}
use Rattle.depths.proofs.Listed.{list_skips, count_more}
use Rattle.depths.proofs.Rows.{entry_stored}
use Rattle.depths.proofs.list.write.Goals as goal
use Rattle.depths.proofs.list.write.Goals.{After-moment_at, in-Some, in_default}

pub shared_ref_as_front-mark-items : goal.shared_ref_as_front-mark-items
shared_ref_as_front-mark-items c = omega (arith, c.last_depth-last.ensures, c.args.lawful.now.accepted.sizes.1.1)

pub loop-i-init : goal.loop-i-init
unfolding list_to words
loop-i-init c = (refl, refl)

pub moment_at-requires : goal.moment_at-requires
moment_at-requires c =
    (omega arith, omega (arith, c.last_depth-last.ensures, length-take {A = Mark}))

-- the place of the depth among those that are gone over
less : (c : After-moment_at) → (c.last_depth-last.result ≤ last_depth c.args.lawful.now.section) × (c.loop-i.i < c.last_depth-last.result)
less c = (omega (arith, c.last_depth-last.ensures), omega (arith, c.loop-i-test.true, length-take {A = Mark}))

room : (c : After-moment_at) → c.loop-i.at + 3 ≤ length c.args.row.now
room c =
    let s = c.args.lawful.now.section in
    let is = mark_at c.args.kinds.now _ _ ∙ sym c.kind.ensures ∙ c.in-Some.is in
    has_room s (map marked c.args.kinds.now) c.requires.0 (less c).0 (less c).1 is c.loop-i.invariant.0 c.requires.1

pub overflow_add-at : goal.overflow_add-at
overflow_add-at c = record { fits = omega (arith, room c) }

pub offset_bounds-row-at : goal.offset_bounds-row-at
offset_bounds-row-at c = record { fits = omega (arith, room c) }

pub slice_bounds-copy_from_slice-end : goal.slice_bounds-copy_from_slice-end
slice_bounds-copy_from_slice-end c = omega (arith, room c)

pub loop-i-preserved : goal.loop-i-preserved
loop-i-preserved c =
    let s = c.args.lawful.now.section in
    let k = kind_at s in
    let m = moment s in
    let i = c.loop-i.invariant in
    let last : c.last_depth-last.result ≤ last_depth s = omega (arith, c.last_depth-last.ensures) in
    let less : c.loop-i.i < c.last_depth-last.result = omega (arith, c.loop-i-test.true, length-take {A = Mark}) in
    let kinds = map marked c.args.kinds.now in
    let there = mark_at c.args.kinds.now c.last_depth-last.result c.loop-i.i ∙ sym c.kind.ensures in
    elim c.match-kind.branch [
      | in-Some w ↦
          let some = has_some s kinds c.requires.0 last less (there ∙ w.in-Some.is) in
          let kind = has_kind s kinds c.requires.0 last less (there ∙ w.in-Some.is) in
          let small : c.loop-i.i + 1 < 2 ^ 63 = omega (arith, less, last, c.args.lawful.now.accepted.sizes.1.1) in
          let depth = read_pos (c.loop-i.i + 1) small in
          let number = read_pos w.from.result (omega arith) ∙ ap pos (w.from.ensures ∙ kind) in
          let turn = read (record { sfits = w.moment_at.type_inv }) ∙ w.moment_at.ensures in
          let new = w.copy_from_slice.ensures.after ∙ (λ j. depth j ∷ number j ∷ turn j ∷ []) in (
            w.at-is ∙ omega (arith, i.0, count_more k m c.loop-i.i some),
            w.row-is
                ∙ entry_stored k m c.args.row.now c.loop-i.row _ c.loop-i.i c.loop-i.at some i.0 i.1 new
                ∙ ap (λ n. words (list_to k m (c.loop-i.i + 1)) ++ drop n c.args.row.now) (sym w.at-is),
          )
      | in_default w ↦
          let same = list_skips k m c.loop-i.i (has_none s kinds c.requires.0 last less (there ∙ w.in_default.is)) in (
            w.at-is ∙ i.0 ∙ ap (λ e. 3 * length e) (sym same),
            w.row-is ∙ i.1 ∙ (λ j. words (sym same j) ++ drop (sym w.at-is j) c.args.row.now),
          )
    ]

pub returns : goal.returns
returns c =
    let s = c.args.lawful.now.section in
    let k = kind_at s in
    let m = moment s in
    let i = c.loop-i.invariant in
    let all : c.loop-i.i ≡ last_depth s = omega (arith, c.last_depth-last.ensures, length-take {A = Mark}, c.args.lawful.now.accepted.sizes.1.1) in
    i.1 ∙ (λ j. words (list_to k m (all j)) ++ drop ((i.0 ∙ ap (λ n. 3 * length (list_to k m n)) all) j) c.args.row.now)
