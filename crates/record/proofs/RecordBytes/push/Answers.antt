-- `push`: the two bytes of the number stand behind those that were held.
use Rattle.std.proofs.Common.{rules, ◌≡◌, ◌+◌, ◌-◌, ◌≤◌, ◌++◌, length, take, ap, ◌∙◌, arith}
use Rattle.record.specs.Filed.{bytes16}
use Rattle.record.proofs.Held.{put_held, held_more}
use Rattle.record.proofs.RecordBytes.push.Goals as goal

module _ (c : goal.After-self-1) where
  two : c.self.inside.len + 2 - c.self.inside.len ≡ 2
  two = omega arith

  is : c.copy_from_slice.new.self ≡ bytes16 c.args.number
  is = search rules

  room : c.self.inside.len + 2 ≤ 60
  room = search rules

pub invariant_of-self : goal.invariant_of-self
invariant_of-self c = rw (two c) (held_more _ c.self.invariant _ 2 (ap length (is c)) (room c))

pub returns : goal.returns
returns c =
    rw (two c)
    (put_held _ c.self.invariant _ 2 (ap length (is c)) (room c) ∙ ap (λ l. take c.self.inside.len c.self.inside.bytes ++ l) (is c)
    ∙ ap (λ l. l ++ bytes16 c.args.number) c.self.view_is)
