-- `add_layer`: the refusal of the record or of the layer, then room.
use Rattle.std.proofs.Common.{◌≡◌, ◌∙◌, rules, sym, arith, length}
use Rattle.refusal.specs.Refusal.{number, number_of}
use Rattle.refusal.proofs.Answers.{number_in, answers, refuses}
use Rattle.writer.specs.Written.{added_refusal}
use Rattle.writer.proofs.Books.{refused_by}
use Rattle.writer.proofs.Layers.{layer_refused, layer_kept, layer_long, layer_homeless, layer_granted, layer_put}
use Rattle.writer.proofs.add_layer.Goals as goal
use Rattle.writer.proofs.add_layer.Goals.{After-from_residual, Then-out-bytes}

-- ---- the record or the layer is refused
handed :
    (c : After-from_residual)
    → let n = number c.in_err-record.field-0.0 in
    (added_refusal c.args.part.now (record { depth = c.args.depth; area = c.args.area }) (length c.args.out.now) ≡ n) × (n ≡ 0 → ⊥)
handed c =
    let e = c.in_err-record.field-0.0 in
    let is = c.in_err-record.ensures.number in
    (layer_refused _ _ _ (λ z. omega (arith, (number_in e).0, is, z)) ∙ sym is, λ z. omega (arith, (number_in e).0, z))

pub returns-in_err-record-clause-answer : goal.returns-in_err-record-clause-answer
returns-in_err-record-clause-answer c =
    let k = handed c in
    let by : number_of c.from_residual.result ≡ number c.in_err-record.field-0.0 = search rules in
    refused_by _ (rw (sym k.0) at k.1) (by ∙ sym k.0)

pub returns-in_err-record-clause-after : goal.returns-in_err-record-clause-after
returns-in_err-record-clause-after c = let k = handed c in layer_kept _ _ _ (rw (sym k.0) at k.1)

-- ---- where neither is
homeless :
    (c : Then-out-bytes)
    → added_refusal c.args.part.now (record { depth = c.args.depth; area = c.args.area }) (length c.args.out.now) ≡ 19
homeless c =
    let a = c.in_ok-record.ensures in
    layer_homeless _ _ (sym a.number) (c.as_slice-bytes.ensures ∙ a.value) _ (omega arith)

pub returns-then-out-bytes-clause-answer : goal.returns-then-out-bytes-clause-answer
returns-then-out-bytes-clause-answer c = refuses (sym (homeless c))

pub returns-then-out-bytes-clause-after : goal.returns-then-out-bytes-clause-after
returns-then-out-bytes-clause-after c = let k = homeless c in layer_kept _ _ _ (λ z. omega arith)

pub returns-clause-answer : goal.returns-clause-answer
returns-clause-answer c =
    let a = c.in_ok-record.ensures in
    let is = c.as_slice-bytes.ensures ∙ a.value in
    answers (layer_granted _ _ (sym a.number) is _ (omega arith)) (layer_long _ _ (sym a.number) is)

pub returns-clause-after : goal.returns-clause-after
returns-clause-after c =
    let a = c.in_ok-record.ensures in
    c.put.ensures ∙ layer_put _ _ (sym a.number) (c.as_slice-bytes.ensures ∙ a.value) _ (omega arith)
