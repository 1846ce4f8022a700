-- `bytes_at`: byte by byte.
use Rattle.std.proofs.Common.{ℕ, rules, ◌≡◌, ◌+◌, ◌-◌, ◌^◌, get_or, arith, ◌∙◌, min}
use Rattle.record.proofs.Made.{made}
use Rattle.record.proofs.Past.{capped}
use Rattle.record.proofs.bytes_at.Goals as goal

pub returns : goal.returns
returns g c j h =
    let s = c.args.bytes.now in
    let at = c.args.at in
    let j_th : (i y : ℕ) → y ≡ get_or s (min (at + i) (2 ^ 64 - 1)) 0 → y ≡ get_or s (at + i) 0 = λ i y e. e ∙ capped s at i (omega arith) in
    made (λ k. get_or s (at + k) 0) (λ i y q k. (j_th i y (search rules), search rules)) c.from_fn.ensures.items j 0 h
