-- `by_digits`: each round halves the run of numbers that are left.
use Rattle.std.proofs.Common.{ℕ, ◌^◌, ◌+◌, ◌≤◌, ◌≡◌, Bool, true}
use Rattle.roots.specs.Code.{Tests, Narrowed}
use Rattle.roots.proofs.by_digits.Given as goal

abbrev pub invariant-loop-digit : goal.invariant-loop-digit
invariant-loop-digit g l =
    (l.n + 2 ^ l.digit ≤ 2 ^ l.digits)
    × ((p : ℕ → Bool) → p 0 ≡ true → Tests (goal.F-post g l.fits) p (2 ^ l.digits) → Narrowed p (2 ^ l.digits) l.n (2 ^ l.digit))
