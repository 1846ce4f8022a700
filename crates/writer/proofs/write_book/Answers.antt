-- `write_book`: the first refusal of a record, then room for the book; then records, index and last bytes.
use Rattle.std.proofs.Common.{◌≡◌, ◌∙◌, rules, sym, arith, length}
use Rattle.refusal.specs.Refusal.{number, number_of}
use Rattle.refusal.proofs.Answers.{number_in, answers, refuses}
use Rattle.writer.specs.Written.{write_refusal}
use Rattle.writer.proofs.Strings.{tallied}
use Rattle.writer.proofs.Books.{refused_by, book_refused, book_kept, book_homeless, book_granted, book_length, book_put}
use Rattle.writer.proofs.write_book.Goals as goal
use Rattle.writer.proofs.write_book.Goals.{After-from_residual, Then-min-len}

-- ---- a record is refused
handed : (c : After-from_residual) → let n = number c.in_err-sections.field-0.0 in (write_refusal c.args.records.now (length c.args.book.now) ≡ n) × (n ≡ 0 → ⊥)
handed c =
    let e = c.in_err-sections.field-0.0 in
    let is = c.in_err-sections.ensures.number in
    (book_refused _ _ (λ z. omega (arith, (number_in e).0, is, z)) ∙ sym is, λ z. omega (arith, (number_in e).0, z))

pub returns-in_err-sections-clause-answer : goal.returns-in_err-sections-clause-answer
returns-in_err-sections-clause-answer c =
    let k = handed c in
    let by : number_of c.from_residual.result ≡ number c.in_err-sections.field-0.0 = search rules in
    refused_by _ (rw (sym k.0) at k.1) (by ∙ sym k.0)

pub returns-in_err-sections-clause-after : goal.returns-in_err-sections-clause-after
returns-in_err-sections-clause-after c = let k = handed c in book_kept _ _ (rw (sym k.0) at k.1)

-- ---- where all records pass
homeless : (c : Then-min-len) → write_refusal c.args.records.now (length c.args.book.now) ≡ 19
homeless c = rw (← c.in_ok-sections.ensures.of) (book_homeless (tallied c.in_ok-sections.sections) c.args.book.now (omega arith))

pub returns-then-min-len-clause-answer : goal.returns-then-min-len-clause-answer
returns-then-min-len-clause-answer c = refuses (sym (homeless c))

pub returns-then-min-len-clause-after : goal.returns-then-min-len-clause-after
returns-then-min-len-clause-after c = let k = homeless c in book_kept _ _ (λ z. omega arith)

pub returns-clause-answer : goal.returns-clause-answer
returns-clause-answer c =
    let t = tallied c.in_ok-sections.sections in
    rw (← c.in_ok-sections.ensures.of) (answers (book_granted t c.args.book.now (omega arith)) (c.book_len-len.ensures ∙ sym (book_length t)))

pub returns-clause-after : goal.returns-clause-after
returns-clause-after c =
    let t = tallied c.in_ok-sections.sections in
    rw (← c.in_ok-sections.ensures.of)
    (book_put t c.args.book.now (omega arith) c.put_records.ensures c.put_index.ensures c.put_last.ensures)
