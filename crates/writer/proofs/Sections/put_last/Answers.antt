-- `put_last`: three numbers and the letters, one after another.
use Rattle.std.proofs.Common.{ℕ, ap, ◌∙◌, ◌+◌, ◌*◌, length, arith}
use Rattle.record.specs.Filed.{bytes32}
use Rattle.writer.specs.Code.{put_at}
use Rattle.writer.proofs.Strings.{last_on}
use Rattle.writer.proofs.Sections.put_last.Goals as goal

pub returns : goal.returns
returns c =
    let index = length c.args.self.records.now in
    let n = c.args.self.count in
    let stated = c.put_number-3.ensures ∙ ap (λ (k : ℕ). put_at (index + 4 * n + 8) (bytes32 k) c.put_number-2.new.book) c.book_len-len.ensures in
    last_on index n (index + 4 * n) c.args.book.now (omega arith) c.put_number.ensures c.put_number-2.ensures stated c.put.ensures
