-- `dates::writing::put_number` meets its contract: the number, then all of the bytes in the part behind it.
-- Assumes nothing.
use Rattle.output.proofs.Laws.{both}
use Rattle.digits.specs.Digits.{digits}
use Rattle.dates.proofs.writing.put_number.Goals as goal

pub returns : goal.returns
returns c =
    let a = c.args in
    both (digits a.n) a.bytes.now a.out.now c.requires c.put_digits-k.new.out
    c.put_digits-k.result c.put_digits-k.ensures c.put_bytes.new.out c.put_bytes.result
    c.put_bytes.ensures
