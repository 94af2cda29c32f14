-- `tally_lines::put_cell` meets its contract: the digits, then the byte in the part behind them.
-- Assumes nothing.
use mathlib.Core.List.{[], ◌∷◌}
use Rattle.output.proofs.Laws.{both}
use Rattle.digits.specs.Digits.{digits}
use Rattle.tally_lines.proofs.put_cell.Goals as goal

pub returns : goal.returns
returns c =
    let a = c.args in
    both (digits a.n) (a.mark ∷ []) a.out.now c.requires c.put_digits-k.new.out
    c.put_digits-k.result
    c.put_digits-k.ensures c.put.new.out c.put.result c.put.ensures
