-- `tally_lines::put_said` meets its contract: words and number, then LF in the part behind them.
-- Assumes nothing.
use mathlib.Core.List.{[], ◌∷◌}
use Rattle.output.proofs.Laws.{both}
use Rattle.line_layouts.specs.Columns.{line_feed}
use Rattle.tally_lines.specs.Lines.{numbered}
use Rattle.tally_lines.proofs.put_said.Goals as goal

pub returns : goal.returns
returns c =
    let a = c.args in
    both (numbered a.words.now a.n) (line_feed ∷ []) a.out.now c.requires c.put_numbered-k.new.out
    c.put_numbered-k.result
    c.put_numbered-k.ensures c.put.new.out c.put.result c.put.ensures
