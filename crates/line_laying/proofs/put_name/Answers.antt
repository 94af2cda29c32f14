-- `line_laying::put_name` meets its contract: the count byte, then the name in the part behind it.
-- Assumes nothing.
use mathlib.Core.List.{◌++◌}
use Rattle.numbers.specs.Numbers.{written}
use Rattle.output.specs.Placed.{Room}
use Rattle.output.proofs.Laws.{both}
use Rattle.line_layouts.specs.Entries.{named}
use Rattle.line_layouts.proofs.Laid.{name_count}
use Rattle.line_laying.proofs.put_name.Goals as goal

pub returns : goal.returns
returns c =
    let room : Room (written c.args.order 1 c.args.name.len ++ named c.args.source.now c.args.name) c.args.out.now =
    rw (name_count c.args.order c.args.source.now c.args.name c.requires.0) at c.requires.1 in
    let p = c.put_number-n in
    let q = c.put_part in
    let a = c.args in
    rw (name_count a.order a.source.now a.name c.requires.0)
    (both (written a.order 1 a.name.len) (named a.source.now a.name) a.out.now room
    p.new.out p.result p.ensures q.new.out q.result q.ensures)
