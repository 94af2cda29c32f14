-- `line_laying::put_all` meets its contract: the head, then the fields in the part behind it.
-- Assumes nothing.
use mathlib.Core.List.{◌++◌}
use Rattle.output.specs.Placed.{Room}
use Rattle.output.proofs.Laws.{behind, both}
use Rattle.line_layouts.specs.Layouts.{head_of, rest_of}
use Rattle.line_layouts.proofs.Laid.{laid_out_lem}
use Rattle.line_laying.proofs.put_all.Goals as goal

pub put_fields-requires : goal.put_fields-requires
put_fields-requires c =
    let a = c.args in
    let room : Room (head_of a.layout a.line.tag a.size ++ rest_of a.layout a.source.now a.line 0 a.n) a.out.now =
    rw (laid_out_lem a.layout a.source.now a.line a.n a.size c.requires.0) at c.requires.1 in
    let p = c.put_head-k in (
      c.requires.0.there,
      c.requires.0.stops.few,
      behind (head_of a.layout a.line.tag a.size) (rest_of a.layout a.source.now a.line 0 a.n)
          a.out.now room p.new.out p.result p.ensures,
    )

pub returns : goal.returns
returns c =
    let a = c.args in
    let room : Room (head_of a.layout a.line.tag a.size ++ rest_of a.layout a.source.now a.line 0 a.n) a.out.now =
    rw (laid_out_lem a.layout a.source.now a.line a.n a.size c.requires.0) at c.requires.1 in
    let p = c.put_head-k in
    let q = c.put_fields in
    rw (laid_out_lem a.layout a.source.now a.line a.n a.size c.requires.0)
    (both (head_of a.layout a.line.tag a.size) (rest_of a.layout a.source.now a.line 0 a.n)
    a.out.now room p.new.out p.result p.ensures
    q.new.out q.result q.ensures)
