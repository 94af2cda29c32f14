-- The statement of specs/Laws.antt, proved.
-- Assumes nothing.
use mathlib.Core.Path.{◌∙◌}
use native.Mathlib.Omega.{arith}
use lib.Dec.{leb}
use lib.ListN.{length, drop, length-drop}
use lib.Seq.{get_or-drop}
use Rattle.prelude.proofs.Both.{both_right}
use Rattle.fields.specs.Fields.{ends_among}
use Rattle.fields.specs.Tables.{bin}
use Rattle.fields.proofs.Laws.{begun_whole}
use Rattle.count_bodies.specs.Laws.{NameWhole}

pub name_whole : NameWhole
name_whole order b e h =
    let left = drop 8 b in
    let ends = both_right (leb 8 (length b)) (ends_among order bin.optional left) e in
    let size = length-drop 8 b in
    let name = get_or-drop 1 left 0 0 ∙ get_or-drop 8 b 1 0 in
    omega (arith, begun_whole order bin.optional 1 left ends (omega arith) (omega arith))
