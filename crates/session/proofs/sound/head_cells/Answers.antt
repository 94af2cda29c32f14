-- `session::sound::head_cells` meets its contract: cell by cell.
-- Assumes nothing.
use Rattle.std.proofs.Common.{arith, ◌∙◌, sym, ◌≡◌, length, drop}
use Rattle.std.proofs.lemmas.Grind.{same_number_lists}
use Rattle.std.proofs.lemmas.List.{get_or-drop, get_or-map, length-drop, length-map}
use Rattle.session.specs.Session.{head_cells, wafer_head, most_open}
use Rattle.session.proofs.sound.head_cells.Goals as goal

pub returns : goal.returns
returns c =
    let wafers = drop most_open c.args.parts.now in
    let long : length (head_cells c.args.parts.now) ≡ 8 =
    length-map wafers wafer_head ∙ omega (arith, length-drop most_open c.args.parts.now, c.told-parts) in
    let made = c.loop-i.invariant in
    same_number_lists c.loop-i.heads (head_cells c.args.parts.now) (made.0 ∙ sym long) (λ k h.
    made.1 k (omega (arith, h, made.0, c.loop-i-test.false))
    ∙ rw (get_or-map wafer_head wafers k 0 0 (omega (arith, h, made.0, length-drop most_open c.args.parts.now, c.told-parts)), get_or-drop most_open c.args.parts.now k 0))
