-- `calls::close_slot` meets its contract: what `open_at` refuses is refused, and an open slot gives its rows back.
-- Assumes nothing.
use mathlib.Core.Path.{sym, ◌∙◌}
use mathlib.Core.List.{[]}
use native.Mathlib.Omega.{arith}
use Rattle.house.specs.Calls.{close_slot, refusal}
use Rattle.house.proofs.Laws.{lent_kept}
use Rattle.house.proofs.Calling.{told_lent, close_done}
use Rattle.soundness.proofs.Opened.{opened, refused}
use borrow.Author.Rules.{rules}
use Rattle.calls.proofs.close_slot.Goals as goal

pub returns-in-Err : goal.returns-in-Err
unfolding close_slot
returns-in-Err c =
    let h = c.args.house in
    c.answer_with.ensures ∙ sym (refused h c.args.slot _ c.open_at.ensures.0 (refusal h) [] _ _ c.in-Err.is)

pub drop_slot-requires : goal.drop_slot-requires
drop_slot-requires c =
    let h = c.args.house in
    let there = opened h c.args.slot _ c.open_at.ensures.0 _ _ c.in-Ok.is in (
      omega (arith, there.is, there.inside),
      lent_kept _ _ _ (told_lent h there.fine (search rules) (search rules)),
    )

pub returns : goal.returns
returns c =
    let h = c.args.house in
    let there = opened h c.args.slot _ c.open_at.ensures.0 _ _ c.in-Ok.is in
    c.answer_with-2.ensures
    ∙ rw there.is
    (sym (close_done _ _ there.fine there.inside there.taken _ _ _ _ (rw there.is at c.drop_slot.ensures) c.closed.ensures))
