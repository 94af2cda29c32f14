-- `lent::is_granted` meets its contract: each test that holds is one case of its definition.
-- Assumes nothing.
use mathlib.Core.Path.{◌≡◌, sym, ◌∙◌}
use mathlib.Core.Bool.{true, false, true≢false}
use native.Mathlib.Omega.{arith}
use borrow.Author.Tests.{ltb-true, ltb-false}
use lib.Seq.{length-take-le}
use Rattle.house.proofs.Delivering.{granted_held, granted_floor, granted_spare}
use Rattle.lent.proofs.is_granted.Goals as goal
use Rattle.lent.proofs.is_granted.Goals.{then-holds, else-holds}

pub returns-then-held_by-room : goal.returns-then-held_by-room
returns-then-held_by-room c =
    elim c.if-holds.branch [
      | then-holds w ↦
          c.if-held_by-room.true ∙ sym (granted_held _ _ _ (sym c.holds.ensures ∙ w.if-holds.true))
      | else-holds w ↦
          c.if-held_by-room.true
          ∙ sym (granted_floor _ _ _ (sym c.holds.ensures ∙ w.if-holds.false) _ w.held_by.ensures
          (ltb-true _ _ (sym w.value-is ∙ c.if-held_by-room.true)))
    ]

pub returns-else-held_by-room : goal.returns-else-held_by-room
returns-else-held_by-room c =
    let l = c.requires in
    let long = length-take-le c.args.used c.args.keys.now (omega (arith, l.long, l.within)) in
    elim c.if-holds.branch [
      | then-holds w ↦ let no : true ≡ false = cc in absurd (true≢false no)
      | else-holds w ↦
          sym
          (granted_spare _ _ _ (sym c.holds.ensures ∙ w.if-holds.false) _ w.held_by.ensures
          (ltb-false _ _ (sym w.value-is ∙ c.if-held_by-room.false)) _ long)
    ]
