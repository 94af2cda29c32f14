-- `soundness::rooms::room_of` meets its contract: a sound house owes a slot no more than it owes all.
-- Assumes nothing.
use mathlib.Core.Path.{refl}
use native.Mathlib.Omega.{arith}
use Rattle.house.specs.House.{keys_of}
use Rattle.house.proofs.Laws.{lent_keys}
use Rattle.house.proofs.Calling.{told_lent, own_within}
use borrow.Author.Rules.{rules}
use Rattle.soundness.proofs.rooms.room_of.Goals as goal

pub unfilled_of-requires : goal.unfilled_of-requires
unfilled_of-requires c =
    (c.requires.2, lent_keys _ _ _ (told_lent c.args.house.now c.requires.0 (search rules) (search rules)))

pub overflow_sub-result : goal.overflow_sub-result
overflow_sub-result c =
    let h = c.args.house.now in
    own_within h.slots (keys_of h) c.args.slot _ refl _ _ c.requires.1 c.unfilled_of.ensures
    (omega (arith, c.requires.2, c.requires.3))
