-- `deliveries::settle_rows` meets its contract: an open slot of a sound house lends its session and all rows, and
-- takes them back.
-- Assumes nothing.
use mathlib.Core.Path.{◌∙◌}
use Rattle.house.proofs.Calling.{lent_to, laid_back}
use borrow.Author.Rules.{rules}
use Rattle.deliveries.proofs.settle_rows.Goals as goal

pub settle_lent-d-requires : goal.settle_lent-d-requires
settle_lent-d-requires c =
    let given = c.requires in (
      lent_to c.args.house c.args.i given.is c.room_of-room.ensures given.sound (search rules) (search rules)
          given.slots given.inside given.taken (search rules),
      given.fits,
    )

pub returns : goal.returns
returns c =
    c.answer_with.ensures
    ∙ laid_back c.args.house c.args.i c.requires.is c.room_of-room.ensures c.args.verdict _ c.settle_lent-d.ensures.0
