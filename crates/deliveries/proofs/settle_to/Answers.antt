-- `deliveries::settle_to` meets its contract: a verdict that asks for no row changes the session of its slot alone.
-- Assumes nothing.
use mathlib.Core.Path.{◌∙◌}
use Rattle.settling.proofs.Laws.{settles_taken}
use Rattle.house.proofs.Calling.{laid_refused, laid_taken}
use Rattle.deliveries.proofs.settle_to.Goals as goal

pub settle-requires : goal.settle-requires
settle-requires c = settles_taken c.args.s.session.standing c.requires.fits c.in-Taken.is

pub returns-in-Refused : goal.returns-in-Refused
returns-in-Refused c =
    c.answer_with.ensures
    ∙ laid_refused c.args.house c.args.i c.in-Refused.is

pub returns-in-Taken : goal.returns-in-Taken
returns-in-Taken c =
    c.answer_with-in-Taken.ensures
    ∙ laid_taken c.args.house c.args.i c.requires.is
    c.in-Taken.is _ c.settle.ensures
