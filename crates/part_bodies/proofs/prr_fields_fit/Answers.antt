-- `part_bodies::prr_fields_fit` meets its contract: the fields of fixed sizes are there, so those behind them tell.
-- Assumes nothing.
use mathlib.Core.Path.{sym, ◌∙◌}
use Rattle.prelude.proofs.Parts.{part_from}
use Rattle.part_bodies.proofs.Laws.{prr_behind, prr_counted}
use Rattle.part_bodies.proofs.prr_fields_fit.Goals as goal

pub returns-then-body-lt17 : goal.returns-then-body-lt17
returns-then-body-lt17 c =
    let b = c.args.body.now in
    (rw (part_from b 7) at c.ends_among.ensures) ∙ sym (prr_behind c.args.order b c.if-body-lt7.false)

pub returns-else-body-lt17 : goal.returns-else-body-lt17
returns-else-body-lt17 c =
    let b = c.args.body.now in
    (rw (part_from b 17) at c.ends_among-else-body-lt17.ensures)
    ∙ sym (prr_counted c.args.order b c.if-body-lt17.false)
