-- `feeding::end_feed` meets its contract: what `open_at` refuses is refused, and then a byte that is held.
-- Assumes nothing.
use mathlib.Core.Path.{sym}
use mathlib.Core.List.{[], ◌∷◌}
use lib.Dec.{eqb}
use Rattle.prelude.specs.Checks.{◌else◌}
use Rattle.answers.specs.declared.Answer.{Answer}
use Rattle.answers.specs.declared.Answer.TheVariants.{Done, NotOneRecord}
use Rattle.house.specs.Calls.{slot_at}
use Rattle.house.specs.Feeding.{end_feed}
use Rattle.soundness.proofs.Opened.{opened, refused}
use Rattle.feeding.proofs.Door.{end_held, end_done}
use Rattle.feeding.proofs.end_feed.Goals as goal

pub returns-in-Err : goal.returns-in-Err
unfolding end_feed
returns-in-Err c =
    let h = c.args.house in
    let slot = c.args.slot in
    sym
    (refused h slot _ c.open_at.ensures.0 (λ (a : Answer). a)
    ((eqb (slot_at h slot).held 0 else NotOneRecord) ∷ []) Done _ c.in-Err.is)

pub returns-then-house-i-ne0 : goal.returns-then-house-i-ne0
returns-then-house-i-ne0 c =
    let h = c.args.house in
    let there = opened h c.args.slot _ c.open_at.ensures.0 _ _ c.in-Ok.is in
    end_held h c.args.slot there.fine there.inside there.taken (rw there.is at c.if-house-i-ne0.true)

pub returns : goal.returns
returns c =
    let h = c.args.house in
    let there = opened h c.args.slot _ c.open_at.ensures.0 _ _ c.in-Ok.is in
    end_done h c.args.slot there.fine there.inside there.taken (rw there.is at c.if-house-i-ne0.false)
