-- `deliveries::deliver` meets its contract: what `open_at` refuses is refused, and a record to an open slot is settled.
-- Assumes nothing.
use mathlib.Core.Path.{sym, refl, ◌∙◌}
use mathlib.Core.List.{[]}
use Rattle.house.specs.Calls.{deliver, refusal}
use Rattle.house.proofs.Calling.{deliver_judged, open_session, laid_judged}
use Rattle.soundness.proofs.Opened.{opened, refused}
use Rattle.deliveries.proofs.deliver.Goals as goal

pub returns-in-Err : goal.returns-in-Err
unfolding deliver
returns-in-Err c =
    let h = c.args.house in
    c.answer_with.ensures ∙ sym (refused h c.args.slot _ c.open_at.ensures.0 (refusal h) [] _ _ c.in-Err.is)

pub judge_slot-requires : goal.judge_slot-requires
judge_slot-requires c =
    let h = c.args.house in
    let there = opened h c.args.slot _ c.open_at.ensures.0 _ _ c.in-Ok.is in
    rw there.is (open_session h c.args.slot there.fine c.open_at.ensures.1 there.inside there.taken)

pub settle_to-requires : goal.settle_to-requires
settle_to-requires c =
    let there = opened c.args.house c.args.slot _ c.open_at.ensures.0 _ _ c.in-Ok.is in
    record {
      sound = there.fine;
      inside = rw there.is there.inside;
      is = refl;
      taken = rw there.is there.taken;
      slots = c.open_at.ensures.1;
      owes = there.owes;
      fits = c.judge_slot.ensures.1;
    }

pub returns : goal.returns
returns c =
    let a = c.args in
    let there = opened a.house a.slot _ c.open_at.ensures.0 _ _ c.in-Ok.is in
    c.settle_to.ensures
    ∙ laid_judged a.house _ a.rec.now c.judge_slot.ensures.0
    ∙ rw there.is (sym (deliver_judged a.house a.slot a.rec.now there.fine there.inside there.taken))
