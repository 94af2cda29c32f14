-- `feeding::feed` meets its contract: what `open_at` refuses is refused, and then a carry of another length.
-- Assumes nothing.
use mathlib.Core.Path.{refl, sym, ◌∙◌}
use mathlib.Core.List.{[], ◌∷◌}
use lib.Dec.{eqb}
use lib.ListN.{length}
use Rattle.prelude.specs.Checks.{◌else◌}
use Rattle.answers.specs.declared.Answer.TheVariants.{OutputTooShort}
use Rattle.house.specs.House.{carry_length}
use Rattle.house.specs.Feeding.{feed, unfed, held_in}
use Rattle.soundness.proofs.Opened.{opened, refused}
use Rattle.feeding.proofs.Door.{unfed_told, feed_other, feed_done_lem, feed_touched}
use Rattle.feeding.proofs.feed.Goals as goal

pub returns-in-Err : goal.returns-in-Err
unfolding feed
returns-in-Err c =
    let h = c.args.house in
    let slot = c.args.slot in
    let carry = c.args.carry.now in
    record {
      carry_after =
          unfed_told _ _ _ c.fed.ensures
          ∙ sym
          (refused h slot _ c.open_at.ensures.0 (unfed h (held_in h slot carry))
          ((eqb (length carry) carry_length else OutputTooShort) ∷ []) _ _ c.in-Err.is);
      kept = λ failed. refl;
    }

pub returns-then-carry-ne-CARRY : goal.returns-then-carry-ne-CARRY
returns-then-carry-ne-CARRY c =
    let there = opened c.args.house c.args.slot _ c.open_at.ensures.0 _ _ c.in-Ok.is in
    record {
      carry_after =
          unfed_told _ _ _ c.fed-then-carry-ne-CARRY.ensures
          ∙ feed_other _ _ _ _ there.fine there.inside there.taken c.if-carry-ne-CARRY.true;
      kept = λ failed. refl;
    }

pub feed_open-requires : goal.feed_open-requires
feed_open-requires c =
    let there = opened c.args.house c.args.slot _ c.open_at.ensures.0 _ _ c.in-Ok.is in
    record {
      fine = there.fine;
      inside = rw there.is there.inside;
      is = refl;
      taken = rw there.is there.taken;
      slots = c.open_at.ensures.1;
      owes = there.owes;
      cells = c.all_cells.ensures;
      long = c.if-carry-ne-CARRY.false;
    }

pub returns : goal.returns
returns c =
    let there = opened c.args.house c.args.slot _ c.open_at.ensures.0 _ _ c.in-Ok.is in
    let long = c.if-carry-ne-CARRY.false in
    record {
      carry_after =
          (rw there.is at c.feed_open.ensures)
          ∙ feed_done_lem _ _ _ _ there.fine there.inside there.taken long;
      kept = feed_touched _ _ _ c.args.chunk.now there.fine there.inside there.taken long _;
    }
