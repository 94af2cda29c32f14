-- `soundness::open_at` meets its contract: each return is one of the checks, in their order.
-- Assumes nothing.
use mathlib.Core.Path.{◌≡◌}
use mathlib.Core.Bool.{true, false}
use borrow.Author.Tests.{le-ltb, lt-ltb, not-true, not-false}
use Rattle.rows.specs.Rows.{slot_count}
use Rattle.house.specs.Calls.{slot_at}
use Rattle.house.proofs.Laws.{told_sound, told_unsound, told_promised}
use Rattle.soundness.proofs.open_at.Goals as goal

pub returns-in_default : goal.returns-in_default
returns-in_default c =
    let told = c.soundness_lent.ensures in
    (rw (told_unsound _ _ told.0 c.in_default.is), told.1)

pub returns-then-i-ge-SLOTS : goal.returns-then-i-ge-SLOTS
returns-then-i-ge-SLOTS c =
    let told = c.soundness_lent.ensures in
    let fine = told_sound _ _ told.0 _ c.in-Some.is in
    (rw (fine, le-ltb c.args.slot slot_count c.if-i-ge-SLOTS.true), told.1)

pub returns-then-not-s : goal.returns-then-not-s
returns-then-not-s c =
    let told = c.soundness_lent.ensures in
    let fine = told_sound _ _ told.0 _ c.in-Some.is in
    let shut : (slot_at c.args.house.now c.args.slot).taken ≡ false = not-true _ c.if-not-s.true in
    (rw (fine, lt-ltb c.args.slot slot_count c.if-i-ge-SLOTS.false, shut), told.1)

pub returns : goal.returns
returns c =
    let told = c.soundness_lent.ensures in
    let fine = told_sound _ _ told.0 _ c.in-Some.is in
    let there : (slot_at c.args.house.now c.args.slot).taken ≡ true = not-false _ c.if-not-s.false in (
      rw (
        fine,
        lt-ltb c.args.slot slot_count c.if-i-ge-SLOTS.false,
        there,
        told_promised _ _ told.0 _ c.in-Some.is,
      ),
      told.1,
    )
