-- `calls::open_slot` meets its contract: each return is one case of its definition.
-- Assumes nothing.
use mathlib.Core.Path.{◌≡◌, sym, subst, ◌∙◌}
use mathlib.Core.Bool.{false}
use Prim.Native.Nat.{ℕ, ◌-◌, ◌≤◌, ◌<◌}
use native.Mathlib.Omega.{arith}
use borrow.Author.Rules.{rules}
use Rattle.house.specs.Calls.{slot_at}
use Rattle.house.proofs.Laws.{told_sound, told_unsound, told_promised}
use Rattle.house.proofs.Calling.{told_within, told_rooms, open_unsound, open_no_slot, open_high, open_taken}
use Rattle.house.proofs.Calling.{open_no_room, open_done}
use Rattle.calls.proofs.open_slot.Goals as goal

pub returns-in_default : goal.returns-in_default
returns-in_default c =
    c.answer_with.ensures
    ∙ sym (open_unsound _ _ _ (told_unsound _ _ c.soundness_of.ensures c.in_default.is))

pub returns-then-i-ge-SLOTS : goal.returns-then-i-ge-SLOTS
returns-then-i-ge-SLOTS c =
    let fine = told_sound _ _ c.soundness_of.ensures _ c.in-Some.is in
    c.answer_with-then-i-ge-SLOTS.ensures ∙ sym (open_no_slot _ _ _ fine c.if-i-ge-SLOTS.true)

pub returns-then-floor-gt-ROWS : goal.returns-then-floor-gt-ROWS
returns-then-floor-gt-ROWS c =
    let fine = told_sound _ _ c.soundness_of.ensures _ c.in-Some.is in
    c.answer_with-then-floor-gt-ROWS.ensures
    ∙ sym (open_high _ _ _ fine c.if-i-ge-SLOTS.false c.if-floor-gt-ROWS.true)

pub overflow_sub-free : goal.overflow_sub-free
overflow_sub-free c =
    let fine = told_sound _ _ c.soundness_of.ensures _ c.in-Some.is in
    omega (arith, told_within _ fine)

pub overflow_cast-free : goal.overflow_cast-free
overflow_cast-free c =
    let fine = told_sound _ _ c.soundness_of.ensures _ c.in-Some.is in
    record { fits = omega (arith, told_within _ fine) }

pub overflow_sub-spare : goal.overflow_sub-spare
overflow_sub-spare c =
    let fine = told_sound _ _ c.soundness_of.ensures _ c.in-Some.is in
    let owing = told_promised _ _ c.soundness_of.ensures _ c.in-Some.is in
    omega (arith, told_rooms _ fine, owing)

pub returns-then-s : goal.returns-then-s
returns-then-s c =
    let fine = told_sound _ _ c.soundness_of.ensures _ c.in-Some.is in
    c.answer_with-then-s.ensures
    ∙ sym (open_taken _ _ _ fine c.if-i-ge-SLOTS.false c.if-floor-gt-ROWS.false
    c.if-s.true)

pub returns-then-spare-floor : goal.returns-then-spare-floor
returns-then-spare-floor c =
    let fine = told_sound _ _ c.soundness_of.ensures _ c.in-Some.is in
    let owing = told_promised _ _ c.soundness_of.ensures _ c.in-Some.is in
    let a = c.args in
    let vacant : (slot_at a.house a.slot).taken ≡ false = search rules in
    c.answer_with-then-spare-floor.ensures
    ∙ sym
    (open_no_room _ _ _ fine c.if-i-ge-SLOTS.false c.if-floor-gt-ROWS.false vacant
    (subst (λ (n : ℕ). 1024 - a.house.used - n < a.floor) owing c.if-spare-floor.true))

pub returns : goal.returns
returns c =
    let fine = told_sound _ _ c.soundness_of.ensures _ c.in-Some.is in
    let owing = told_promised _ _ c.soundness_of.ensures _ c.in-Some.is in
    let a = c.args in
    c.answer_with-2.ensures
    ∙ sym
    (open_done _ _ _ fine c.if-i-ge-SLOTS.false c.if-floor-gt-ROWS.false c.if-s.false
    (subst (λ (n : ℕ). a.floor ≤ 1024 - a.house.used - n) owing c.if-spare-floor.false) _
    c.opened.ensures)
