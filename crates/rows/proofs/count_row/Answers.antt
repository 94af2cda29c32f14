-- `rows::count_row` meets its contract: by whether the key is held it is one of the two cases of `counted`.
-- Assumes nothing.
use native.Mathlib.Omega.{arith}
use borrow.Author.Rules.{rules}
use Rattle.rows.proofs.Steps.{count_within, count_inside, count_grows, count_room, is_more, is_new}
use Rattle.rows.proofs.count_row.Goals as goal

pub offset_bounds-counts-at : goal.offset_bounds-counts-at
offset_bounds-counts-at c =
    let inside = count_inside _ _ _ _ _ c.requires _ c.holds.ensures c.if-holds.true in
    search rules

pub bounds-counts-at : goal.bounds-counts-at
bounds-counts-at c = omega (arith, count_inside _ _ _ _ _ c.requires _ c.holds.ensures c.if-holds.true)

pub bounds-counts-at-then-holds : goal.bounds-counts-at-then-holds
bounds-counts-at-then-holds c = omega (arith, count_inside _ _ _ _ _ c.requires _ c.holds.ensures c.if-holds.true)

pub overflow_add-counts : goal.overflow_add-counts
overflow_add-counts c =
    let grows = count_grows _ _ _ _ _ c.requires _ c.holds.ensures c.if-holds.true in
    omega arith

pub returns-then-holds : goal.returns-then-holds
returns-then-holds c = is_more _ _ _ _ _ c.requires _ c.holds.ensures c.if-holds.true

pub insert-requires : goal.insert-requires
insert-requires c = (
  count_within _ _ _ _ _ c.requires,
  count_room _ _ _ _ _ c.requires _ c.holds.ensures c.if-holds.false,
)

pub insert-requires-2 : goal.insert-requires-2
insert-requires-2 c = (
  count_within _ _ _ _ _ c.requires,
  omega (arith, count_room _ _ _ _ _ c.requires _ c.holds.ensures c.if-holds.false),
)

pub returns : goal.returns
returns c =
    rw (c.insert-2.ensures, c.insert.ensures)
    (is_new _ _ _ _ _ c.requires _ c.holds.ensures c.if-holds.false)
