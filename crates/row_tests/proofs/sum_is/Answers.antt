-- `row_tests::sum_is` meets its contract. The invariant: the slot's sum is what is added up with the rows from i on,
-- where nothing stands above, and is more than any total where something does.
-- Assumes nothing.
use mathlib.Core.Path.{◌≡◌, sym, ◌∙◌}
use mathlib.Core.List.{List}
use Prim.Native.Nat.{ℕ, ◌+◌, ◌≤◌, ◌<◌}
use native.Mathlib.Omega.{arith}
use lib.ListN.{get_or, take, drop}
use borrow.Author.Tests.{ne_eqb}
use Rattle.rows.specs.Rows.{sum_by, slot_rank, Kept}
use Rattle.rows.proofs.Steps.{stretch_up, stretch_within, rest_first, rest_next, rest_last}
use Rattle.rows.proofs.Steps.{Added, added_first, added_next}
use borrow.Author.Rules.{rules}
use Rattle.row_tests.proofs.sum_is.Goals as goal

-- the slot's sum, and what of it stands from i on
module _ (keys counts : List ℕ) (used slot : ℕ) where
  abbrev whole : ℕ
  whole = sum_by slot (take used keys) (take used counts)

  abbrev rest : ℕ → ℕ
  rest i = sum_by slot (drop i (take used keys)) (drop i (take used counts))

  module _ (kept : Kept keys counts used) (from to : ℕ) (first : from ≡ slot_rank slot (take used keys))
      (last : to ≡ slot_rank (slot + 1) (take used keys)) where
    up : from ≤ to
    up = stretch_up _ _ kept.fits kept.rises _ _ _ first last

    within : to ≤ used
    within = stretch_within _ _ kept.fits kept.rises _ _ _ first last

    next : (i : ℕ) → from ≤ i → i < to → rest i ≡ get_or counts i 0 + rest (i + 1)
    next = rest_next _ _ kept.fits kept.rises _ _ _ first last _ kept.paired

    -- at the end nothing is left
    told : (i sum above : ℕ) → i ≤ to → to ≤ i → Added whole (rest i) sum above → Added whole 0 sum above
    told i sum above up h so =
        let at-end : i ≡ to = omega arith in
        rw (at-end, rest_last _ _ kept.fits kept.rises _ _ _ first last _ kept.paired) at so

pub loop-i-init : goal.loop-i-init
loop-i-init c =
    let kept = c.requires.2 in
    record {
      small = omega arith;
      added =
          added_first _ _
          (rest_first _ _ kept.fits kept.rises _ _ _ c.slot_rank-from.ensures c.slot_rank-end.ensures c.args.counts.now
          kept.paired);
    }

pub offset_bounds-counts-i : goal.offset_bounds-counts-i
offset_bounds-counts-i c =
    let inside =
    within c.args.keys.now c.args.counts.now c.args.used c.args.slot c.requires.2 _ _ c.slot_rank-from.ensures
    c.slot_rank-end.ensures in
    search rules

pub bounds-counts-i : goal.bounds-counts-i
bounds-counts-i c =
    omega (
      arith,
      within c.args.keys.now c.args.counts.now c.args.used c.args.slot c.requires.2 _ _ c.slot_rank-from.ensures
          c.slot_rank-end.ensures,
    )

pub overflow_add-sum : goal.overflow_add-sum
overflow_add-sum c = record {
  fits = omega (
    arith,
    within c.args.keys.now c.args.counts.now c.args.used c.args.slot c.requires.2 _ _ c.slot_rank-from.ensures
        c.slot_rank-end.ensures,
    c.requires.1,
  );
}

pub loop-i-preserved : goal.loop-i-preserved
loop-i-preserved c =
    let step =
    next c.args.keys.now c.args.counts.now c.args.used c.args.slot c.requires.2 _ _ c.slot_rank-from.ensures
    c.slot_rank-end.ensures c.loop-i.i (omega arith) (omega arith) in record {
      small = omega (arith, c.loop-i.invariant.small);
      added = added_next _ _ _ _ _ _ c.loop-i.invariant.added step;
    }

pub returns-then-above-eq0 : goal.returns-then-above-eq0
returns-then-above-eq0 c =
    let so =
    told c.args.keys.now c.args.counts.now c.args.used c.args.slot c.requires.2 _ _ c.slot_rank-from.ensures
    c.slot_rank-end.ensures c.loop-i.i _ _
    (c.loop-i.auto.i-end
    (up _ c.args.counts.now _ _ c.requires.2 _ _ c.slot_rank-from.ensures c.slot_rank-end.ensures)) c.loop-i-test.false c.loop-i.invariant.added in
    let is : whole c.args.keys.now c.args.counts.now c.args.used c.args.slot ≡ c.loop-i.sum =
    omega (arith, so.exact c.if-above-eq0.true) in
    rw (is, c.from.ensures)

pub returns-else-above-eq0 : goal.returns-else-above-eq0
returns-else-above-eq0 c =
    let so =
    told c.args.keys.now c.args.counts.now c.args.used c.args.slot c.requires.2 _ _ c.slot_rank-from.ensures
    c.slot_rank-end.ensures c.loop-i.i _ _
    (c.loop-i.auto.i-end
    (up _ c.args.counts.now _ _ c.requires.2 _ _ c.slot_rank-from.ensures c.slot_rank-end.ensures)) c.loop-i-test.false c.loop-i.invariant.added in
    let much = so.large c.if-above-eq0.false in
    ne_eqb c.loop-i.above 0 c.if-above-eq0.false
    ∙ sym (ne_eqb (whole c.args.keys.now c.args.counts.now c.args.used c.args.slot) c.args.total
    (omega (arith, c.ranges.total)))
