-- `row_tests::rows_open` meets its contract. The invariant: every row's slot is open where those of the rows from i
-- on are.
-- Assumes nothing.
use mathlib.Core.Path.{◌≡◌, refl, sym, ◌∙◌}
use mathlib.Core.Bool.{Bool, true, false, ◌&&◌}
use mathlib.Core.List.{List}
use Prim.Native.Nat.{ℕ, ◌+◌, ◌≤◌, ◌<◌}
use native.Mathlib.Omega.{arith}
use lib.ListN.{take, drop, get_or, length}
use Rattle.rising.specs.Rising.{rising, rank, all_below}
use Rattle.rows.specs.Rows.{slot_of, slot_count, past_slots, slot_rank, rows_open}
use Rattle.rows.proofs.Steps.{open_next, open_on, open_end, open_slot_lem}
use Rattle.row_tests.proofs.rows_open.Goals as goal

-- the slot of the row that a turn looks at
module _ (taken : List Bool) (keys : List ℕ) (used i : ℕ) (fits : used ≤ length keys) (h : i < used) where
  abbrev slot : ℕ
  slot = slot_of (get_or keys i 0)

  low : all_below past_slots (take used keys) ≡ true → slot < slot_count
  low below = open_slot_lem keys used fits i h below

  module _ (rises : rising (take used keys) ≡ true) where
    on : (key to : ℕ) → to ≡ rank key (take used keys) → get_or keys i 0 < key → i < to
    on = open_on keys used fits i h rises

    rest : rows_open taken (take used keys) ≡ rows_open taken (drop i (take used keys))
        → (to : ℕ) → to ≡ slot_rank (slot + 1) (take used keys)
        → rows_open taken (take used keys) ≡ (get_or taken slot false && rows_open taken (drop to (take used keys)))
    rest passed to next = passed ∙ open_next keys used fits i h rises to next taken

pub bounds-taken-slot : goal.bounds-taken-slot
bounds-taken-slot c =
    omega (
      arith,
      low c.args.taken.now c.args.keys.now c.args.used c.loop-i.i c.requires.1 c.loop-i-test.true c.requires.3,
      c.requires.0,
    )

pub returns-then-not-taken-slot : goal.returns-then-not-taken-slot
returns-then-not-taken-slot c =
    sym (rest c.args.taken.now c.args.keys.now c.args.used c.loop-i.i c.requires.1 c.loop-i-test.true c.requires.2
    c.loop-i.invariant _ refl
    ∙ rw c.if-not-taken-slot.true)

pub slot_rank-i-requires : goal.slot_rank-i-requires
slot_rank-i-requires c = (
  omega (
    arith,
    low c.args.taken.now c.args.keys.now c.args.used c.loop-i.i c.requires.1 c.loop-i-test.true c.requires.3,
  ),
  c.requires.1,
  c.requires.2,
)

pub loop-i-smaller : goal.loop-i-smaller
loop-i-smaller c =
    omega (
      arith,
      on c.args.taken.now c.args.keys.now c.args.used c.loop-i.i c.requires.1 c.loop-i-test.true c.requires.2 _ _
          c.slot_rank-i.ensures (omega (
            arith,
            low c.args.taken.now c.args.keys.now c.args.used c.loop-i.i c.requires.1 c.loop-i-test.true c.requires.3,
          )),
    )

pub loop-i-preserved : goal.loop-i-preserved
loop-i-preserved c =
    rest c.args.taken.now c.args.keys.now c.args.used c.loop-i.i c.requires.1 c.loop-i-test.true c.requires.2
    c.loop-i.invariant _ c.slot_rank-i.ensures
    ∙ rw c.if-not-taken-slot.false

pub returns : goal.returns
returns c =
    sym (c.loop-i.invariant ∙ open_end c.args.keys.now _ c.requires.1 _ c.loop-i.i c.loop-i-test.false)
