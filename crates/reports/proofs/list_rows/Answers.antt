-- `reports::list_rows` meets its contract: after i turns the first i rows are laid.
-- Assumes nothing.
use mathlib.Core.Path.{◌≡◌}
use Prim.Native.Nat.{ℕ, ◌+◌, ◌≤◌, ◌<◌}
use native.Mathlib.Omega.{arith}
use native.Mathlib.Numerals.{add-one}
use lib.ListN.{length, get_or}
use borrow.Author.Rules.{rules}
use Rattle.house.specs.declared.House.{House}
use Rattle.house.specs.declared.Reported.{Reported}
use Rattle.house.specs.Deliver.{past_counts}
use Rattle.house.specs.Report.{keyed_row, row_at, rows_of, rows_from, reported, listing}
use Rattle.house.proofs.Reporting.{few, rows_few, stands_within, stands_low, stands_told}
use Rattle.reports.proofs.list_rows.Goals as goal

-- what is known of the rows that are reported
module _ (h : House) (slot long : ℕ) (judged : Reported) (is : judged ≡ reported h slot long) where
  held : judged.rows ≤ rows_of h slot
  held = rw is (few h slot long).0

  bounded : judged.rows ≤ 1024
  bounded = omega (arith, held, rows_few h slot)

  -- the row of a turn
  module _ (from i : ℕ) (first : from ≡ rows_from h slot judged.rows) (turn : i < judged.rows)
      (keys : length h.keys ≡ 1024) where
    abbrev at : ℕ
    at = from + i

    within : at < 1024
    within = stands_within h slot judged.rows from i held turn first keys

    low : length h.counts ≡ 1024 → get_or h.counts at 0 < past_counts
    low paired = stands_low h slot judged.rows from i held turn first keys paired

  module _ (from i : ℕ) (first : from ≡ rows_from h slot judged.rows) (turn : i < judged.rows) where
    told : keyed_row (get_or h.keys (from + i) 0) (get_or h.counts (from + i) 0) ≡ row_at h slot i
    told = stands_told h slot judged.rows from i held turn first

pub first_row-from-requires : goal.first_row-from-requires
first_row-from-requires c = held c.args.house c.args.slot c.args.long _ c.judge_report-reported.ensures

pub loop-i-init : goal.loop-i-init
loop-i-init c = c.no_rows-rows.ensures

pub overflow_add-at : goal.overflow_add-at
overflow_add-at c = record {
  fits = omega (
    arith,
    within c.args.house c.args.slot c.args.long _ c.judge_report-reported.ensures _ c.loop-i.i
        c.first_row-from.ensures c.loop-i-test.true (search rules),
  );
}

pub offset_bounds-house-at : goal.offset_bounds-house-at
offset_bounds-house-at c = record {
  fits = omega (
    arith,
    within c.args.house c.args.slot c.args.long _ c.judge_report-reported.ensures _ c.loop-i.i
        c.first_row-from.ensures c.loop-i-test.true (search rules),
  );
}

pub bounds-house-at : goal.bounds-house-at
bounds-house-at c =
    within c.args.house c.args.slot c.args.long _ c.judge_report-reported.ensures _ c.loop-i.i c.first_row-from.ensures
    c.loop-i-test.true (search rules)

pub offset_bounds-house-at-in-loop-i : goal.offset_bounds-house-at-in-loop-i
offset_bounds-house-at-in-loop-i c = record {
  fits = omega (
    arith,
    within c.args.house c.args.slot c.args.long _ c.judge_report-reported.ensures _ c.loop-i.i
        c.first_row-from.ensures c.loop-i-test.true (search rules),
  );
}

pub bounds-house-at-in-loop-i : goal.bounds-house-at-in-loop-i
bounds-house-at-in-loop-i c =
    within c.args.house c.args.slot c.args.long _ c.judge_report-reported.ensures _ c.loop-i.i c.first_row-from.ensures
    c.loop-i-test.true (search rules)

pub keyed_row-requires : goal.keyed_row-requires
keyed_row-requires c =
    low c.args.house c.args.slot c.args.long _ c.judge_report-reported.ensures _ c.loop-i.i c.first_row-from.ensures
    c.loop-i-test.true (search rules) (search rules)

pub offset_bounds-rows-i : goal.offset_bounds-rows-i
offset_bounds-rows-i c = record {
  fits = omega (
    arith,
    bounded c.args.house c.args.slot c.args.long _ c.judge_report-reported.ensures,
    c.loop-i-test.true,
  );
}

pub bounds-rows-i : goal.bounds-rows-i
bounds-rows-i c =
    omega (
      arith,
      bounded c.args.house c.args.slot c.args.long _ c.judge_report-reported.ensures,
      c.loop-i-test.true,
    )

pub loop-i-preserved : goal.loop-i-preserved
loop-i-preserved c =
    let row =
    told c.args.house c.args.slot c.args.long _ c.judge_report-reported.ensures _ c.loop-i.i c.first_row-from.ensures
    c.loop-i-test.true in
    rw (c.loop-i.invariant, c.keyed_row.ensures, row, add-one)

pub returns : goal.returns
unfolding listing
returns c =
    let all : c.loop-i.i ≡ c.judge_report-reported.result.rows =
    omega arith in
    rw (c.loop-i.invariant, all, c.judge_report-reported.ensures)
