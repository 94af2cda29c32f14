-- `reports::report` meets its contract: the rows listed are written over the first of the slice.
-- Assumes nothing.
use mathlib.Core.Path.{◌≡◌, ap, sym, ◌∙◌}
use mathlib.Core.List.{List, ◌++◌}
use Prim.Native.Nat.{ℕ, ◌≤◌}
use native.Mathlib.Omega.{arith}
use lib.ListN.{length, take, drop}
use lib.Seq.{length-take-le, take_at}
use Rattle.house.specs.declared.House.{House}
use Rattle.house.specs.declared.Row.{Row}
use Rattle.house.specs.declared.Listing.{Listing}
use Rattle.house.specs.Report.{row_at, reported, listed, filled, no_rows, listing}
use Rattle.house.proofs.Reporting.{few, listing_reported, listing_few, filled_listed, length_filled, length_listed}
use Rattle.reports.proofs.report.Goals as goal

-- what is known of the listing
module _ (h : House) (slot long : ℕ) (list : Listing) (is : list ≡ listing h slot long) where
  judged : list.reported ≡ reported h slot long
  judged = ap (λ (l : Listing). l.reported) is ∙ listing_reported h slot long

  small : list.reported.rows ≤ long
  small = rw judged (few h slot long).1

  bounded : list.reported.rows ≤ 1024
  bounded = rw is (listing_few h slot long)

  laid : list.rows ≡ filled (row_at h slot) list.reported.rows no_rows
  unfolding listing
  laid = rw is

  long_rows : list.reported.rows ≤ length list.rows
  long_rows = rw (laid, length_filled) bounded

  -- the first rows of a slice that is long enough
  written : (out : List Row) → list.reported.rows ≤ length out
      → take list.reported.rows list.rows ++ drop list.reported.rows out
      ≡ filled (row_at h slot) list.reported.rows out
  written out fits =
      let n = list.reported.rows in
      let row = row_at h slot in
      let first : take n list.rows ≡ listed row n =
      rw laid (rw (filled_listed row n no_rows (omega (arith, bounded)))
      (take_at (listed row n) (drop n no_rows) n (length_listed row n))) in
      rw first (sym (filled_listed row n out fits))

pub slice_bounds-copy_from_slice-end : goal.slice_bounds-copy_from_slice-end
slice_bounds-copy_from_slice-end c =
    small c.args.house c.args.slot (length c.args.out.now) _ c.list_rows-list.ensures

pub slice_bounds-copy_from_slice-end-2 : goal.slice_bounds-copy_from_slice-end-2
slice_bounds-copy_from_slice-end-2 c =
    sym (length-take-le _ c.args.out.now (small c.args.house c.args.slot (length c.args.out.now) _ c.list_rows-list.ensures))

pub slice_bounds-copy_from_slice-end-3 : goal.slice_bounds-copy_from_slice-end-3
slice_bounds-copy_from_slice-end-3 c =
    sym
    (length-take-le _ c.list_rows-list.result.rows
    (long_rows c.args.house c.args.slot (length c.args.out.now) _ c.list_rows-list.ensures))

pub copy_from_slice-requires : goal.copy_from_slice-requires
copy_from_slice-requires c =
    length-take-le _ c.args.out.now (small c.args.house c.args.slot (length c.args.out.now) _ c.list_rows-list.ensures)
    ∙ sym
    (length-take-le _ c.list_rows-list.result.rows
    (long_rows c.args.house c.args.slot (length c.args.out.now) _ c.list_rows-list.ensures))

pub returns : goal.returns
returns c = (
  judged c.args.house c.args.slot (length c.args.out.now) _ c.list_rows-list.ensures,
  rw c.copy_from_slice.ensures.after
      (written c.args.house c.args.slot (length c.args.out.now) _ c.list_rows-list.ensures c.args.out.now
      (small c.args.house c.args.slot (length c.args.out.now) _ c.list_rows-list.ensures)),
)
