-- `reports::first_row` meets its contract: where there is a row, the house is sound and the slot is one of its.
-- Assumes nothing.
use mathlib.Core.Path.{◌≡◌, sym, ◌∙◌}
use Prim.Native.Nat.{◌<◌}
use native.Mathlib.Omega.{arith}
use lib.ListN.{length}
use Rattle.house.specs.Report.{rows_of}
use Rattle.house.proofs.Calling.{told_within}
use Rattle.house.proofs.Reporting.{told_rises, row_fine, row_there, rows_begin}
use borrow.Author.Rules.{rules}
use Rattle.reports.proofs.first_row.Goals as goal

pub slot_rank-requires : goal.slot_rank-requires
slot_rank-requires c =
    let h = c.args.house in
    let long : length h.keys ≡ 1024 = search rules in
    let first : 0 < rows_of h c.args.slot = omega (arith, c.if-rows-eq0.false, c.requires) in
    let fine = row_fine h c.args.slot 0 first in (
      omega (arith, row_there h c.args.slot 0 first),
      omega (arith, long, told_within h fine),
      told_rises h fine,
    )

pub returns : goal.returns
returns c =
    c.slot_rank.ensures
    ∙ sym (rows_begin c.args.house c.args.slot c.args.rows (omega (arith, c.if-rows-eq0.false)))
