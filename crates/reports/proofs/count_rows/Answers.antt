-- `reports::count_rows` meets its contract: in a house that is sound the keys rise.
-- Assumes nothing.
use mathlib.Core.Path.{◌≡◌}
use native.Mathlib.Omega.{arith}
use borrow.Author.Rules.{rules}
use lib.ListN.{length}
use Rattle.house.proofs.Calling.{told_within}
use Rattle.house.proofs.Reporting.{told_rises}
use Rattle.soundness.proofs.Opened.{opened}
use Rattle.reports.proofs.count_rows.Goals as goal

pub held_by-n-requires : goal.held_by-n-requires
held_by-n-requires c =
    let h = c.args.house.now in
    let there = opened h c.args.slot _ c.open_at.ensures.0 _ _ c.in_ok-i.was in
    let long : length h.keys ≡ 1024 = search rules in (
      omega (arith, there.is, there.inside),
      omega (arith, long, told_within h there.fine),
      told_rises h there.fine,
    )
