-- `feeding::all_cells` meets its contract: each slot that was looked at has its cells.
-- Assumes nothing.
use mathlib.Core.Path.{◌≡◌}
use Prim.Native.Nat.{ℕ, ◌<◌}
use lib.ListN.{length, get_or}
use Rattle.house.specs.House.{no_slot}
use Rattle.feeding.proofs.all_cells.Given as goal

abbrev pub invariant-loop-s : goal.invariant-loop-s
invariant-loop-s l = (j : ℕ) → j < l.s-index → length (get_or l.s-items j no_slot).session.parts ≡ 40
