-- `line_laying::present_count` meets its contract: a missing field adds none, any other counts all up to it.
-- Assumes nothing.
use mathlib.Core.Path.{◌≡◌}
use mathlib.Core.List.{List}
use Prim.Native.Nat.{ℕ, ◌≤◌}
use lib.ListN.{take}
use Rattle.line_layouts.specs.Entries.{present}
use Rattle.line_layouts.specs.Layouts.{bar_in, entries_in}
use Rattle.line_laying.proofs.present_count.Given as goal

abbrev pub invariant-loop-j : goal.invariant-loop-j
invariant-loop-j l = (l.j ≤ l.j-end) × (l.n ≤ l.j)
    × ((source : List ℕ)
    → present (bar_in l.layout l.line.tag) (take l.j (entries_in l.layout source l.line)) ≡ take l.n
    (entries_in l.layout source l.line))
