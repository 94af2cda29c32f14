-- `searching::rank_among` meets its contract. The invariant: the rank is one of the n + 1 from `at` on, and n is at
-- most the width, so that one element is left when the width is 1.
-- Assumes nothing.
use Prim.Native.Nat.{ℕ, ◌+◌, ◌≤◌}
use lib.ListN.{take}
use Rattle.rising.specs.Rising.{rank}
use Rattle.searching.proofs.rank_among.Given as goal

-- where a rank r is looked for: the n + 1 places from `at` on
abbrev pub Window : ℕ → ℕ → ℕ → ℕ → ℕ → Type 0
Window r used at n width = (at ≤ r) × (r ≤ at + n) × (at + n ≤ used) × (1 ≤ n) × (n ≤ width) × (width ≤ 65536)

abbrev pub invariant-loop-width : goal.invariant-loop-width
invariant-loop-width l = Window (rank l.key (take l.used l.s)) l.used l.at l.n l.width

abbrev pub decreases-loop-width : goal.decreases-loop-width
decreases-loop-width l = l.width
