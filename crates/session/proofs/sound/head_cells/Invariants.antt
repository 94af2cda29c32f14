-- The heads of the cells so far.
-- Assumes nothing.
use Rattle.std.proofs.Common.{ℕ, ◌≡◌, ◌+◌, ◌/◌, ◌<◌, length, get_or}
use Rattle.session.proofs.sound.head_cells.Given as goal

abbrev pub invariant-loop-i : goal.invariant-loop-i
invariant-loop-i l =
    (length l.heads ≡ 8) × ((k : ℕ) → k < l.i → get_or l.heads k 0 ≡ get_or l.parts (32 + k) 0 / 256)
