-- `line_laying::fields_size` meets its contract: what is passed and what is left make up the whole.
-- Assumes nothing.
use mathlib.Core.Path.{◌≡◌}
use Prim.Native.Nat.{◌+◌, ◌*◌, ◌≤◌}
use lib.ListN.{length}
use Rattle.line_layouts.specs.Layouts.{rest_of}
use Rattle.line_laying.proofs.fields_size.Given as goal

abbrev pub invariant-loop-j : goal.invariant-loop-j
invariant-loop-j l =
    (l.size ≤ 256 * l.j)
    × (l.size + length (rest_of l.layout l.source l.line l.j l.n) ≡ length (rest_of l.layout l.source l.line 0 l.n))
