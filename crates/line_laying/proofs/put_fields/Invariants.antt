-- `line_laying::put_fields` meets its contract: the fields passed are put, and the rest is to come.
-- Assumes nothing.
use mathlib.Core.List.{List}
use Prim.Native.Nat.{ℕ}
use Rattle.line_layouts.specs.Layouts.{rest_of}
use Rattle.line_laying.proofs.Sofar.{Sofar}
use Rattle.line_laying.proofs.put_fields.Given as goal

abbrev pub invariant-loop-j : goal.invariant-loop-j
invariant-loop-j l =
    (done : List ℕ)
    × Sofar (rest_of l.layout l.source l.line 0 l.n) done (rest_of l.layout l.source l.line l.j l.n) l.initial.out l.k l.out
