-- `line_texts::pieces::cut` meets its contract: the places stored and those left make up the whole.
-- Assumes nothing.
use Rattle.std.specs.Prelude.{IfSome}
use mathlib.Core.Path.{◌≡◌}
use Prim.Native.Nat.{ℕ, ◌≤◌}
use lib.ListN.{length, get_or, take, drop}
use Rattle.line_layouts.specs.Columns.{most_columns}
use Rattle.line_texts.specs.Places.{no_place, places_of, places_left}
use Rattle.line_texts.proofs.pieces.cut.Given as goal

abbrev pub invariant-loop-j : goal.invariant-loop-j
invariant-loop-j l = IfSome l.from (λ k. k ≤ length l.text) × (length l.places ≡ most_columns)
    × ((i : ℕ) → get_or l.places i no_place ≡ get_or (take l.j (places_of l.sep l.text)) i no_place)
    × (places_left l.sep l.from l.text ≡ drop l.j (places_of l.sep l.text))
