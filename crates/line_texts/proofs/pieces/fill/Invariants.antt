-- `line_texts::pieces::fill` meets its contract: the fields filled are the first ones of the line's.
-- Assumes nothing.
use mathlib.Core.Path.{◌≡◌}
use Prim.Native.Nat.{ℕ}
use lib.ListN.{length, get_or, take}
use Rattle.line_layouts.specs.Columns.{most_columns}
use Rattle.line_layouts.specs.Entries.{no_field}
use Rattle.line_texts.proofs.Places.{fields}
use Rattle.line_texts.proofs.pieces.fill.Given as goal

abbrev pub invariant-loop-j : goal.invariant-loop-j
invariant-loop-j l = (length l.fields ≡ most_columns)
    × ((i : ℕ) → get_or l.fields i no_field ≡ get_or (take l.j (fields l.sep l.text l.tag)) i no_field)
