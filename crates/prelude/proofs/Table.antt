-- A table's rule, carried from one computed equation to each entry.
-- Assumes nothing.
use mathlib.Core.Path.{◌≡◌}
use mathlib.Core.List.{List, [], ◌∷◌, map}
use Prim.Native.Nat.{ℕ, zero, suc, ◌<◌}
use native.Mathlib.Omega.{arith}
use lib.ListN.{length, get_or}
use Rattle.prelude.specs.Table.{AtEach}

module _ (A B : Type 0) (f g : A → B) where
  go : (table : List A) (none : A) → map f table ≡ map g table
      → (i : ℕ) → i < length table → f (get_or table i none) ≡ g (get_or table i none)
  go [] none e i h = absurd (omega arith)
  go (a ∷ rows) none e zero h = cc
  go (a ∷ rows) none e (suc i) h = let rest : map f rows ≡ map g rows = cc in go rows none rest i (omega arith)

pub at_each : AtEach
at_each A B f g = go A B f g
