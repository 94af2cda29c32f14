-- Tests that all hold.
--
--   all     whether all tests of a list hold
--   AllAt   what is shown: each of them holds
-- Assumes nothing.
use Rattle.std.specs.Prelude.{◌≡◌, Bool, true, ◌&&◌, List, [], ◌∷◌, ℕ, get_or}

-- the last test as it is, so that a list of tests is what `◌&&◌` makes of them
abbrev pub all : List Bool → Bool
all [] = true
all (t ∷ []) = t
all (t ∷ u ∷ ts) = t && all (u ∷ ts)

-- past the last there is none, and nothing to hold
abbrev pub AllAt : Type 0
AllAt = (tests : List Bool) → all tests ≡ true → (i : ℕ) → get_or tests i true ≡ true
