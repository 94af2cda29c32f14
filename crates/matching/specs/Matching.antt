-- Two texts compared to their last byte.
--
--   same       whether two texts are the same
--   SameSelf   what is shown: a text is the same as itself
--   SameOnly   what is shown: and as no other
-- Assumes nothing.
use Rattle.std.specs.Prelude.{◌≡◌, Bool, true, false, ◌&&◌, List, [], ◌∷◌, ℕ, eqb}

abbrev pub same : List ℕ → List ℕ → Bool
same [] [] = true
same [] (y ∷ ys) = false
same (x ∷ xs) [] = false
same (x ∷ xs) (y ∷ ys) = eqb x y && same xs ys

abbrev pub SameSelf : Type 0
SameSelf = (text : List ℕ) → same text text ≡ true

abbrev pub SameOnly : Type 0
SameOnly = (one other : List ℕ) → same one other ≡ true → one ≡ other
