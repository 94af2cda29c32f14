-- The lines of an input: each is ended by LF, the last one by LF or by the input's end.
--
--   up_to    the bytes before the first that is `stop`; all, where there is none
-- Assumes nothing.
use Rattle.std.specs.Prelude.{cond, List, [], ◌∷◌, ℕ, eqb}

unfoldable pub up_to : ℕ → List ℕ → List ℕ
up_to stop [] = []
up_to stop (b ∷ bs) = cond (eqb b stop) [] (b ∷ up_to stop bs)
