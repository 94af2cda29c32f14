-- Of tests that all hold, each holds.
-- Assumes nothing.
use mathlib.Core.Path.{◌≡◌, refl}
use mathlib.Core.Bool.{Bool, true, false, false≢true}
use mathlib.Core.List.{List, [], ◌∷◌}
use Prim.Native.Nat.{zero, suc}
use Rattle.prelude.specs.All.{all, AllAt}

pub all_at : AllAt
all_at [] e i = refl
all_at (t ∷ []) e zero = e
all_at (t ∷ []) e (suc i) = refl
all_at (true ∷ u ∷ ts) e zero = refl
all_at (true ∷ u ∷ ts) e (suc i) = all_at (u ∷ ts) e i
all_at (false ∷ u ∷ ts) e i = absurd (false≢true e)

-- one test more, before others that all hold
pub all_first : (t : Bool) (ts : List Bool) → t ≡ true → all ts ≡ true → all (t ∷ ts) ≡ true
all_first t [] e es = e
all_first t (u ∷ ts) e es = rw e es
