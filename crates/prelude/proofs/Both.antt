-- Of two tests that both hold, each holds.
-- Assumes nothing.
use mathlib.Core.List.{[], ◌∷◌}
use Rattle.prelude.specs.Both.{BothLeft, BothRight}
use Rattle.prelude.proofs.All.{all_at}

pub both_left : BothLeft
both_left a b e = all_at (a ∷ b ∷ []) e 0

pub both_right : BothRight
both_right a b e = all_at (a ∷ b ∷ []) e 1
