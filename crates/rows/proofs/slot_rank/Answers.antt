-- `rows::slot_rank` meets its contract: the first key that a slot can have is the slot times the span.
-- Assumes nothing.
use mathlib.Core.Path.{◌≡◌, ap, ◌∙◌}
use Prim.Native.Nat.{ℕ, ◌*◌}
use native.Mathlib.Omega.{arith}
use lib.ListN.{take}
use Rattle.rising.specs.Rising.{rank}
use Rattle.rows.specs.Rows.{slot_span, row_key}
use Rattle.rows.proofs.slot_rank.Goals as goal

pub returns : goal.returns
returns c =
    let args = c.args in
    let first : args.slot * slot_span ≡ row_key args.slot 0 = omega arith in
    c.rank_of.ensures ∙ ap (λ (k : ℕ). rank k (take args.used args.keys.now)) first
