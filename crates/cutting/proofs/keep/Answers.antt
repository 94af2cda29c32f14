-- `cutting::keep` meets its contract: bytes that stand at the front stay there, others are moved.
-- Assumes nothing.
use mathlib.Core.Path.{◌≡◌, refl}
use Prim.Native.Nat.{◌-◌}
use lib.ListN.{take, drop}
use Rattle.cutting.proofs.Moves.{moved_front}
use Rattle.cutting.proofs.keep.Goals as goal
use Rattle.cutting.proofs.keep.Goals.{then-at-ne0, else-at-ne0}

pub returns : goal.returns
returns c =
    let a = c.args in
    let n = a.end - a.at in
    let front : take n c.if-at-ne0.buf ≡ take n (drop a.at a.buf.now) =
    elim c.if-at-ne0.branch [
      | then-at-ne0 w ↦
          rw (w.buf-is, w.copy_within.ensures.after) (moved_front a.at a.end a.buf.now c.requires.0 c.requires.1)
      | else-at-ne0 w ↦ rw (w.buf-is, w.if-at-ne0.false)
    ] in
    (refl, front)
