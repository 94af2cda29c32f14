-- `tallying::put_stopped` meets its contract: what stopped a stream has its line.
-- Assumes nothing.
use native.Mathlib.Omega.{arith}
use Prim.Native.Nat.{◌+◌}
use Rattle.tally_lines.proofs.Lines.{too_long_most, put_as}
use Rattle.tallying.proofs.Texts.{stopped_refused, stopped_long}
use Rattle.tallying.proofs.put_stopped.Goals as goal

-- the promise first: it is what a wrong K is refused by
pub returns-in-Refused : goal.returns-in-Refused
returns-in-Refused c =
    put_as (stopped_refused _ _ _ c.in-Refused.is) c.put_refused.ensures

pub returns-in-TooLong : goal.returns-in-TooLong
returns-in-TooLong c =
    put_as (stopped_long _ _ c.in-TooLong.is) c.put_too_long.ensures

pub put_too_long-requires : goal.put_too_long-requires
put_too_long-requires c =
    omega (arith, too_long_most (c.args.accepted + 1) (omega (arith, c.requires.0)), c.requires.1)
