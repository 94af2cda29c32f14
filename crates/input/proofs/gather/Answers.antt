-- `input::gather` meets its contract: refused where the bytes do not fit, else laid behind the first `long`.
-- Assumes nothing.
use native.Mathlib.Omega.{arith}
use lib.ListN.{length}
use Rattle.output.proofs.Laws.{place_short, place_done}
use Rattle.input.proofs.gather.Goals as goal
use Rattle.input.proofs.gather.Goals.{then-line-long-via-then-line-long, then-line-long-via-else-line-long+then-line-long-2}

pub returns-then-line-long : goal.returns-then-line-long
returns-then-line-long c =
    elim c.then-line-long.branch [
      | then-line-long-via-then-line-long w ↦ place_short c.args.bytes.now c.args.line.now c.args.long (omega (arith, w.if-line-long.true))
      | then-line-long-via-else-line-long+then-line-long-2 w ↦ place_short c.args.bytes.now c.args.line.now c.args.long (omega (arith, w.if-line-long-2.true))
    ]

pub returns : goal.returns
returns c =
    place_done c.args.bytes.now c.args.line.now c.args.long (omega arith) c.put_bytes.result c.put_bytes.new.out
    c.put_bytes.ensures
