-- `dates::writing::date_size` meets its contract: all but the hour and the day has one length.
-- Assumes nothing.
use mathlib.Core.Path.{◌≡◌, sym}
use native.Mathlib.Omega.{arith}
use Prim.Native.Nat.{◌+◌}
use lib.ListN.{length}
use Rattle.dates.specs.Dates.{date_text}
use Rattle.dates.proofs.Laws.{date_length, date_size}
use Rattle.dates.proofs.writing.date_size.Goals as goal

pub returns : goal.returns
returns c =
    let t = c.args.t in
    let is : c.width.result + c.width-2.result + 16 ≡ length (date_text t) =
    rw (c.width-2.ensures.0, c.width.ensures.0, c.moment_of-m.ensures.0) (sym (date_length t)) in
    (is, omega (arith, is, (date_size t).1))
