-- `input::until` meets its contract: before the first `stop` stand the bytes up to it.
-- Assumes nothing.
use mathlib.Core.Path.{◌≡◌, ◌∙◌}
use native.Mathlib.Omega.{arith}
use lib.ListN.{length}
use Rattle.input.specs.Lines.{up_to}
use Rattle.input.proofs.Laws.{up_to_first}
use Rattle.input.proofs.until.Goals as goal

pub returns : goal.returns
returns c =
    let told = up_to_first c.args.stop c.args.bytes.now in
    let is : c.unwrap_or.result ≡ length (up_to c.args.stop c.args.bytes.now) =
    rw c.first.ensures at c.unwrap_or.ensures ∙ told.0 in
    (is, omega (arith, is, told.1))
