-- `dates::names::month_named` meets its contract: the first name that has these letters, or past the last.
-- Assumes nothing.
use mathlib.Core.Path.{◌≡◌, ◌∙◌}
use native.Mathlib.Omega.{arith}
use Rattle.dates.specs.Reading.{month_named}
use Rattle.dates.proofs.Laws.{named_first}
use Rattle.dates.proofs.names.month_named.Goals as goal

pub returns : goal.returns
returns c =
    let told = named_first c.args.a c.args.b c.args.c in
    let is : c.unwrap_or.result ≡ month_named c.args.a c.args.b c.args.c =
    rw c.first_named.ensures at c.unwrap_or.ensures ∙ told.0 in
    (is, omega (arith, is, told.1))
