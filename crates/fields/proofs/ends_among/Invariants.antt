-- `fields::ends_among` meets its contract: what is left of the bytes ends among what is left of the fields at each turn
-- just where they did before the first.
-- Assumes nothing.
use mathlib.Core.Path.{◌≡◌}
use lib.ListN.{drop}
use Rattle.fields.specs.Fields.{ends_among}
use Rattle.fields.proofs.ends_among.Given as goal

abbrev pub invariant-loop-field : goal.invariant-loop-field
invariant-loop-field l =
    ends_among l.order (drop l.field-index l.fields) l.left ≡ ends_among l.order l.fields l.bytes
