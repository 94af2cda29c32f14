-- `fields::fits_table` meets its contract: what is left of the body fits what is left of the required fields and the
-- optional ones at each turn just where it did before the first; then only the optional ones are left.
-- Assumes nothing.
use mathlib.Core.Path.{◌≡◌}
use lib.ListN.{take, drop}
use Rattle.fields.specs.Fields.{fits}
use Rattle.fields.proofs.fits_table.Given as goal

abbrev pub invariant-loop-field : goal.invariant-loop-field
invariant-loop-field l =
    fits l.order (drop l.field-index (take l.required l.fields)) (drop l.required l.fields) l.left
    ≡ fits l.order (take l.required l.fields) (drop l.required l.fields) l.body
