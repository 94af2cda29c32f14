-- `line_records::walking::field_at` meets its contract: each type is read by its own function.
-- Assumes nothing.
use mathlib.Core.Path.{refl, sym, ◌∙◌}
use Rattle.line_records.proofs.Places.{letter_form, name_form}
use Rattle.line_records.proofs.walking.field_at.Goals as goal

pub returns-then-is_name : goal.returns-then-is_name
returns-then-is_name c =
    let a = c.args in
    c.name_at.ensures a.order a.column
    (name_form a.column.form (sym c.is_name.ensures ∙ c.if-is_name.true)) refl

pub returns-else-is_name : goal.returns-else-is_name
returns-else-is_name c =
    let a = c.args in
    c.letter_at.ensures a.order a.column
    (letter_form a.column.form (sym c.is_number.ensures ∙ c.if-is_number.false)
    (sym c.is_name.ensures ∙ c.if-is_name.false))
