-- `line_laying::put_nth` meets its contract: field j by its column, in either layout.
-- Assumes nothing.
use native.Mathlib.Omega.{arith}
use Rattle.line_layouts.specs.Layouts.{nth_bytes}
use Rattle.line_layouts.proofs.Laid.{most_columns_lem, column_inside}
use Rattle.line_laying.proofs.put_nth.Goals as goal

pub said_at-said-requires : goal.said_at-said-requires
said_at-said-requires c =
    let a = c.args in
    omega (
      arith,
      c.column_of-i.ensures,
      column_inside a.layout a.line.tag a.j (omega (arith, c.requires.0.before, c.requires.0.few)),
      most_columns_lem a.line.tag,
    )

pub column_at-form-requires : goal.column_at-form-requires
column_at-form-requires c =
    let a = c.args in
    rw c.column_of-i.ensures
    (column_inside a.layout a.line.tag a.j (omega (arith, c.requires.0.before, c.requires.0.few)))

pub put_marked-requires : goal.put_marked-requires
unfolding nth_bytes
put_marked-requires c =
    let of = c.column_of-i in
    let is = c.said_at-said.ensures in (
      rw is (c.requires.0.there.within of.result),
      rw c.in-Text.is
          at (rw (← of.ensures, ← is, ← c.column_at-form.ensures) at c.requires.1),
    )

pub put_stored-requires : goal.put_stored-requires
unfolding nth_bytes
put_stored-requires c =
    let of = c.column_of-i in
    let is = c.said_at-said.ensures in (
      rw is (c.requires.0.there.within of.result),
      rw c.in-Record.is
          at (rw (← of.ensures, ← is, ← c.column_at-form.ensures) at c.requires.1),
    )

pub returns-in-Text : goal.returns-in-Text
unfolding nth_bytes
returns-in-Text c =
    rw (
      ← c.column_of-i.ensures,
      ← c.said_at-said.ensures,
      ← c.column_at-form.ensures,
    )
    (rw c.in-Text.is c.put_marked.ensures)

pub returns-in-Record : goal.returns-in-Record
unfolding nth_bytes
returns-in-Record c =
    rw (
      ← c.column_of-i.ensures,
      ← c.said_at-said.ensures,
      ← c.column_at-form.ensures,
    )
    (rw c.in-Record.is c.put_stored.ensures)
