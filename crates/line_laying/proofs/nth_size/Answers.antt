-- `line_laying::nth_size` meets its contract: field j by its column, in either layout.
-- Assumes nothing.
use Prim.Native.Nat.{◌+◌}
use native.Mathlib.Omega.{arith}
use lib.Dec.{eqb}
use Rattle.line_layouts.specs.Entries.{entry_of}
use Rattle.line_layouts.specs.Layouts.{nth_bytes}
use Rattle.line_layouts.proofs.Laid.{most_columns_lem, column_inside, marked_size}
use Rattle.line_laying.proofs.nth_size.Goals as goal

pub said_at-said-requires : goal.said_at-said-requires
said_at-said-requires c =
    let a = c.args in
    omega (
      arith,
      c.column_of-i.ensures,
      column_inside a.layout a.line.tag a.j (omega (arith, c.requires.before, c.requires.few)),
      most_columns_lem a.line.tag,
    )

pub column_at-form-requires : goal.column_at-form-requires
column_at-form-requires c =
    let a = c.args in
    rw c.column_of-i.ensures
    (column_inside a.layout a.line.tag a.j (omega (arith, c.requires.before, c.requires.few)))

pub returns-in-Text : goal.returns-in-Text
unfolding nth_bytes
returns-in-Text c =
    let a = c.args in
    let is = c.said_at-said in
    let at = c.column_at-form in
    let e = entry_of a.source.now is.result in
    rw (← c.column_of-i.ensures, ← is.ensures, ← at.ensures)
    (rw c.in-Text.is (
      marked_size _ at.result.form e (eqb (a.j + 1) a.n) c.entry_size.ensures.0,
      omega arith,
    ))

pub returns-in-Record : goal.returns-in-Record
unfolding nth_bytes
returns-in-Record c =
    rw (
      ← c.column_of-i.ensures,
      ← c.said_at-said.ensures,
      ← c.column_at-form.ensures,
    ) (rw c.in-Record.is c.stored_size.ensures)
