-- `line_records::walking::number_at` meets its contract: each return is one law of the number at a place.
-- Assumes nothing.
use mathlib.Core.Path.{sym, ◌∙◌}
use Prim.Native.Nat.{◌+◌, ◌≤◌}
use native.Mathlib.Omega.{arith}
use lib.ListN.{length, drop}
use Rattle.line_layouts.specs.Columns.{width}
use Rattle.line_records.proofs.Records.{size_number}
use Rattle.line_records.proofs.Places.{number_short, number_missing, number_value, number_large}
use Rattle.line_records.proofs.walking.number_at.Goals as goal

pub returns-then-s-at : goal.returns-then-s-at
returns-then-s-at c =
    let a = c.args in
    number_short a.order a.column a.s.now a.at c.requires.1
    (omega (arith, c.if-s-at.true, c.width_of-w.ensures.0, c.requires.0))

pub returns-then-is_flag : goal.returns-then-is_flag
returns-then-is_flag c =
    let fits : c.args.at + width c.args.column.form ≤ length c.args.s.now =
    omega (arith, c.if-s-at.false, c.width_of-w.ensures.0, c.requires.0) in
    let a = c.args in
    let n = c.number_in-n in
    let size = size_number a.column.form (drop a.at a.s.now) c.requires.1 in (
      number_missing a.order a.column a.s.now a.at c.requires.1 fits n.result n.ensures
          (sym c.is_flag.ensures ∙ c.if-is_flag.true),
      omega (arith, size, c.width_of-w.ensures.0),
      omega (arith, fits, c.width_of-w.ensures.0),
    )

pub returns-then-n-column : goal.returns-then-n-column
returns-then-n-column c =
    let fits : c.args.at + width c.args.column.form ≤ length c.args.s.now =
    omega (arith, c.if-s-at.false, c.width_of-w.ensures.0, c.requires.0) in
    let a = c.args in
    let n = c.number_in-n in
    let size = size_number a.column.form (drop a.at a.s.now) c.requires.1 in (
      number_value a.order a.column a.s.now a.at c.requires.1 fits n.result n.ensures
          (sym c.is_flag.ensures ∙ c.if-is_flag.false) c.if-n-column.true,
      omega (arith, size, c.width_of-w.ensures.0),
      omega (arith, fits, c.width_of-w.ensures.0),
    )

pub returns-else-n-column : goal.returns-else-n-column
returns-else-n-column c =
    let fits : c.args.at + width c.args.column.form ≤ length c.args.s.now =
    omega (arith, c.if-s-at.false, c.width_of-w.ensures.0, c.requires.0) in
    let a = c.args in
    let n = c.number_in-n in
    number_large a.order a.column a.s.now a.at c.requires.1 fits n.result n.ensures
    (sym c.is_flag.ensures ∙ c.if-is_flag.false) c.if-n-column.false
