-- `dates::reading::read_date` meets its contract: each return is one law of `read_as`, in the order of the checks.
-- Assumes nothing.
use mathlib.Core.Path.{sym, ◌∙◌}
use mathlib.Core.List.{List}
use Prim.Native.Nat.{ℕ, ◌≤◌}
use native.Mathlib.Omega.{arith}
use Rattle.months.specs.Months.{length_of, last_month}
use Rattle.dates.specs.declared.Moment.{Moment}
use Rattle.dates.specs.Dates.{month_in}
use Rattle.dates.proofs.Laws.{read_as_lem, read_late, read_no_day, read_zero, read_past, read_told}
use Rattle.dates.proofs.reading.read_date.Goals as goal
use Rattle.dates.proofs.reading.read_date.Goals.{then-month-gt1633-via-then-month-gt1633}
use Rattle.dates.proofs.reading.read_date.Goals.{then-month-gt1633-via-else-month-gt1633+then-month_length-m}
use Rattle.dates.proofs.reading.read_date.Goals.{then-t-lt1-via-then-t-lt1}
use Rattle.dates.proofs.reading.read_date.Goals.{then-t-lt1-via-else-t-lt1+then-t-gt4294967295}

pub returns-then-month-gt1633 : goal.returns-then-month-gt1633
returns-then-month-gt1633 c =
    let m : Moment = c.fields_in-m.result in
    let s : List ℕ = c.args.s.now in
    let month = c.month_in-month.ensures in
    elim c.then-month-gt1633.branch [
      | then-month-gt1633-via-then-month-gt1633 w ↦
          read_late m s (omega (arith, month, w.if-month-gt1633.true)) ∙ read_as_lem m s c.fields_in-m.ensures.0
      | then-month-gt1633-via-else-month-gt1633+then-month_length-m w ↦
          read_no_day m s (omega (arith, month, w.if-month-gt1633.false))
          (rw (← month, ← w.month_length.ensures) w.if-month_length-m.true)
          ∙ read_as_lem m s c.fields_in-m.ensures.0
    ]

pub returns-then-t-lt1 : goal.returns-then-t-lt1
returns-then-t-lt1 c =
    let m : Moment = c.fields_in-m.result in
    let s : List ℕ = c.args.s.now in
    let month : month_in m ≤ last_month = omega (arith, c.month_in-month.ensures) in
    let day : m.day ≤ length_of (month_in m) =
    rw (← c.month_in-month.ensures, ← c.month_length.ensures) c.if-month_length-m.false in
    let is = sym c.time_in-t.ensures in
    elim c.then-t-lt1.branch [
      | then-t-lt1-via-then-t-lt1 w ↦
          read_zero m s month day c.time_in-t.result is (omega (arith, w.if-t-lt1.true)) ∙ read_as_lem m s c.fields_in-m.ensures.0
      | then-t-lt1-via-else-t-lt1+then-t-gt4294967295 w ↦
          read_past m s month day c.time_in-t.result is (omega (arith, w.if-t-lt1.false)) (omega (arith, w.if-t-gt4294967295.true))
          ∙ read_as_lem m s c.fields_in-m.ensures.0
    ]

pub returns : goal.returns
returns c =
    let m : Moment = c.fields_in-m.result in
    let s : List ℕ = c.args.s.now in
    let month : month_in m ≤ last_month = omega (arith, c.month_in-month.ensures) in
    let day : m.day ≤ length_of (month_in m) =
    rw (← c.month_in-month.ensures, ← c.month_length.ensures) c.if-month_length-m.false in
    c.then_some.ensures
    ∙ read_told m s month day c.time_in-t.result (sym c.time_in-t.ensures) (omega arith) (omega arith) _ c.is_date_of.ensures
    ∙ read_as_lem m s c.fields_in-m.ensures.0
