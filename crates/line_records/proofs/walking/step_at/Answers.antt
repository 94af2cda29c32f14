-- `line_records::walking::step_at` meets its contract: a field where bytes are left, else whether the body may stop.
-- Assumes nothing.
use Prim.Native.Nat.{◌-◌}
use native.Mathlib.Omega.{arith}
use lib.ListN.{length}
use borrow.Author.Tests.{le-ltb}
use Rattle.line_records.proofs.Places.{goes_field, goes_short, goes_missing}
use Rattle.line_records.proofs.walking.step_at.Goals as goal

pub returns-then-at-s : goal.returns-then-at-s
returns-then-at-s c =
    let a = c.args in
    goes_field (a.bar - a.j) a.order a.column a.s.now a.at c.if-at-s.true
    c.field_at.result c.field_at.ensures

pub returns-then-j-bar : goal.returns-then-j-bar
returns-then-j-bar c =
    let a = c.args in
    goes_short (a.bar - a.j) a.order a.column a.s.now a.at c.if-at-s.false
    (omega (arith, c.if-j-bar.true))

pub returns-else-j-bar : goal.returns-else-j-bar
returns-else-j-bar c =
    let a = c.args in (
      goes_missing (a.bar - a.j) a.order a.column a.s.now a.at c.if-at-s.false
          (omega (arith, c.if-j-bar.false)),
      c.requires,
      (λ short. tt),
      rw (le-ltb a.at (length a.s.now) c.if-at-s.false),
      rw (le-ltb a.at (length a.s.now) c.if-at-s.false),
    )
