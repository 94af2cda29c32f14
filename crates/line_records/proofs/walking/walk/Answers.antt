-- `line_records::walking::walk` meets its contract: the fields read, then the walk to come behind them, are the
-- whole walk.
-- Assumes nothing.
use mathlib.Core.Path.{◌≡◌, refl, ap}
use Prim.Native.Nat.{◌<◌, ◌≤◌}
use native.Mathlib.Omega.{arith}
use lib.ListN.{length, get_or, length-set}
use Rattle.answers.specs.declared.Answer.TheVariants.{BodyMisfit}
use Rattle.line_layouts.specs.declared.Said.{Said}
use Rattle.line_layouts.specs.Columns.{columns, bar, no_column}
use Rattle.line_layouts.proofs.Laid.{most_columns_lem}
use Rattle.line_layouts.proofs.Fills.{within_none, within_set}
use Rattle.line_layouts.proofs.Faults.{held_refused}
use Rattle.line_records.specs.Walks.{meant}
use Rattle.line_records.specs.Records.{body_means}
use Rattle.line_records.specs.Places.{hidden_said, line_at}
use Rattle.line_records.proofs.Places.{filled_first, filled_misfit, filled_on, filled_done}
use Rattle.line_records.proofs.Places.{filled_over, within_hidden}
use Rattle.line_records.proofs.Placing.{placing_first, placing_on, placing_done}
use Rattle.line_records.proofs.Judges.{held_said, short_column}
use Rattle.line_records.proofs.walking.walk.Goals as goal

pub loop-j-init : goal.loop-j-init
loop-j-init c =
    let a = c.args in (
      omega arith,
      refl,
      within_none a.s.now,
      filled_first (bar a.tag) a.order (columns a.tag) a.s.now _,
      placing_first a.order (columns a.tag) a.s.now,
    )

pub returns-in_default : goal.returns-in_default
returns-in_default c =
    let a = c.args in
    let s = a.s.now in
    let inside : c.loop-j.j < length (columns a.tag) =
    rw c.columns-column-items.ensures.all at c.loop-j-test.true in
    let g = rw (c.in_default.is, c.columns-column-items.ensures.all, c.bar_of-bar.ensures)
    at c.step_at.ensures in
    held_refused s (line_at a.order a.tag s) (body_means a.tag (meant a.order a.tag s)) BodyMisfit
    (ap (body_means a.tag)
    (filled_misfit (bar a.tag) a.order (columns a.tag) s c.loop-j.fields c.loop-j.at c.loop-j.gone
    c.loop-j.j c.loop-j.invariant.3 inside g))

pub loop-j-preserved : goal.loop-j-preserved
loop-j-preserved c =
    let a = c.args in
    let s = a.s.now in
    let j = c.loop-j.j in
    let f = c.in-Some.found in
    let col = get_or (columns a.tag) j no_column in
    let inside : j < length (columns a.tag) = rw c.columns-column-items.ensures.all at c.loop-j-test.true in
    let room : j < length c.loop-j.fields =
    omega (arith, c.loop-j-test.true, c.columns-column-items.ensures.few, c.loop-j.invariant.1) in
    let g = rw (c.in-Some.is, c.columns-column-items.ensures.all, c.bar_of-bar.ensures) at
    c.step_at.ensures in
    let is : c.hide-said.result ≡ hidden_said col c.loop-j.gone f = rw c.columns-column-items.ensures.all at
    c.hide-said.ensures in
    let field : Said = hidden_said col c.loop-j.gone f in (
      g.1,
      simp length-set c.loop-j.invariant.1,
      rw is (within_set s c.loop-j.fields j field room c.loop-j.invariant.2
          (within_hidden s col c.loop-j.gone f (g.2 (short_column a.tag j inside)))),
      rw (c.is_missing-gone.ensures, is)
          (filled_on (bar a.tag) a.order (columns a.tag) s c.loop-j.fields c.loop-j.at c.loop-j.gone j
          c.loop-j.invariant.3 inside f c.in-Some.next room g),
      rw (c.is_missing-gone.ensures, is)
          (placing_on a.order (columns a.tag) s c.loop-j.fields c.loop-j.at c.loop-j.gone j c.loop-j.invariant.4
          inside f c.in-Some.next g.3 g.4 room),
    )

pub returns-then-at-s : goal.returns-then-at-s
returns-then-at-s c =
    let a = c.args in
    let s = a.s.now in
    let done : length (columns a.tag) ≤ c.loop-j.j = rw c.columns-column-items.ensures.all at c.loop-j-test.false in
    held_refused s (line_at a.order a.tag s) (body_means a.tag (meant a.order a.tag s)) BodyMisfit
    (ap (body_means a.tag)
    (filled_over (bar a.tag) a.order (columns a.tag) s c.loop-j.fields c.loop-j.at c.loop-j.gone
    c.loop-j.j c.loop-j.invariant.3 done c.if-at-s.true))

pub returns : goal.returns
returns c =
    let a = c.args in
    let s = a.s.now in
    let done : length (columns a.tag) ≤ c.loop-j.j = rw c.columns-column-items.ensures.all at c.loop-j-test.false in
    let count : c.loop-j.j ≡ length (columns a.tag) =
    omega (arith, rw c.columns-column-items.ensures.all at c.loop-j.auto.j-end) in
    held_said a.order a.tag s c.loop-j.fields c.loop-j.j count c.loop-j.invariant.1 c.loop-j.invariant.2
    (filled_done (bar a.tag) a.order (columns a.tag) s c.loop-j.fields c.loop-j.at c.loop-j.gone
    c.loop-j.j c.loop-j.invariant.3 done c.if-at-s.false)
    (placing_done a.order (columns a.tag) s c.loop-j.fields c.loop-j.at c.loop-j.gone c.loop-j.j
    c.loop-j.invariant.4 done (most_columns_lem a.tag) c.loop-j.invariant.1)
