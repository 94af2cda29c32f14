-- `lines::writing::line_given` meets its contract: the fields passed are given.
-- Assumes nothing.
use mathlib.Core.Path.{sym, ◌∙◌}
use Prim.Native.Nat.{◌<◌}
use lib.ListN.{length}
use Rattle.line_layouts.specs.Columns.{columns}
use Rattle.lines.proofs.Giving.{giving_no, giving_on, giving_end}
use Rattle.lines.proofs.writing.line_given.Goals as goal

pub returns-then-not-said_given : goal.returns-then-not-said_given
returns-then-not-said_given c =
    let a = c.args in
    let all = c.columns-column-items.ensures.all in
    let inside : c.loop-j.j < length (columns a.line.tag) = rw all at c.loop-j-test.true in
    giving_no a.line c.requires c.loop-j.j c.loop-j.invariant inside
    (rw (← all) (sym c.said_given.ensures ∙ c.if-not-said_given.true))

pub loop-j-preserved : goal.loop-j-preserved
loop-j-preserved c =
    let a = c.args in
    let all = c.columns-column-items.ensures.all in
    let inside : c.loop-j.j < length (columns a.line.tag) = rw all at c.loop-j-test.true in
    giving_on a.line c.requires c.loop-j.j c.loop-j.invariant inside
    (rw (← all) (sym c.said_given.ensures ∙ c.if-not-said_given.false))

pub returns : goal.returns
returns c =
    giving_end c.args.line c.requires c.loop-j.j c.loop-j.invariant
    (rw c.columns-column-items.ensures.all at c.loop-j-test.false)
