-- `line_texts::contents::sites_fit` meets its contract: the fields passed are as they must be beside each other.
-- Assumes nothing.
use mathlib.Core.Path.{sym, ◌∙◌}
use Prim.Native.Nat.{◌<◌}
use lib.ListN.{length}
use Rattle.line_layouts.specs.Columns.{columns}
use Rattle.line_texts.proofs.Whole.{sitting_no, sitting_on, sitting_end}
use Rattle.line_texts.proofs.contents.sites_fit.Goals as goal

pub returns-then-not-sits_at : goal.returns-then-not-sits_at
returns-then-not-sits_at c =
    let all = c.columns-column-items.ensures.all in
    let inside : c.loop-j.j < length (columns c.args.line.tag) = rw all at c.loop-j-test.true in
    sitting_no c.args.line c.requires c.loop-j.j c.loop-j.gone c.loop-j.invariant inside
    (rw (← all, ← c.is_missing-none.ensures) (sym c.sits_at.ensures ∙ c.if-not-sits_at.true))

pub loop-j-preserved : goal.loop-j-preserved
loop-j-preserved c =
    let all = c.columns-column-items.ensures.all in
    let inside : c.loop-j.j < length (columns c.args.line.tag) = rw all at c.loop-j-test.true in
    rw c.is_missing-none.ensures
    (sitting_on c.args.line c.requires c.loop-j.j c.loop-j.gone c.loop-j.invariant inside
    (rw (← all, ← c.is_missing-none.ensures) (sym c.sits_at.ensures ∙ c.if-not-sits_at.false)))

pub returns : goal.returns
returns c =
    sitting_end c.args.line c.requires c.loop-j.j c.loop-j.gone c.loop-j.invariant
    (rw c.columns-column-items.ensures.all at c.loop-j-test.false)
