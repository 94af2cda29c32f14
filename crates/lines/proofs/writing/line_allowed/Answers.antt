-- `lines::writing::line_allowed` meets its contract: the entries passed are allowed.
-- Assumes nothing.
use mathlib.Core.Path.{sym, ◌∙◌}
use Prim.Native.Nat.{◌<◌}
use native.Mathlib.Omega.{arith}
use lib.ListN.{length}
use Rattle.prelude.proofs.Each.{each_fails, each_on}
use Rattle.line_layouts.specs.Columns.{columns}
use Rattle.line_layouts.specs.Entries.{Entry, Missing, entries_of}
use Rattle.line_layouts.specs.Names.{entry_allowed}
use Rattle.line_layouts.proofs.Laid.{said_at, length_entries}
use Rattle.lines.proofs.writing.line_allowed.Goals as goal

pub returns-then-not-said_allowed : goal.returns-then-not-said_allowed
returns-then-not-said_allowed c =
    let a = c.args in
    let j = c.loop-j.j in
    let full = c.requires.full in
    let count = c.column_count-j-end.ensures.0 in
    let es = entries_of a.source.now a.line in
    let told = c.said_allowed in
    let inside : j < length (columns a.line.tag) = omega arith in
    sym (c.loop-j.invariant ∙ each_fails Entry (entry_allowed a.sep) es j Missing
    (omega (arith, length_entries a.source.now a.line full))
    (rw (said_at a.source.now a.line full j inside)
    (sym told.ensures ∙ c.if-not-said_allowed.true)))

pub loop-j-preserved : goal.loop-j-preserved
loop-j-preserved c =
    let a = c.args in
    let j = c.loop-j.j in
    let full = c.requires.full in
    let count = c.column_count-j-end.ensures.0 in
    let es = entries_of a.source.now a.line in
    let told = c.said_allowed in
    let inside : j < length (columns a.line.tag) = omega arith in
    c.loop-j.invariant ∙ each_on Entry (entry_allowed a.sep) es j Missing
    (omega (arith, length_entries a.source.now a.line full))
    (rw (said_at a.source.now a.line full j inside)
    (sym told.ensures ∙ c.if-not-said_allowed.false))
