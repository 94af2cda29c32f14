-- `lines::writing::line_allowed` meets its contract: the entries passed are allowed.
-- Assumes nothing.
use mathlib.Core.Path.{◌≡◌}
use lib.ListN.{drop}
use Rattle.prelude.specs.Each.{each}
use Rattle.line_layouts.specs.Entries.{entries_of}
use Rattle.line_layouts.specs.Names.{entry_allowed}
use Rattle.lines.proofs.writing.line_allowed.Given as goal

abbrev pub invariant-loop-j : goal.invariant-loop-j
invariant-loop-j l =
    let entries = entries_of l.source l.line in
    each (entry_allowed l.sep) entries ≡ each (entry_allowed l.sep) (drop l.j entries)
