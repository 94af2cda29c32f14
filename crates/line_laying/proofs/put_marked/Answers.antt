-- `line_laying::put_marked` meets its contract: the entry, then the mark in the part behind it.
-- Assumes nothing.
use mathlib.Core.List.{[], ◌∷◌}
use Rattle.output.proofs.Laws.{both}
use Rattle.line_layouts.specs.Entries.{entry_of}
use Rattle.line_layouts.specs.Layouts.{entry_text, mark}
use Rattle.line_laying.proofs.put_marked.Goals as goal

pub returns : goal.returns
returns c =
    let a = c.args in
    let p = c.put_entry-n in
    let q = c.put in
    let text = entry_text a.form (entry_of a.source.now a.said) in
    both text (mark a.sep a.last ∷ []) a.out.now c.requires.1
    p.new.out p.result p.ensures
    q.new.out q.result (rw c.mark_of.ensures at q.ensures)
