-- `lines::writing::write_in` meets its contract: a record without fault has its fields within its body.
-- Assumes nothing.
use mathlib.Core.Path.{◌≡◌, sym, ◌∙◌}
use mathlib.Core.Bool.{true}
use Rattle.prelude.proofs.Parts.{part_from}
use Rattle.frames.specs.Frames.{body, is_record}
use Rattle.frames.proofs.Laws.{record_header}
use Rattle.line_layouts.specs.Entries.{meaning_of}
use Rattle.line_records.proofs.Judges.{says_record}
use Rattle.lines.proofs.writing.write_in.Goals as goal

pub slice_bounds-write_said-count : goal.slice_bounds-write_said-count
slice_bounds-write_said-count c =
    let a = c.args in
    let framed : is_record a.order a.«record».now ≡ true =
    says_record a.order a.«record».now (meaning_of (body a.«record».now) c.in_ok-line.line)
    (sym c.judge_record.ensures.taken.means ∙ rw c.in_ok-line.was) in
    record_header a.order a.«record».now framed

pub slice_bounds-write_said-start : goal.slice_bounds-write_said-start
slice_bounds-write_said-start c = slice_bounds-write_said-count c

pub returns : goal.returns
returns c =
    let s = c.args.«record».now in
    rw (sym c.judge_record.ensures.taken.means, c.in_ok-line.was) (rw (part_from s 4) at c.write_said.ensures)
