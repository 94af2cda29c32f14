-- `later_records::judge_later` meets its contract: each return is one case of `judge_later`, in the order of the
-- checks. A record that passed the first has its header, so its type, subtype and body may be read.
-- Assumes nothing.
use Rattle.std.proofs.Common.{rules}
use Rattle.prelude.proofs.Parts.{part_from}
use Rattle.frames.proofs.Laws.{record_header}
use Rattle.later_records.specs.Later.{judge_later}
use Rattle.later_records.proofs.judge_later.Goals as goal

pub returns-then-not-is_record : goal.returns-then-not-is_record
unfolding judge_later
returns-then-not-is_record c = search rules

pub bounds-rec-2 : goal.bounds-rec-2
bounds-rec-2 c = search (rules, record_header)

pub bounds-rec-3 : goal.bounds-rec-3
bounds-rec-3 c = search (rules, record_header)

pub returns-then-not-is_known : goal.returns-then-not-is_known
unfolding judge_later
returns-then-not-is_known c = search rules

pub returns-in_default : goal.returns-in_default
unfolding judge_later
returns-in_default c = search rules

pub slice_bounds-read_body-count : goal.slice_bounds-read_body-count
slice_bounds-read_body-count c = search (rules, record_header)

pub slice_bounds-read_body-start : goal.slice_bounds-read_body-start
slice_bounds-read_body-start c = search (rules, record_header)

pub returns-in_default-read_body : goal.returns-in_default-read_body
unfolding judge_later
returns-in_default-read_body c =
    let whole = part_from c.args.rec.now 4 in search rules

pub returns : goal.returns
unfolding judge_later
returns c =
    let whole = part_from c.args.rec.now 4 in search rules
