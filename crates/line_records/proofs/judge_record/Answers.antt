-- `line_records::judge_record` meets its contract: each return is one law of `meaning`, in the order of the checks.
-- Assumes nothing.
use mathlib.Core.Path.{◌≡◌, sym, ◌∙◌}
use mathlib.Core.Bool.{true}
use Prim.Native.Nat.{◌≤◌}
use native.Mathlib.Omega.{arith}
use lib.ListN.{length}
use Rattle.std.specs.Prelude.{Some, None}
use Rattle.prelude.proofs.Parts.{part_from}
use Rattle.answers.specs.declared.Answer.TheVariants.{NotOneRecord, UnknownKind}
use Rattle.frames.specs.Frames.{body, is_record}
use Rattle.frames.proofs.Laws.{record_header}
use Rattle.line_layouts.specs.Judging.{refusing}
use Rattle.line_layouts.proofs.Faults.{held_refused}
use Rattle.line_records.specs.Records.{meaning}
use Rattle.line_records.specs.Places.{record_line}
use Rattle.line_records.proofs.Judges.{meaning_frame, meaning_tagged}
use Rattle.line_records.proofs.judge_record.Goals as goal

pub returns-then-not-is_record : goal.returns-then-not-is_record
returns-then-not-is_record c =
    let a = c.args in
    let s = a.«record».now in
    let told = c.is_record in
    held_refused (body s) (record_line a.order s) (meaning a.order s) NotOneRecord
    (meaning_frame a.order s (sym told.ensures ∙ c.if-not-is_record.true))

pub bounds-record-2 : goal.bounds-record-2
bounds-record-2 c =
    let is : is_record c.args.order c.args.«record».now ≡ true =
    sym c.is_record.ensures ∙ c.if-not-is_record.false in
    let whole : 4 ≤ length c.args.«record».now =
    record_header c.args.order c.args.«record».now
    is in
    omega (arith, whole)

pub bounds-record-3 : goal.bounds-record-3
bounds-record-3 c =
    let is : is_record c.args.order c.args.«record».now ≡ true =
    sym c.is_record.ensures ∙ c.if-not-is_record.false in
    let whole : 4 ≤ length c.args.«record».now =
    record_header c.args.order c.args.«record».now
    is in
    omega (arith, whole)

pub slice_bounds-walk-count : goal.slice_bounds-walk-count
slice_bounds-walk-count c =
    let is : is_record c.args.order c.args.«record».now ≡ true =
    sym c.is_record.ensures ∙ c.if-not-is_record.false in
    let whole : 4 ≤ length c.args.«record».now =
    record_header c.args.order c.args.«record».now
    is in
    whole

pub slice_bounds-walk-start : goal.slice_bounds-walk-start
slice_bounds-walk-start c =
    let is : is_record c.args.order c.args.«record».now ≡ true =
    sym c.is_record.ensures ∙ c.if-not-is_record.false in
    let whole : 4 ≤ length c.args.«record».now =
    record_header c.args.order c.args.«record».now
    is in
    whole

pub returns : goal.returns
unfolding record_line
returns c =
    let is : is_record c.args.order c.args.«record».now ≡ true =
    sym c.is_record.ensures ∙ c.if-not-is_record.false in
    let a = c.args in
    let s = a.«record».now in
    let told : c.count_tag.result ≡ Some c.in_ok-tag.tag = grind arith in
    let tagged = rw c.kind_of.ensures at (sym c.count_tag.ensures ∙ told) in
    rw (meaning_tagged a.order s is, tagged) (rw (part_from s 4) at c.walk.ensures)

pub returns-in_err-tag : goal.returns-in_err-tag
returns-in_err-tag c =
    let is : is_record c.args.order c.args.«record».now ≡ true =
    sym c.is_record.ensures ∙ c.if-not-is_record.false in
    let a = c.args in
    let s = a.«record».now in
    let told : c.count_tag.result ≡ None = grind arith in
    let tagged = rw c.kind_of.ensures at (sym c.count_tag.ensures ∙ told) in
    let e : c.from_residual.result ≡ refusing UnknownKind = grind arith in
    rw e
    (held_refused (body s) (record_line a.order s) (meaning a.order s) UnknownKind
    (rw (meaning_tagged a.order s is, tagged)))
