-- The two calls, one after the other: what the first leaves in its output is what the second is given.
-- Assumes nothing.
use Rattle.std.specs.Prelude.{Option, Some, None, Ok}
use mathlib.Core.Path.{◌≡◌, refl, sym, ◌∙◌}
use mathlib.Core.Bool.{Bool, true, false}
use mathlib.Core.List.{List}
use Prim.Native.Nat.{ℕ}
use native.Mathlib.Omega.{arith}
use Rattle.prelude.specs.Each.{each}
use Rattle.answers.specs.declared.Answer.{Answer}
use Rattle.answers.specs.declared.Answer.TheVariants.{NoTime, NameNotText, UnknownOrder, NotOneRecord}
use Rattle.answers.specs.declared.Answer.TheVariants.{UnknownKind, BodyMisfit}
use Rattle.numbers.specs.declared.Order.{Order}
use Rattle.numbers.specs.Orders.{order_of}
use Rattle.kinds.specs.Kinds.{kind_of}
use Rattle.frames.specs.Frames.{rec_typ, rec_sub, body, is_record}
use Rattle.output.specs.Placed.{part, outcome, placed}
use Rattle.output.proofs.Laws.{refused_bytes, placed_part}
use Rattle.line_layouts.specs.declared.Tag.{Tag}
use Rattle.line_layouts.specs.Columns.{separator, columns}
use Rattle.line_layouts.specs.Names.{entry_allowed}
use Rattle.line_layouts.specs.Entries.{Entry, Meaning}
use Rattle.line_layouts.specs.Layouts.{text_of, record_of}
use Rattle.line_layouts.specs.Fitting.{Fitting, all_given}
use Rattle.line_layouts.specs.Judging.{Judging, Says, Faulty}
use Rattle.line_layouts.proofs.Tables.{bar_separates}
use Rattle.line_records.specs.Walks.{Fit, Fits, Misfit, meant}
use Rattle.line_records.specs.Records.{count_tag, body_means, tagged_means, meaning}
use Rattle.line_records.proofs.Records.{meant_fits}
use Rattle.line_records.proofs.Judges.{meaning_frame, meaning_tagged}
use Rattle.line_texts.specs.Texts.{line_meaning}
use Rattle.line_texts.specs.Laws.{Telling}
use Rattle.line_texts.proofs.Canonical.{canonical_read, read_tells}
use Rattle.line_texts.proofs.Tellings.{tell_fits, tell_given, tell_allowed, fits_tell}
use Rattle.lines.specs.Writing.{text_made}
use Rattle.lines.specs.Reading.{record_in}
use Rattle.lines.specs.Laws.{Writable, ReadBack, WrittenBack, ThereAndBack, OtherOrder, BackAgain}
use Rattle.lines.proofs.Made.{record_read}

-- ---- what a record says that can be written is what a line says, and the other way

pub record_fits : (order : Order) (s : List ℕ) (m : Meaning) → meaning order s ≡ Says m → Fitting m
record_fits order s m e = go (is_record order s) refl
  where
    never : {A : Type 0} (answer : Answer) → Faulty answer ≡ Says m → A
    never answer f = let no : ◌≡◌ {A = ℕ} 0 1 = cc in absurd (omega arith)

    body_fits : (tag : Tag) (b : List ℕ) (r : Fit (List Entry)) → meant order tag b ≡ r → body_means tag r ≡ Says m
        → Fitting m
    body_fits tag b Misfit is f = never BodyMisfit f
    body_fits tag b (Fits es) is f =
        let same : record { tag = tag; entries = es } ≡ m = cc in
        rw (← same) (meant_fits order tag b es is)

    tagged_fits : (t : Option Tag) (b : List ℕ) → tagged_means t order b ≡ Says m → Fitting m
    tagged_fits (Some tag) b f = body_fits tag b (meant order tag b) refl f
    tagged_fits None b f = never UnknownKind f

    go : (t : Bool) → is_record order s ≡ t → Fitting m
    go true f =
        tagged_fits (count_tag (kind_of (rec_typ s) (rec_sub s))) (body s) (sym (meaning_tagged order s f) ∙ e)
    go false f = never NotOneRecord (sym (meaning_frame order s f) ∙ e)

pub record_tells : (order : Order) (s : List ℕ) (m : Meaning) → meaning order s ≡ Says m → Writable m → Telling m
record_tells order s m e ok =
    let fit = record_fits order s m e in
    (fits_tell separator (columns m.tag) m.entries fit.0 ok.0 ok.1, fit.1)

line_fits : (m : Meaning) → Telling m → Fitting m
line_fits m t = (tell_fits separator (columns m.tag) m.entries t.0, t.1)

-- ---- a record to its line, and back

there : (other : ℕ) (second : Order) → order_of other ≡ Some second
    → (order : Order) (s old : List ℕ) (at n : ℕ) (new : List ℕ) (j : Judging) → meaning order s ≡ j
    → placed (text_made separator j) old at ≡ outcome (Ok n) new
    → ReadBack other second (meaning order s) (part at n new)
there other second is order s old at n new (Faulty answer) means e = refused_bytes answer old n new e
there other second is order s old at n new (Says m) means e =
    go (all_given (columns m.tag) m.entries) refl (each (entry_allowed separator) m.entries) refl
  where
    go : (g : Bool) → all_given (columns m.tag) m.entries ≡ g
        → (t : Bool) → each (entry_allowed separator) m.entries ≡ t
        → ReadBack other second (meaning order s) (part at n new)
    go false i t f = refused_bytes NoTime old n new (rw i at e)
    go true i false f = refused_bytes NameNotText old n new (rw (i, f) at e)
    go true i true f =
        let text = placed_part (text_of m) old at n new (rw (i, f) at e) in
        let read = canonical_read separator bar_separates m (record_tells order s m means (i, f)) in
        record {
          made = record_of second m;
          reads = λ (o : List ℕ) (a : ℕ). rw (text, is, read);
          same = record_read second m (record_fits order s m means) ∙ sym means;
        }

pub other_order : OtherOrder
other_order cpu order is other second told s old at n new e =
    there other second told order s old at n new (meaning order s) refl (rw is at e)

pub there_and_back : ThereAndBack
there_and_back cpu order is s old at n new e = other_order cpu order is cpu order is s old at n new e

-- ---- a line to its record, and back

again : (cpu : ℕ) (o : Option Order) → order_of cpu ≡ o → (line old : List ℕ) (at n : ℕ) (new : List ℕ)
    → (j : Judging) → line_meaning line ≡ j → placed (record_in o line) old at ≡ outcome (Ok n) new
    → WrittenBack cpu line (part at n new)
again cpu None is line old at n new j means e = refused_bytes UnknownOrder old n new e
again cpu (Some order) is line old at n new (Faulty answer) means e =
    refused_bytes answer old n new (rw means at e)
again cpu (Some order) is line old at n new (Says m) means e =
    let s = placed_part (record_of order m) old at n new (rw means at e) in
    let tell = read_tells separator bar_separates line m means in
    let given = tell_given separator (columns m.tag) m.entries tell.0 in
    let ok = tell_allowed separator (columns m.tag) m.entries tell.0 in
    let read = record_read order m (line_fits m tell) in
    record {
      order = order;
      told = is;
      keeps = rw s (read ∙ sym means);
      said = m;
      means = means;
      writes = λ (o : List ℕ) (a : ℕ). rw (s, is, read, given, ok);
      same = canonical_read separator bar_separates m tell ∙ sym means;
    }

pub back_again : BackAgain
back_again cpu line old at n new e =
    again cpu (order_of cpu) refl line old at n new (line_meaning line) refl e
