-- How long the record of a meaning that fits is at most, and that one is as long (specs/Laws.antt, RecordMost and
-- LongestRecord).
-- Assumes nothing.
use mathlib.Core.Path.{◌≡◌, refl, ap}
use mathlib.Core.Bool.{true, false, cond, ◌||◌}
use mathlib.Core.List.{List, [], ◌∷◌}
use Prim.Native.Nat.{ℕ, zero, suc, ◌+◌, ◌-◌, ◌≤◌}
use native.Mathlib.Omega.{arith}
use borrow.Author.Tests.{leb-true, eqb-true}
use lib.Dec.{eqb, leb}
use lib.ListN.{length, length-append}
use Rattle.prelude.proofs.Never.{false_true}
use Rattle.prelude.proofs.Both.{both_left, both_right}
use Rattle.numbers.specs.declared.Order.{Order}
use Rattle.numbers.specs.declared.Order.TheVariants.{HighFirst, LowFirst}
use Rattle.numbers.specs.Numbers.{written}
use Rattle.numbers.proofs.Laws.{length_written}
use Rattle.line_layouts.specs.declared.Tag.{Tag}
use Rattle.line_layouts.specs.declared.Tag.TheVariants.{Pcr, Hbr, Sbr, Wir, Wrr}
use Rattle.line_layouts.specs.declared.Form.{Form}
use Rattle.line_layouts.specs.declared.Form.TheVariants.{U1, U2, U4, Time, C1, Cn}
use Rattle.line_layouts.specs.declared.Flag.{Flag}
use Rattle.line_layouts.specs.declared.Column.{Column}
use Rattle.line_layouts.specs.declared.Layout.TheVariants as layout
use Rattle.line_layouts.specs.Columns.{columns, width, bar}
use Rattle.line_layouts.specs.Entries.{Entry, Missing, Number, Text, kept, present}
use Rattle.line_layouts.specs.Layouts.{missing_value, is_name, stored, laid, fields_of, head_of}
use Rattle.line_layouts.specs.Fitting.{is_own, letter_fits, form_sound, form_fits, entry_fits}
use Rattle.line_layouts.specs.Fitting.{entries_fit, table_sound}
use Rattle.line_layouts.proofs.Laid.{length_head}
use Rattle.line_layouts.proofs.Tables.{sound, form_sound_lem, rest_sound}
use Rattle.lines.specs.Laws.{most_body, longest, RecordMost, LongestRecord}

-- the most bytes of a field: a name has its count byte
abbrev room : Form → ℕ → ℕ
room form most = cond (is_name form) (1 + most) (width form)

width_room : (form : Form) (most : ℕ) → width form ≤ room form most
width_room U1 most = omega arith
width_room U2 most = omega arith
width_room U4 most = omega arith
width_room Time most = omega arith
width_room C1 most = omega arith
width_room Cn most = omega arith

module _ (ends : Order) where
  text_room : (form : Form) (most : ℕ) (flag : Flag) (b : ℕ) (bs : List ℕ) → form_sound form most flag ≡ true
      → form_fits form most flag (Text (b ∷ bs)) ≡ true → length (stored ends form (Text (b ∷ bs))) ≤ room form most
  text_room U1 most flag b bs sound fit = false_true fit
  text_room U2 most flag b bs sound fit = false_true fit
  text_room U4 most flag b bs sound fit = false_true fit
  text_room Time most flag b bs sound fit = false_true fit
  text_room C1 most flag b bs sound fit =
      let one = eqb-true most 1 (both_left (eqb most 1) (is_own flag) sound) in
      let few = leb-true (length (b ∷ bs)) most
      (both_left (leb (length (b ∷ bs)) most) (false || letter_fits (b ∷ bs)) fit) in
      omega (arith, one, few)
  text_room Cn most flag b bs sound fit =
      let few = leb-true (length (b ∷ bs)) most
      (both_left (leb (length (b ∷ bs)) most) (true || letter_fits (b ∷ bs)) fit) in
      let count = written ends 1 (length (b ∷ bs)) in
      omega (arith, few, length-append count (b ∷ bs), length_written ends 1 (length (b ∷ bs)))

  stored_room : (form : Form) (most : ℕ) (flag : Flag) (e : Entry) → form_sound form most flag ≡ true
      → form_fits form most flag e ≡ true → length (stored ends form e) ≤ room form most
  stored_room form most flag Missing sound fit =
      omega (arith, length_written ends (width form) (missing_value form), width_room form most)
  stored_room form most flag (Number n) sound fit =
      omega (arith, length_written ends (width form) n, width_room form most)
  stored_room form most flag (Text []) sound fit = false_true fit
  stored_room form most flag (Text (b ∷ bs)) sound fit = text_room form most flag b bs sound fit

  abbrev laid_in : List Column → List Entry → List ℕ
  laid_in cs es = laid (layout.Record ends) cs es

  laid_cons : (c : Column) (cs : List Column) (e : Entry) (es : List Entry)
      → length (laid_in (c ∷ cs) (e ∷ es)) ≡ length (stored ends c.form e) + length (laid_in cs es)
  unfolding laid
  laid_cons c cs e es = length-append (stored ends c.form e) (laid_in cs es)

  laid_none : (cs : List Column) → laid_in cs [] ≡ []
  unfolding laid
  laid_none [] = refl
  laid_none (c ∷ cs) = refl

  laid_kept : (c : Column) (cs : List Column) (k : ℕ) (e : Entry) (es : List Entry)
      → length (laid_in (c ∷ cs) (kept k e es)) ≤ length (stored ends c.form e) + length (laid_in cs es)
  laid_kept c cs zero Missing [] = omega (arith, ap length (laid_none (c ∷ cs)))
  laid_kept c cs zero Missing (x ∷ es) = omega (arith, laid_cons c cs Missing (x ∷ es))
  laid_kept c cs zero (Number n) es = omega (arith, laid_cons c cs (Number n) es)
  laid_kept c cs zero (Text bytes) es = omega (arith, laid_cons c cs (Text bytes) es)
  laid_kept c cs (suc k) e es = omega (arith, laid_cons c cs e es)

-- the longest body of columns
abbrev total : List Column → ℕ
total [] = 0
total (c ∷ cs) = room c.form c.most + total cs

laid_most : (ends : Order) (k : ℕ) (cs : List Column) (es : List Entry) → table_sound k cs ≡ true
    → entries_fit cs es ≡ true → length (laid_in ends cs (present k es)) ≤ total cs
laid_most ends k [] [] s e = omega (arith, ap length (laid_none ends []))
laid_most ends k [] (x ∷ es) s e = false_true e
laid_most ends k (c ∷ cs) [] s e = false_true e
laid_most ends k (c ∷ cs) (x ∷ es) s e =
    let here = stored_room ends c.form c.most c.flag x (form_sound_lem k c cs s)
    (both_left (entry_fits c x) (entries_fit cs es) e) in
    let behind = laid_most ends (k - 1) cs es (rest_sound k c cs s) (both_right (entry_fits c x)
    (entries_fit cs es) e) in
    omega (arith, laid_kept ends c cs k x (present (k - 1) es), here, behind)

total_most : (tag : Tag) → total (columns tag) ≤ most_body tag
total_most Pcr = leb-true (total (columns Pcr)) (most_body Pcr) refl
total_most Hbr = leb-true (total (columns Hbr)) (most_body Hbr) refl
total_most Sbr = leb-true (total (columns Sbr)) (most_body Sbr) refl
total_most Wir = leb-true (total (columns Wir)) (most_body Wir) refl
total_most Wrr = leb-true (total (columns Wrr)) (most_body Wrr) refl

pub record_most : RecordMost
record_most order m fit =
    let tag = m.tag in
    let b = fields_of (layout.Record order) m in
    let head = head_of (layout.Record order) tag (length b) in
    omega (
      arith,
      length-append head b,
      length_head (layout.Record order) tag (length b),
      laid_most order (bar tag) (columns tag) m.entries (sound tag) fit.0,
      total_most tag,
    )

pub longest_record : LongestRecord
unfolding longest laid
longest_record HighFirst Pcr = refl
longest_record HighFirst Hbr = refl
longest_record HighFirst Sbr = refl
longest_record HighFirst Wir = refl
longest_record HighFirst Wrr = refl
longest_record LowFirst Pcr = refl
longest_record LowFirst Hbr = refl
longest_record LowFirst Sbr = refl
longest_record LowFirst Wir = refl
longest_record LowFirst Wrr = refl
