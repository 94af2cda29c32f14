-- How long the canonical line of a meaning that fits is at most.
-- Assumes nothing.
use mathlib.Core.Path.{◌≡◌, refl, ap, ◌∙◌}
use mathlib.Core.Bool.{Bool, true, false, cond, not, ◌&&◌, ◌||◌}
use mathlib.Core.List.{List, [], ◌∷◌, ◌++◌}
use Prim.Native.Nat.{ℕ, zero, suc, ◌+◌, ◌/◌, ◌≤◌, ◌<◌}
use native.Mathlib.Omega.{arith}
use borrow.Author.Tests.{ltb-true, ltb-false, leb-true, not-true}
use lib.Dec.{ltb, leb}
use lib.ListN.{length, get_or, length-append}
use Rattle.prelude.proofs.Never.{false_true}
use Rattle.prelude.proofs.Both.{both_left, both_right}
use Rattle.digits.specs.Digits.{digits}
use Rattle.digits.proofs.Laws.{by_quotient, length_one, length_more, digits_some}
use Rattle.dates.proofs.Laws.{date_size}
use Rattle.line_layouts.specs.declared.Tag.{Tag}
use Rattle.line_layouts.specs.declared.Tag.TheVariants.{Pcr, Hbr, Sbr, Wir, Wrr}
use Rattle.line_layouts.specs.declared.Form.{Form}
use Rattle.line_layouts.specs.declared.Form.TheVariants.{U1, U2, U4, Time, C1, Cn}
use Rattle.line_layouts.specs.declared.Column.{Column}
use Rattle.line_layouts.specs.declared.Layout.TheVariants as layout
use Rattle.line_layouts.specs.Arranging.{arranged, all_below}
use Rattle.line_layouts.specs.Columns.{tag_text, columns, no_column, order}
use Rattle.line_layouts.specs.Entries.{Entry, Missing, Number, Text, Meaning, kept, present}
use Rattle.line_layouts.specs.Layouts.{is_name, is_time, entry_text, mark, is_last, laid, text_by}
use Rattle.line_layouts.specs.Fitting.{is_number, is_flag, letter_fits, entry_fits, entries_fit, Fitting}
use Rattle.line_layouts.proofs.Tables.{turned}
use Rattle.line_texts.proofs.Whole.{length_tag}
use Rattle.lines.specs.Laws.{most_text}

-- a greater number has no fewer digits
digits_rising : (m n : ℕ) → n ≤ m → length (digits n) ≤ length (digits m)
digits_rising =
    by_quotient (λ (m : ℕ). (n : ℕ) → n ≤ m → length (digits n) ≤ length (digits m))
    (λ m small n h. omega (arith, length_one n (omega arith), length_one m small))
    (λ m large more n h. go m large more n h (ltb n 10) refl)
  where
    go : (m : ℕ) → 10 ≤ m → ((n : ℕ) → n ≤ m / 10 → length (digits n) ≤ length (digits (m / 10)))
        → (n : ℕ) → n ≤ m → (t : Bool) → ltb n 10 ≡ t → length (digits n) ≤ length (digits m)
    go m large more n h true e = omega (arith, length_one n (ltb-true n 10 e), digits_some m)
    go m large more n h false e =
        let ten = ltb-false n 10 e in
        omega (arith, length_more n ten, length_more m large, more (n / 10) (omega arith))

-- the longest text of a column; a date has at most 20 bytes
abbrev most : Column → ℕ
most c = cond (is_time c.form) 20 (cond (is_number c.form) (length (digits c.most)) c.most)

text_untimed : (form : Form) → is_number form ≡ false → is_time form ≡ false
text_untimed U1 f = refl
text_untimed U2 f = refl
text_untimed U4 f = refl
text_untimed Time f = f
text_untimed C1 f = refl
text_untimed Cn f = refl

entry_most : (c : Column) (e : Entry) → entry_fits c e ≡ true → length (entry_text c.form e) ≤ most c
entry_most c Missing e = omega arith
entry_most c (Number n) e = go (is_time c.form) refl
  where
    plain : Bool
    plain = not (is_flag c.form c.flag n)

    small : n ≤ c.most
    small = leb-true n c.most (both_left (leb n c.most) plain (both_right (is_number c.form) (leb n c.most && plain) e))

    go : (t : Bool) → is_time c.form ≡ t → length (entry_text c.form (Number n)) ≤ most c
    go true f = rw f (date_size n).1
    go false f = rw (f, both_left (is_number c.form) (leb n c.most && plain) e) (digits_rising c.most n small)
entry_most c (Text []) e = false_true e
entry_most c (Text (b ∷ bs)) e =
    let rule = is_name c.form || letter_fits (b ∷ bs) in
    let size = leb (length (b ∷ bs)) c.most in
    let f = not-true (is_number c.form) (both_left (not (is_number c.form)) (size && rule) e) in
    rw (text_untimed c.form f, f)
    (leb-true (length (b ∷ bs)) c.most (both_left size rule (both_right (not (is_number c.form)) (size && rule) e)))

module _ (sep : ℕ) where
  abbrev laid_text : List Column → List Entry → List ℕ
  laid_text cs es = laid (layout.Text sep) cs es

  -- a field, then the rest
  laid_cons : (c : Column) (cs : List Column) (e : Entry) (es : List Entry)
      → length (laid_text (c ∷ cs) (e ∷ es)) ≡ length (entry_text c.form e) + 1 + length (laid_text cs es)
  unfolding laid
  laid_cons c cs e es =
      length-append (entry_text c.form e ++ mark sep (is_last es) ∷ []) (laid_text cs es)
      ∙ omega (arith, length-append (entry_text c.form e) (mark sep (is_last es) ∷ []))

  laid_none : (cs : List Column) → laid_text cs [] ≡ []
  unfolding laid
  laid_none [] = refl
  laid_none (c ∷ cs) = refl

  laid_kept : (c : Column) (cs : List Column) (e : Entry) (es : List Entry)
      → length (laid_text (c ∷ cs) (kept 0 e es)) ≤ length (entry_text c.form e) + 1 + length (laid_text cs es)
  laid_kept c cs Missing [] = omega (arith, ap length (laid_none (c ∷ cs)))
  laid_kept c cs Missing (x ∷ es) = omega (arith, laid_cons c cs Missing (x ∷ es))
  laid_kept c cs (Number n) es = omega (arith, laid_cons c cs (Number n) es)
  laid_kept c cs (Text bytes) es = omega (arith, laid_cons c cs (Text bytes) es)

-- the longest line of columns
abbrev total : List Column → ℕ
total [] = 0
total (c ∷ cs) = most c + 1 + total cs

laid_most : (sep : ℕ) (cs : List Column) (es : List Entry) → entries_fit cs es ≡ true
    → length (laid_text sep cs (present 0 es)) ≤ total cs
laid_most sep [] [] e = omega (arith, ap length (laid_none sep []))
laid_most sep [] (x ∷ es) e = false_true e
laid_most sep (c ∷ cs) [] e = false_true e
laid_most sep (c ∷ cs) (x ∷ es) e =
    let here = entry_most c x (both_left (entry_fits c x) (entries_fit cs es) e) in
    let behind = laid_most sep cs es (both_right (entry_fits c x) (entries_fit cs es) e) in
    omega (arith, laid_kept sep c cs x (present 0 es), here, behind)

-- entries that fit their columns fit them in any order of both
module _ (cs : List Column) (es : List Entry) (fit : entries_fit cs es ≡ true) where
  fit_at : (i : ℕ) → i < length cs → entry_fits (get_or cs i no_column) (get_or es i Missing) ≡ true
  fit_at i h = go cs es i fit h
    where
      go : (cs : List Column) (es : List Entry) (i : ℕ) → entries_fit cs es ≡ true → i < length cs
          → entry_fits (get_or cs i no_column) (get_or es i Missing) ≡ true
      go [] es i e h = absurd (omega arith)
      go (c ∷ cs) [] i e h = false_true e
      go (c ∷ cs) (x ∷ es) zero e h = both_left (entry_fits c x) (entries_fit cs es) e
      go (c ∷ cs) (x ∷ es) (suc i) e h = go cs es i (both_right (entry_fits c x) (entries_fit cs es) e) (omega arith)

  fit_arranged : (o : List ℕ) → all_below (length cs) o ≡ true
      → entries_fit (arranged no_column o cs) (arranged Missing o es) ≡ true
  fit_arranged [] below = refl
  fit_arranged (i ∷ o) below =
      rw (
        fit_at i (ltb-true i (length cs) (both_left (ltb i (length cs)) (all_below (length cs) o) below)),
        fit_arranged o (both_right (ltb i (length cs)) (all_below (length cs) o) below),
      )

-- the columns of a line, in the order of the text
abbrev texted : Tag → List Column
texted tag = arranged no_column (order tag) (columns tag)

total_most : (tag : Tag) → 4 + total (texted tag) ≤ most_text tag
unfolding digits
total_most Pcr = leb-true (4 + total (texted Pcr)) (most_text Pcr) refl
total_most Hbr = leb-true (4 + total (texted Hbr)) (most_text Hbr) refl
total_most Sbr = leb-true (4 + total (texted Sbr)) (most_text Sbr) refl
total_most Wir = leb-true (4 + total (texted Wir)) (most_text Wir) refl
total_most Wrr = leb-true (4 + total (texted Wrr)) (most_text Wrr) refl

pub text_most : (sep : ℕ) (m : Meaning) → Fitting m → length (text_by sep m) ≤ most_text m.tag
text_most sep m fit =
    let tag = m.tag in
    let cs = texted tag in
    let es = arranged Missing (order tag) m.entries in
    omega (
      arith,
      length-append (tag_text tag) (laid_text sep cs (present 0 es)),
      length_tag tag,
      laid_most sep cs es (fit_arranged (columns tag) m.entries fit.0 (order tag) (turned tag).order_in),
      total_most tag,
    )
