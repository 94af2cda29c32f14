-- The statements of specs/Laws.antt, proved.
-- Assumes nothing.
use Rattle.std.specs.Prelude.{Option, Some, None}
use mathlib.Core.Path.{◌≡◌, refl, ap, sym, subst, ◌∙◌}
use mathlib.Core.Bool.{Bool, true, false, cond, not, ◌&&◌, ◌||◌}
use mathlib.Core.List.{List, [], ◌∷◌, ◌++◌, append_assoc, append-nil}
use Prim.Native.Nat.{ℕ, zero, suc, ◌+◌, ◌-◌, ◌≤◌, ◌<◌, ◌^◌}
use Prim.Native.Char.{code}
use native.Mathlib.Omega.{arith}
use borrow.Author.Tests.{leb-true, le-leb, eqb-true, eq-eqb, ne_eqb, not-true}
use lib.Dec.{eqb, leb}
use lib.ListN.{length, get_or, take, drop, length-append, length-take, get_or-append}
use lib.Seq.{take_all, take_at, get_or_at}
use Rattle.prelude.specs.Each.{each}
use Rattle.prelude.proofs.Never.{false_true}
use Rattle.prelude.proofs.Both.{both_left, both_right}
use Rattle.prelude.proofs.Each.{each_append, each_take, each_at}
use Rattle.digits.specs.Digits.{digits, is_digit}
use Rattle.digits.proofs.Laws.{digits_digits, digits_some, numeral_digits}
use Rattle.dates.specs.Dates.{date_text, date_byte}
use Rattle.dates.proofs.Laws.{date_read, date_size, date_bytes}
use Rattle.line_layouts.specs.declared.Tag.{Tag}
use Rattle.line_layouts.specs.declared.Tag.TheVariants.{Pcr, Hbr, Sbr, Wir, Wrr}
use Rattle.line_layouts.specs.declared.Form.{Form}
use Rattle.line_layouts.specs.declared.Column.{Column}
use Rattle.line_layouts.specs.declared.Layout.TheVariants as layout
use Rattle.line_layouts.specs.Columns.{separator, line_feed, carriage_return, tag_text, columns, no_column, bar, order}
use Rattle.line_layouts.specs.Columns.{back}
use Rattle.line_layouts.specs.Arranging.{arranged}
use Rattle.line_layouts.specs.Names.{allowed, is_capital, entry_allowed}
use Rattle.line_layouts.specs.Entries.{Entry, Missing, Number, Text, Meaning, kept, present}
use Rattle.line_layouts.specs.Layouts.{is_name, is_time, number_text, entry_text, laid, text_by}
use Rattle.line_layouts.specs.Fitting.{is_number, has_flag, is_flag, is_letter, letter_fits, entry_fits, sits}
use Rattle.line_layouts.specs.Fitting.{given, table_sound}
use Rattle.line_layouts.proofs.Arranging.{length_arranged, arranged_at, arranged_same, put_back}
use Rattle.line_layouts.proofs.Tables.{sound, turned, Sane, sane, form_sound_lem, rest_sound, bar_separates}
use Rattle.line_layouts.proofs.Tables.{Apart, apart}
use Rattle.line_layouts.specs.Judging.{Says}
use Rattle.line_texts.specs.Pieces.{onto, split, gathered, numeral_in, number_fits, number_in}
use Rattle.line_texts.specs.Pieces.{value_in, piece_fits, entry_in, fields_fit, entries_in}
use Rattle.line_texts.specs.Texts.{is_break, content, unbroken, tag_of, fields_mean}
use Rattle.line_texts.specs.Texts.{tagged_means, content_means, line_meaning_by}
use Rattle.line_texts.specs.Laws.{tells, all_tell, TellingBy, CanonicalRead, ReadTells}
use Rattle.line_texts.specs.Laws.{CanonicalOnce, ReadAgain}
use Rattle.line_texts.proofs.Joins.{joined, lined}
use Rattle.line_texts.proofs.Whole.{ending_feed, not_said, says_same, mean_said, mean_is}
use Rattle.line_texts.proofs.Whole.{content_tagged, length_tag}
use Rattle.line_texts.proofs.Fits.{Ranged, ranged, numeral_least}

-- ---- bytes that neither separate nor break

each_weak : (f g : ℕ → Bool) → ((b : ℕ) → f b ≡ true → g b ≡ true) → (s : List ℕ) → each f s ≡ true → each g s ≡ true
each_weak f g h [] e = refl
each_weak f g h (b ∷ s) e =
    rw (h b (both_left (f b) (each f s) e), each_weak f g h s (both_right (f b) (each f s) e))

-- what may stand in a field
abbrev plain : ℕ → ℕ → Bool
plain sep b = not (eqb b sep) && not (is_break b)

-- a byte that is of a kind is not one that is not
other_by : (f : ℕ → Bool) (c b : ℕ) → f c ≡ false → f b ≡ true → eqb b c ≡ false
other_by f c b other is = ne_eqb b c (λ (i : b ≡ c). false_true {A = ⊥} (sym other ∙ ap f (sym i) ∙ is))

plain_by : (f : ℕ → Bool) (sep : ℕ) → f sep ≡ false → f 10 ≡ false → f 13 ≡ false → (b : ℕ) → f b ≡ true
    → plain sep b ≡ true
plain_by f sep s l c b e = rw (other_by f sep b s e, other_by f 10 b l e, other_by f 13 b c e)

plain_digit : (sep : ℕ) → Apart sep → (b : ℕ) → is_digit b ≡ true → plain sep b ≡ true
unfolding is_digit
plain_digit sep ok b e = plain_by is_digit sep ok.digit refl refl b e

-- #103: a date is of digits, capitals, colon, minus and space
plain_date : (sep : ℕ) → Apart sep → (b : ℕ) → date_byte b ≡ true → plain sep b ≡ true
unfolding date_byte is_digit
plain_date sep ok b e = plain_by date_byte sep (date_apart sep ok) refl refl b e
  where
    date_apart : (c : ℕ) → Apart c → date_byte c ≡ false
    date_apart c other =
        let space = ne_eqb c (code " ") (λ (i : c ≡ code " "). absurd (omega (arith, other.low))) in
        rw (other.digit, other.capital, other.colon, other.minus, space)

plain_allowed : (sep b : ℕ) → allowed sep b ≡ true → plain sep b ≡ true
unfolding allowed
plain_allowed sep b e =
    let low = leb-true 32 b (both_left (leb 32 b) (leb b 126 && not (eqb b sep)) e) in
    let other = both_right (leb b 126) (not (eqb b sep)) (both_right (leb 32 b) (leb b 126 && not (eqb b sep)) e) in
    rw (other, ne_eqb b 10 (λ (i : b ≡ 10). absurd (omega arith)), ne_eqb b 13 (λ (i : b ≡ 13). absurd (omega arith)))

-- P and F do not separate
letter_allowed : (sep : ℕ) → Apart sep → (b : ℕ) → is_letter b ≡ true → allowed sep b ≡ true
unfolding allowed
letter_allowed sep ok b e = go (eqb b (code "P")) refl (eqb b (code "F")) refl
  where
    go : (t : Bool) → eqb b (code "P") ≡ t → (u : Bool) → eqb b (code "F") ≡ u
        → (leb 32 b && (leb b 126 && not (eqb b sep))) ≡ true
    go true f u g = rw (eqb-true b (code "P") f, other_by is_capital sep (code "P") ok.capital refl)
    go false f true g = rw (eqb-true b (code "F") g, other_by is_capital sep (code "F") ok.capital refl)
    go false f false g = false_true (rw (f, g) at e)

-- ---- one entry: its text is plain, and is read back as the entry

-- a number's text is plain, is some, and says the number: a date where it is a time
record Spoken (sep : ℕ) (form : Form) (n : ℕ) : Type 0 where
  clean : each (plain sep) (number_text form n) ≡ true
  some : 1 ≤ length (number_text form n)
  says : numeral_in form (number_text form n) ≡ Some n

spoken : (sep : ℕ) → Apart sep → (form : Form) (n : ℕ) → n < 2 ^ 32 → (is_time form ≡ true → 1 ≤ n) → Spoken sep form n
spoken sep ok form n small least = go (is_time form) refl
  where
    go : (t : Bool) → is_time form ≡ t → Spoken sep form n
    go true e =
        record {
          clean = rw e (each_weak date_byte (plain sep) (plain_date sep ok) (date_text n) (date_bytes n (omega arith)));
          some = rw e (omega (arith, (date_size n).0));
          says = rw (e, date_read n (least e) (omega arith));
        }
    go false e =
        record {
          clean = rw e (each_weak is_digit (plain sep) (plain_digit sep ok) (digits n) (digits_digits n));
          some = rw e (digits_some n);
          says = rw e (numeral_digits n small);
        }

module _ (sep : ℕ) (c : Column) (ok : Sane c) (range : Ranged c) where
  number_reads : (n : ℕ) (s : List ℕ) → 1 ≤ length s → numeral_in c.form s ≡ Some n → is_number c.form ≡ true
      → leb n c.most ≡ true → (piece_fits sep c s ≡ true) × (entry_in c s ≡ Number n)
  unfolding piece_fits entry_in
  number_reads n [] some value f g = absurd (omega arith)
  number_reads n (b ∷ bs) some value f g = (rw (f, value) g, rw (f, value))

  text_reads : (b : ℕ) (bs : List ℕ) → is_number c.form ≡ false → length (b ∷ bs) ≤ c.most
      → (is_name c.form || letter_fits (b ∷ bs)) ≡ true → each (allowed sep) (b ∷ bs) ≡ true
      → (piece_fits sep c (b ∷ bs) ≡ true) × (entry_in c (b ∷ bs) ≡ Text (b ∷ bs))
  unfolding piece_fits entry_in
  text_reads b bs f g h clean =
      (rw f (go (is_name c.form) refl), rw f (ap Text (take_all c.most (b ∷ bs) g)))
    where
      go : (t : Bool) → is_name c.form ≡ t
          → cond (is_name c.form) (each (allowed sep) (b ∷ bs)) (letter_fits (b ∷ bs)) ≡ true
      go true e = rw e clean
      go false e = rw e (rw e at h)

  -- an entry's text is plain, fits its column, and says the entry
  entry_reads : Apart sep → (e : Entry) → tells sep c e ≡ true
      → (each (plain sep) (entry_text c.form e) ≡ true) × (piece_fits sep c (entry_text c.form e) ≡ true)
      × (entry_in c (entry_text c.form e) ≡ e)
  unfolding piece_fits entry_in
  entry_reads apart Missing e =
      let there = both_left (not c.required) true (both_right (has_flag c.flag) (not c.required && true) e) in
      (refl, there, refl)
  entry_reads apart (Number n) e =
      let other = not (is_flag c.form c.flag n) in
      let fit = both_left (is_number c.form && (leb n c.most && other)) true e in
      let f = both_left (is_number c.form) (leb n c.most && other) fit in
      let in_range = both_right (is_number c.form) (leb n c.most && other) fit in
      let g = both_left (leb n c.most) other in_range in
      let h = both_right (leb n c.most) other in_range in
      let small : n < 2 ^ 32 = omega (arith, leb-true n c.most g, ok.most) in
      let text = spoken sep apart c.form n small (λ (t : is_time c.form ≡ true). range.least n t h) in
      let r = number_reads n (number_text c.form n) text.some text.says f g in
      (text.clean, r.0, r.1)
  entry_reads apart (Text []) e = false_true e
  entry_reads apart (Text (b ∷ bs)) e =
      let rule = is_name c.form || letter_fits (b ∷ bs) in
      let size = leb (length (b ∷ bs)) c.most in
      let clean = each (allowed sep) (b ∷ bs) in
      let all = not (is_number c.form) && (size && rule) in
      let fit = both_left all clean e in
      let f = not-true (is_number c.form) (both_left (not (is_number c.form)) (size && rule) fit) in
      let g = both_left size rule (both_right (not (is_number c.form)) (size && rule) fit) in
      let h = both_right size rule (both_right (not (is_number c.form)) (size && rule) fit) in
      let r = text_reads b bs f (leb-true (length (b ∷ bs)) c.most g) h (both_right all clean e) in
      (each_weak (allowed sep) (plain sep) (plain_allowed sep) (b ∷ bs) (both_right all clean e), r.0, r.1)

-- ---- all of them, in the order of the columns

abbrev texts : List Column → List Entry → List (List ℕ)
texts [] es = []
texts (c ∷ cs) [] = []
texts (c ∷ cs) (e ∷ es) = entry_text c.form e ∷ texts cs es

text_at : (cs : List Column) (es : List Entry) → length es ≤ length cs → (i : ℕ)
    → get_or (texts cs es) i [] ≡ entry_text (get_or cs i no_column).form (get_or es i Missing)
text_at [] [] h i = refl
text_at [] (e ∷ es) h i = absurd (omega arith)
text_at (c ∷ cs) [] h i = refl
text_at (c ∷ cs) (e ∷ es) h zero = refl
text_at (c ∷ cs) (e ∷ es) h (suc i) = text_at cs es (omega arith) i

length_texts : (cs : List Column) (es : List Entry) → length es ≤ length cs → length (texts cs es) ≡ length es
length_texts [] [] h = refl
length_texts [] (e ∷ es) h = absurd (omega arith)
length_texts (c ∷ cs) [] h = refl
length_texts (c ∷ cs) (e ∷ es) h = ap suc (length_texts cs es (omega arith))

module _ (sep : ℕ) (apart : Apart sep) where
  pieces_read : (k : ℕ) (cs : List Column) (es : List Entry) → table_sound k cs ≡ true → all_tell sep cs es ≡ true
      → (fields_fit sep cs (texts cs es) ≡ true) × (entries_in cs (texts cs es) ≡ es)
  unfolding fields_fit entries_in
  pieces_read k [] [] ok e = (refl, refl)
  pieces_read k [] (x ∷ es) ok e = false_true e
  pieces_read k (c ∷ cs) [] ok e = false_true e
  pieces_read k (c ∷ cs) (x ∷ es) ok e =
      let one = both_left (tells sep c x) (all_tell sep cs es) e in
      let r = entry_reads sep c (sane k c cs ok) (ranged c (form_sound_lem k c cs ok)) apart x one in
      let ih = pieces_read (k - 1) cs es (rest_sound k c cs ok) (both_right (tells sep c x) (all_tell sep cs es) e) in
      (rw (r.1, ih.0), rw (r.2, ih.1))

  -- past the last one nothing stands, which is plain
  pieces_plain : (k : ℕ) (cs : List Column) (es : List Entry) → table_sound k cs ≡ true → all_tell sep cs es ≡ true
      → (i : ℕ) → each (plain sep) (get_or (texts cs es) i []) ≡ true
  pieces_plain k [] [] ok e i = refl
  pieces_plain k [] (x ∷ es) ok e i = false_true e
  pieces_plain k (c ∷ cs) [] ok e i = false_true e
  pieces_plain k (c ∷ cs) (x ∷ es) ok e zero =
      let one = both_left (tells sep c x) (all_tell sep cs es) e in
      (entry_reads sep c (sane k c cs ok) (ranged c (form_sound_lem k c cs ok)) apart x one).0
  pieces_plain k (c ∷ cs) (x ∷ es) ok e (suc i) =
      pieces_plain (k - 1) cs es (rest_sound k c cs ok) (both_right (tells sep c x) (all_tell sep cs es) e) i

each_plain : (sep : ℕ) (ps : List (List ℕ)) → ((i : ℕ) → each (plain sep) (get_or ps i []) ≡ true)
    → each (each (plain sep)) ps ≡ true
each_plain sep [] all = refl
each_plain sep (p ∷ ps) all = rw (all 0, each_plain sep ps (λ (i : ℕ). all (suc i)))

-- ---- in the order of the text, without the missing ones at the end

kept_at : (e : Entry) (es : List Entry) (i : ℕ) → get_or (kept 0 e es) i Missing ≡ get_or (e ∷ es) i Missing
kept_at Missing [] zero = refl
kept_at Missing [] (suc i) = refl
kept_at Missing (x ∷ es) i = refl
kept_at (Number n) es i = refl
kept_at (Text bytes) es i = refl

-- what is dropped says nothing
present_at : (es : List Entry) (i : ℕ) → get_or (present 0 es) i Missing ≡ get_or es i Missing
present_at [] i = refl
present_at (e ∷ es) zero = kept_at e (present 0 es) 0
present_at (e ∷ es) (suc i) = kept_at e (present 0 es) (suc i) ∙ present_at es i

kept_most : (e : Entry) (es : List Entry) → length (kept 0 e es) ≤ suc (length es)
kept_most Missing [] = omega arith
kept_most Missing (x ∷ es) = omega arith
kept_most (Number n) es = omega arith
kept_most (Text bytes) es = omega arith

present_most : (es : List Entry) → length (present 0 es) ≤ length es
present_most [] = omega arith
present_most (x ∷ es) = omega (arith, kept_most x (present 0 es), present_most es)

-- what a line shows of entries
abbrev shown : Tag → List Entry → List Entry
shown tag es = present 0 (arranged Missing (order tag) es)

module _ (tag : Tag) (es : List Entry) where
  shown_at : (i : ℕ) → get_or (shown tag es) i Missing ≡ get_or es (get_or (order tag) i (length es)) Missing
  shown_at i =
      present_at (arranged Missing (order tag) es) i ∙ arranged_at Entry Missing (order tag) es i

  shown_few : length (shown tag es) ≤ length (columns tag)
  shown_few =
      omega (
        arith,
        present_most (arranged Missing (order tag) es),
        length_arranged Entry Missing (order tag) es,
        (turned tag).order_all,
      )

-- .. and the texts of it
abbrev shown_columns : Tag → List Column
shown_columns tag = arranged no_column (order tag) (columns tag)

abbrev shown_texts : Tag → List Entry → List (List ℕ)
shown_texts tag es = texts (shown_columns tag) (shown tag es)

module _ (tag : Tag) (es : List Entry) (size : length es ≡ length (columns tag)) where
  shown_back : arranged Missing (back tag) (shown tag es) ≡ es
  shown_back =
      arranged_same Entry Missing (back tag) (shown tag es) (arranged Missing (order tag) es)
      (present_at (arranged Missing (order tag) es))
      ∙ put_back Entry Missing es (order tag) (back tag) (rw size (turned tag))

  length_columns : length (shown_columns tag) ≡ length (columns tag)
  length_columns = length_arranged Column no_column (order tag) (columns tag) ∙ (turned tag).order_all

  -- the text of field number i is that of its column
  shown_text : (i : ℕ)
      → get_or (shown_texts tag es) i [] ≡ get_or (texts (columns tag) es) (get_or (order tag) i (length es)) []
  shown_text i =
      text_at (shown_columns tag) (shown tag es) (omega (arith, shown_few tag es, length_columns)) i
      ∙ rw (shown_at tag es i, arranged_at Column no_column (order tag) (columns tag) i, ← size)
      (sym (text_at (columns tag) es (omega arith) (get_or (order tag) i (length es))))

  -- the pieces of a line are gathered to those of the columns
  shown_gathered : gathered tag (shown_texts tag es) ≡ texts (columns tag) es
  shown_gathered =
      let ps = texts (columns tag) es in
      let all : length ps ≡ length es = length_texts (columns tag) es (omega arith) in
      arranged_same (List ℕ) [] (back tag) (shown_texts tag es) (arranged [] (order tag) ps)
      (λ (i : ℕ). shown_text i ∙ sym (rw (← all) (arranged_at (List ℕ) [] (order tag) ps i)))
      ∙ put_back (List ℕ) [] ps (order tag) (back tag) (rw (all, size) (turned tag))

  -- what says something shows something
  shown_none : shown tag es ≡ [] → (i : ℕ) → get_or es i Missing ≡ Missing
  shown_none e i =
      ap (λ (l : List Entry). get_or l i Missing) (sym shown_back)
      ∙ ap (λ (l : List Entry). get_or (arranged Missing (back tag) l) i Missing) e
      ∙ arranged_at Entry Missing (back tag) [] i

-- some field is required of every tag
abbrev required : List Column → Bool
required [] = false
required (c ∷ cs) = c.required || required cs

required_some : (tag : Tag) → required (columns tag) ≡ true
required_some Pcr = refl
required_some Hbr = refl
required_some Sbr = refl
required_some Wir = refl
required_some Wrr = refl

-- so what a line tells is not all missing
never_none : {A : Type 0} (sep : ℕ) (cs : List Column) (es : List Entry) → required cs ≡ true
    → all_tell sep cs es ≡ true → ((i : ℕ) → get_or es i Missing ≡ Missing) → A
never_none sep [] es r e all = false_true r
never_none sep (c ∷ cs) [] r e all = false_true e
never_none {A} sep (c ∷ cs) (x ∷ es) r e all =
    go c.required refl
    (λ (f : required cs ≡ true). never_none sep cs es f (both_right (tells sep c x) (all_tell sep cs es) e)
    (λ (i : ℕ). all (suc i)))
  where
    there : given c x ≡ true
    there =
        both_left (given c x) (entry_allowed sep x)
        (both_right (entry_fits c x) (given c x && entry_allowed sep x) (both_left (tells sep c x)
        (all_tell sep cs es) e))

    go : (t : Bool) → c.required ≡ t → (required cs ≡ true → A) → A
    go true f more = let none : x ≡ Missing = all 0 in false_true (rw (none, f) at there)
    go false f more = more (rw f at r)

-- ---- pieces joined by separators, and cut again

module _ (sep : ℕ) where
  no_separator : (b : ℕ) (p : List ℕ) → each (plain sep) (b ∷ p) ≡ true → eqb b sep ≡ false
  no_separator b p e =
      not-true (eqb b sep)
      (both_left (not (eqb b sep)) (not (is_break b)) (both_left (plain sep b) (each (plain sep) p) e))

  split_last : (p : List ℕ) → each (plain sep) p ≡ true → split sep p ≡ p ∷ []
  unfolding split
  split_last [] e = refl
  split_last (b ∷ p) e =
      rw (no_separator b p e) (ap (onto b) (split_last p (both_right (plain sep b) (each (plain sep) p) e)))

  split_more : (p s : List ℕ) → each (plain sep) p ≡ true → split sep (p ++ sep ∷ s) ≡ p ∷ split sep s
  unfolding split
  split_more [] s e = rw (eq-eqb sep sep refl)
  split_more (b ∷ p) s e =
      rw (no_separator b p e) (ap (onto b) (split_more p s (both_right (plain sep b) (each (plain sep) p) e)))

  split_joined : (p : List ℕ) (qs : List (List ℕ)) → each (plain sep) p ≡ true → each (each (plain sep)) qs ≡ true
      → split sep (joined sep p qs) ≡ p ∷ qs
  unfolding joined
  split_joined p [] e f = split_last p e
  split_joined p (q ∷ qs) e f =
      split_more p (joined sep q qs) e
      ∙ ap (λ (l : List (List ℕ)). p ∷ l)
      (split_joined q qs (both_left (each (plain sep) q) (each (each (plain sep)) qs) f)
      (both_right (each (plain sep) q) (each (each (plain sep)) qs) f))

  unbroken_plain : (s : List ℕ) → each (plain sep) s ≡ true → unbroken s ≡ true
  unbroken_plain s e =
      each_weak (plain sep) (λ (b : ℕ). not (is_break b)) (λ b f. both_right (not (eqb b sep)) (not (is_break b)) f) s e

  unbroken_joined : is_break sep ≡ false → (p : List ℕ) (qs : List (List ℕ)) → each (plain sep) p ≡ true
      → each (each (plain sep)) qs ≡ true → unbroken (joined sep p qs) ≡ true
  unfolding joined
  unbroken_joined other p [] e f = unbroken_plain p e
  unbroken_joined other p (q ∷ qs) e f =
      rw (
        each_append ℕ (λ (b : ℕ). not (is_break b)) p (sep ∷ joined sep q qs),
        unbroken_plain p e,
        other,
        unbroken_joined other q qs (both_left (each (plain sep) q) (each (each (plain sep)) qs) f)
            (both_right (each (plain sep) q) (each (each (plain sep)) qs) f),
      )

  -- the same of a list of them that is not empty
  split_pieces : (ps : List (List ℕ)) → 1 ≤ length ps → each (each (plain sep)) ps ≡ true
      → split sep (lined sep ps) ≡ ps
  split_pieces [] some e = absurd (omega arith)
  split_pieces (p ∷ ps) some e =
      split_joined p ps (both_left (each (plain sep) p) (each (each (plain sep)) ps) e)
      (both_right (each (plain sep) p) (each (each (plain sep)) ps) e)

  unbroken_lined : is_break sep ≡ false → (ps : List (List ℕ)) → each (each (plain sep)) ps ≡ true
      → unbroken (lined sep ps) ≡ true
  unbroken_lined other [] e = refl
  unbroken_lined other (p ∷ ps) e =
      unbroken_joined other p ps (both_left (each (plain sep) p) (each (each (plain sep)) ps) e)
      (both_right (each (plain sep) p) (each (each (plain sep)) ps) e)

  -- fields laid out as text are the pieces joined, and LF
  laid_lined : (cs : List Column) (e : Entry) (es : List Entry) → length (e ∷ es) ≤ length cs
      → laid (layout.Text sep) cs (e ∷ es) ≡ lined sep (texts cs (e ∷ es)) ++ line_feed ∷ []
  unfolding laid joined
  laid_lined [] e es h = absurd (omega arith)
  laid_lined (c ∷ []) e [] h = append-nil (entry_text c.form e ++ line_feed ∷ [])
  laid_lined (c ∷ d ∷ cs) e [] h = append-nil (entry_text c.form e ++ line_feed ∷ [])
  laid_lined (c ∷ []) e (x ∷ es) h = absurd (omega arith)
  laid_lined (c ∷ d ∷ cs) e (x ∷ es) h =
      let text = entry_text c.form e in
      let rest = lined sep (texts (d ∷ cs) (x ∷ es)) in
      rw (
        laid_lined (d ∷ cs) x es (omega arith),
        append_assoc text (sep ∷ []) (rest ++ line_feed ∷ []),
        append_assoc text (sep ∷ rest) (line_feed ∷ []),
      )

-- ---- the whole line

content_feed : (s : List ℕ) → 1 ≤ length s → unbroken s ≡ true → content (s ++ line_feed ∷ []) ≡ s
content_feed s least whole =
    let n = length s in
    let size : length (s ++ line_feed ∷ []) ≡ n + 1 = length-append s (line_feed ∷ []) in
    let last : n + 1 - 1 ≡ n = omega arith in
    let feed : get_or (s ++ line_feed ∷ []) (length (s ++ line_feed ∷ []) - 1) 0 ≡ line_feed =
    rw (size, last) (get_or_at s line_feed [] 0 n refl) in
    let place : n + 1 - 2 ≡ n - 1 = omega arith in
    let inside : n - 1 < length s = omega arith in
    let other = each_at ℕ (λ (b : ℕ). not (is_break b)) s 0 (n - 1) whole inside in
    let before : get_or (s ++ line_feed ∷ []) (length (s ++ line_feed ∷ []) - 2) 0 ≡ get_or s (n - 1) 0 =
    rw (size, place) (get_or-append s (line_feed ∷ []) 0 (n - 1) inside) in
    let kept_byte : get_or s (n - 1) 0 ≡ carriage_return → ⊥ =
    λ (i : get_or s (n - 1) 0 ≡ carriage_return). false_true {A = ⊥} (rw i at other) in
    let no_return : get_or (s ++ line_feed ∷ []) (length (s ++ line_feed ∷ []) - 2) 0 ≡ carriage_return → ⊥ =
    λ (i : get_or (s ++ line_feed ∷ []) (length (s ++ line_feed ∷ []) - 2) 0 ≡ carriage_return). kept_byte
    (sym before ∙ i) in
    rw (ending_feed (s ++ line_feed ∷ []) no_return feed, size, last) (take_at s (line_feed ∷ []) n refl)

pub length_tell : (sep : ℕ) (cs : List Column) (es : List Entry) → all_tell sep cs es ≡ true → length es ≡ length cs
length_tell sep [] [] e = refl
length_tell sep [] (x ∷ es) e = false_true e
length_tell sep (c ∷ cs) [] e = false_true e
length_tell sep (c ∷ cs) (x ∷ es) e =
    ap suc (length_tell sep cs es (both_right (tells sep c x) (all_tell sep cs es) e))

tagged : (tag : Tag) (s : List ℕ) → tag_of (tag_text tag ++ s) ≡ Some tag
unfolding tag_of
tagged Pcr s = refl
tagged Hbr s = refl
tagged Sbr s = refl
tagged Wir s = refl
tagged Wrr s = refl

behind_tag : (tag : Tag) (s : List ℕ) → drop 4 (tag_text tag ++ s) ≡ s
behind_tag Pcr s = refl
behind_tag Hbr s = refl
behind_tag Sbr s = refl
behind_tag Wir s = refl
behind_tag Wrr s = refl

unbroken_tag : (tag : Tag) (s : List ℕ) → unbroken s ≡ true → unbroken (tag_text tag ++ s) ≡ true
unbroken_tag Pcr s e = e
unbroken_tag Hbr s e = e
unbroken_tag Sbr s e = e
unbroken_tag Wir s e = e
unbroken_tag Wrr s e = e

some_tag : (tag : Tag) (s : List ℕ) → 1 ≤ length (tag_text tag ++ s)
some_tag tag s = omega (arith, length-append (tag_text tag) s, length_tag tag)

other : (sep : ℕ) → Apart sep → is_break sep ≡ false
other sep ok =
    rw (
      ne_eqb sep 10 (λ (i : sep ≡ 10). absurd (omega (arith, ok.low))),
      ne_eqb sep 13 (λ (i : sep ≡ 13). absurd (omega (arith, ok.low))),
    )

-- the line of what it shows is cut into the pieces that it shows
module _ (sep : ℕ) (ok : Apart sep) (tag : Tag) (es : List Entry) (fit : all_tell sep (columns tag) es ≡ true) where
  size : length es ≡ length (columns tag)
  size = length_tell sep (columns tag) es fit

  line_read_lem : 1 ≤ length (shown tag es) → sits Missing (columns tag) es ≡ true
      → line_meaning_by sep (tag_text tag ++ (lined sep (shown_texts tag es) ++ line_feed ∷ []))
      ≡ Says (record { tag = tag; entries = es })
  line_read_lem some sat =
      let ps = shown_texts tag es in
      let body = lined sep ps in
      let plains = each_plain sep ps (λ (i : ℕ). rw (shown_text tag es size i)
      (pieces_plain sep ok (bar tag) (columns tag) es (sound tag) fit (get_or (order tag) i (length es)))) in
      let whole = unbroken_tag tag body (unbroken_lined sep (other sep ok) ps plains) in
      let all = length_texts (shown_columns tag) (shown tag es)
      (omega (arith, shown_few tag es, length_columns tag es size)) in
      let few : length ps ≤ length (columns tag) = omega (arith, all, shown_few tag es) in
      let back = shown_gathered tag es size in
      let read = pieces_read sep ok (bar tag) (columns tag) es (sound tag) fit in
      rw (
        ← append_assoc (tag_text tag) body (line_feed ∷ []),
        content_feed (tag_text tag ++ body) (some_tag tag body) whole,
        content_tagged sep (tag_text tag ++ body) whole,
        tagged tag body,
        behind_tag tag body,
        split_pieces sep ps (omega (arith, all)) plains,
      )
      (mean_said sep tag ps (le-leb (length ps) (length (columns tag)) few)
      (rw back read.0) (rw (back, read.1) sat)
      ∙ ap (λ (l : List Entry). Says (record { tag = tag; entries = l })) (rw (back, read.1)))

pub canonical_read : CanonicalRead
canonical_read sep separates m fit = go (shown m.tag m.entries) refl
  where
    ok : Apart sep
    ok = apart sep separates

    all : length m.entries ≡ length (columns m.tag)
    all = length_tell sep (columns m.tag) m.entries fit.0

    go : (ps : List Entry) → shown m.tag m.entries ≡ ps → line_meaning_by sep (text_by sep m) ≡ Says m
    go [] e =
        never_none sep (columns m.tag) m.entries (required_some m.tag) fit.0
        (shown_none m.tag m.entries all e)
    go (p ∷ ps) e =
        let few : length (p ∷ ps) ≤ length (shown_columns m.tag) =
        omega (
          arith,
          shown_few m.tag m.entries,
          ap length e,
          length_columns m.tag m.entries all,
        ) in
        let some : 1 ≤ length (shown m.tag m.entries) = omega (arith, ap length e) in
        rw (e, laid_lined sep (shown_columns m.tag) p ps few)
        (rw e at (line_read_lem sep ok m.tag m.entries fit.0 some fit.1))

pub canonical_once : CanonicalOnce
canonical_once sep separates m m' fit fit' e =
    says_same m m'
    (sym (canonical_read sep separates m fit) ∙ ap (line_meaning_by sep) e ∙ canonical_read sep separates m' fit')

-- ---- what a line means can be told

module _ (sep : ℕ) (ok : Apart sep) (c : Column) (table : Sane c) (range : Ranged c) where
  number_tells : (p : List ℕ) (x : Option ℕ) → numeral_in c.form p ≡ x → is_number c.form ≡ true
      → number_fits c.most x ≡ true → tells sep c (number_in x) ≡ true
  number_tells p (Some n) is f g =
      let other = range.unflagged n f (numeral_least c.form p n is) (leb-true n c.most g) in
      rw (f, g, other)
  number_tells p None is f g = false_true g

  letters_allowed : (b : ℕ) (bs : List ℕ) → length (b ∷ bs) ≤ 1 → letter_fits (b ∷ bs) ≡ true
      → each (allowed sep) (b ∷ bs) ≡ true
  letters_allowed b [] few e = rw (letter_allowed sep ok b e)
  letters_allowed b (x ∷ bs) few e = absurd (omega arith)

  text_tells : (b : ℕ) (bs : List ℕ) (n : ℕ) → c.most ≡ suc n → is_number c.form ≡ false
      → cond (is_name c.form) (each (allowed sep) (b ∷ bs)) (letter_fits (b ∷ bs)) ≡ true
      → tells sep c (Text (take (suc n) (b ∷ bs))) ≡ true
  text_tells b bs n size f h =
      let short : length (b ∷ take n bs) ≤ c.most = omega (arith, length-take n bs) in
      rw (f, le-leb (length (b ∷ take n bs)) c.most short) (go (is_name c.form) refl)
    where
      go : (t : Bool) → is_name c.form ≡ t
          → ((is_name c.form || letter_fits (b ∷ take n bs)) && each (allowed sep) (b ∷ take n bs)) ≡ true
      go true e = rw e (each_take ℕ (allowed sep) (suc n) (b ∷ bs) (rw e at h))
      go false e =
          let letter : is_letter b ≡ true = rw e at h in
          let one = letters_allowed b (take n bs) (omega (arith, length-take n bs, table.one f e)) letter in
          rw (e, letter) one

  piece_tells : (p : List ℕ) → piece_fits sep c p ≡ true → tells sep c (entry_in c p) ≡ true
  unfolding piece_fits entry_in
  piece_tells [] e = rw (e, rw (not-true c.required e) at table.empties)
  piece_tells (b ∷ bs) e = go (is_number c.form) refl c.most refl
    where
      go : (t : Bool) → is_number c.form ≡ t → (n : ℕ) → c.most ≡ n → tells sep c (value_in c (b ∷ bs)) ≡ true
      go true f n g = rw f (number_tells (b ∷ bs) (numeral_in c.form (b ∷ bs)) refl f (rw f at e))
      go false f zero g = absurd (omega (arith, table.some f))
      go false f (suc n) g =
          rw f
          (subst (λ (k : ℕ). tells sep c (Text (take k (b ∷ bs))) ≡ true) (sym g) (text_tells b bs n g f (rw f at e)))

module _ (sep : ℕ) (ok : Apart sep) where
  fields_tell : (k : ℕ) (cs : List Column) (ps : List (List ℕ)) → table_sound k cs ≡ true → fields_fit sep cs ps ≡ true
      → all_tell sep cs (entries_in cs ps) ≡ true
  unfolding fields_fit entries_in
  fields_tell k [] ps table e = refl
  fields_tell k (c ∷ cs) [] table e = false_true e
  fields_tell k (c ∷ cs) (p ∷ ps) table e =
      rw (
        piece_tells sep ok c (sane k c cs table) (ranged c (form_sound_lem k c cs table)) p
            (both_left (piece_fits sep c p) (fields_fit sep cs ps) e),
        fields_tell (k - 1) cs ps (rest_sound k c cs table) (both_right (piece_fits sep c p) (fields_fit sep cs ps) e),
      )

module _ (sep : ℕ) (ok : Apart sep) where
  fields_said : (tag : Tag) (ps : List (List ℕ)) (m : Meaning) → fields_mean sep tag ps ≡ Says m → TellingBy sep m
  fields_said tag ps m e =
      let is = mean_is sep tag ps m e in
      rw (← is.2) (fields_tell sep ok (bar tag) (columns tag) (gathered tag ps) (sound tag) is.0, is.1)

  tagged_said : (t : Option Tag) (s : List ℕ) (m : Meaning) → tagged_means sep t s ≡ Says m → TellingBy sep m
  tagged_said (Some tag) s m e = fields_said tag (split sep (drop 4 s)) m e
  tagged_said None s m e = not_said m e

pub read_tells : ReadTells
unfolding content_means
read_tells sep separates line m e = go (unbroken (content line)) refl
  where
    go : (t : Bool) → unbroken (content line) ≡ t → TellingBy sep m
    go true f = tagged_said sep (apart sep separates) (tag_of (content line)) (content line) m (rw f at e)
    go false f = not_said m (rw f at e)

pub read_again : ReadAgain
read_again line m e = canonical_read separator bar_separates m (read_tells separator bar_separates line m e)
