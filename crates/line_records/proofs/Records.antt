-- The statements of specs/Laws.antt, proved: one law for each type of field, then the walk. Nothing here knows a kind.
-- Assumes nothing.
use mathlib.Core.Path.{◌≡◌, refl, ap, sym, ◌∙◌}
use mathlib.Core.Bool.{Bool, true, false, cond, not, ◌&&◌, ◌||◌}
use mathlib.Core.List.{List, [], ◌∷◌, ◌++◌}
use Prim.Native.Nat.{ℕ, zero, suc, ◌+◌, ◌-◌, ◌*◌, ◌≤◌, ◌<◌}
use Prim.Native.Char.{code}
use native.Mathlib.Omega.{arith}
use borrow.Author.Tests.{leb-true, le-leb, eqb-true, eq-eqb, not-true}
use lib.Dec.{eqb, leb}
use lib.ListN.{length, get_or, take, drop, length-append}
use lib.Seq.{take_at, drop_at}
use Rattle.prelude.proofs.Never.{false_true}
use Rattle.prelude.proofs.Both.{both_left, both_right}
use Rattle.numbers.specs.declared.Order.{Order}
use Rattle.numbers.specs.Numbers.{number, past}
use Rattle.numbers.proofs.Laws.{read_written, length_written, one_written}
use Rattle.line_layouts.specs.declared.Form.{Form}
use Rattle.line_layouts.specs.declared.Form.TheVariants.{U1, U2, U4, Time, C1, Cn}
use Rattle.line_layouts.specs.declared.Flag.{Flag}
use Rattle.line_layouts.specs.declared.Flag.TheVariants.{Never, Own, Beside}
use Rattle.line_layouts.specs.declared.Column.{Column}
use Rattle.line_layouts.specs.declared.Layout.TheVariants as layout
use Rattle.line_layouts.specs.Columns.{columns, bar, most_time, width}
use Rattle.line_layouts.specs.Entries.{Entry, Missing, Number, Text, kept, present}
use Rattle.line_layouts.specs.Layouts.{missing_value, stored, laid}
use Rattle.line_layouts.specs.Fitting.{is_number, has_flag, is_own, is_beside, is_flag, is_letter, form_fits}
use Rattle.line_layouts.specs.Fitting.{entry_fits, entries_fit, is_none, sits_one, sits, form_sound, table_sound}
use Rattle.line_layouts.proofs.Tables.{sound, CountSound, count_sound_lem, form_sound_lem, rest_sound, left_out}
use Rattle.line_records.specs.Walks.{Fit, Fits, Misfit, put, size, number_said, letter_said, name_said}
use Rattle.line_records.specs.Walks.{value_said, field_said, walked, hidden_one, hidden, meant_by}
use Rattle.line_records.specs.Laws.{StoredMeant, MeantFits}
use Rattle.line_records.proofs.Puts.{fits_none, puts}

-- ---- entries as the walk shows them: a site under head 255 is 255

abbrev shown : Form → Flag → Entry → Entry
shown form flag Missing = cond (is_beside flag) (Number (missing_value form)) Missing
shown form flag (Number n) = Number n
shown form flag (Text bytes) = Text bytes

-- ---- any type: its bytes tell their length, are some, and say the entry

pub record Held (ends : Order) (form : Form) (most : ℕ) (flag : Flag) (e : Entry) : Type 0 where
  pub sized : (s : List ℕ) → size form (stored ends form e ++ s) ≡ length (stored ends form e)
  pub some : 1 ≤ length (stored ends form e)
  pub few : length (stored ends form e) ≤ 256
  pub says : value_said ends form most flag (stored ends form e) ≡ Fits (shown form flag e)

pub size_number : (form : Form) (s : List ℕ) → is_number form ≡ true → size form s ≡ width form
unfolding size
size_number U1 s e = refl
size_number U2 s e = refl
size_number U4 s e = refl
size_number Time s e = refl
size_number C1 s e = false_true e
size_number Cn s e = false_true e

value_number : (ends : Order) (form : Form) (most : ℕ) (flag : Flag) (s : List ℕ) → is_number form ≡ true
    → value_said ends form most flag s ≡ number_said form most flag (number ends s)
unfolding value_said
value_number ends U1 most flag s e = refl
value_number ends U2 most flag s e = refl
value_number ends U4 most flag s e = refl
value_number ends Time most flag s e = refl
value_number ends C1 most flag s e = false_true e
value_number ends Cn most flag s e = false_true e

-- its width holds every number of a sound column, the missing value too, which a field beside another can have
record Wide (form : Form) (most : ℕ) (flag : Flag) : Type 0 where
  pub some : 1 ≤ width form
  pub few : width form ≤ 4
  pub ones : missing_value form < past (width form)
  pub range : most < past (width form)
  pub near : is_beside flag ≡ true → missing_value form ≤ most

count_wide : (form : Form) (most : ℕ) (flag : Flag) → 1 ≤ width form → width form ≤ 4
    → missing_value form < past (width form) → CountSound (missing_value form) most flag → Wide form most flag
count_wide form most flag some few ones is =
    record { some = some; few = few; ones = ones; range = omega (arith, is.range); near = is.near }

wide : (form : Form) (most : ℕ) (flag : Flag) → is_number form ≡ true → form_sound form most flag ≡ true
    → Wide form most flag
wide U1 most flag e ok =
    count_wide U1 most flag (omega arith) (omega arith) (omega arith) (count_sound_lem (missing_value U1) most flag ok)
wide U2 most flag e ok =
    count_wide U2 most flag (omega arith) (omega arith) (omega arith) (count_sound_lem (missing_value U2) most flag ok)
wide U4 most flag e ok =
    count_wide U4 most flag (omega arith) (omega arith) (omega arith) (count_sound_lem (missing_value U4) most flag ok)
wide Time most flag e ok =
    let few = leb-true most most_time (both_left (leb most most_time) (is_own flag) ok) in
    record { some = omega arith; few = omega arith; ones = omega arith; range = omega arith; near = λ b. omega arith }
wide C1 most flag e ok = false_true e
wide Cn most flag e ok = false_true e

-- a number of any width
module _ (ends : Order) (form : Form) (most : ℕ) (flag : Flag) (number_is : is_number form ≡ true)
    (is : Wide form most flag) where
  missing_said : has_flag flag ≡ true → number_said form most flag (missing_value form) ≡ Fits (shown form flag Missing)
  missing_said = go flag refl
    where
      go : (x : Flag) → flag ≡ x → has_flag x ≡ true
          → number_said form most x (missing_value form) ≡ Fits (shown form x Missing)
      go Never e f = false_true f
      go Own e f = rw (eq-eqb (missing_value form) (missing_value form) refl)
      go Beside e f = rw (le-leb (missing_value form) most (is.near (rw e)))

  count_said : (e : Entry) → form_fits form most flag e ≡ true
      → number_said form most flag (number ends (stored ends form e)) ≡ Fits (shown form flag e)
  count_said Missing f = rw (read_written ends (width form) (missing_value form) is.ones) (missing_said f)
  count_said (Number n) f =
      let plain = not (is_flag form flag n) in
      let fit = both_right (is_number form) (leb n most && plain) f in
      let small = leb-true n most (both_left (leb n most) plain fit) in
      rw (
        read_written ends (width form) n (omega (arith, is.range)),
        not-true (is_flag form flag n) (both_right (leb n most) plain fit),
        le-leb n most small,
      )
  count_said (Text []) f = false_true f
  count_said (Text (b ∷ bs)) f = false_true (rw number_is at f)

  count_length : (e : Entry) → form_fits form most flag e ≡ true → length (stored ends form e) ≡ width form
  count_length Missing f = length_written ends (width form) (missing_value form)
  count_length (Number n) f = length_written ends (width form) n
  count_length (Text []) f = false_true f
  count_length (Text (b ∷ bs)) f = false_true (rw number_is at f)

  count_held : (e : Entry) → form_fits form most flag e ≡ true → Held ends form most flag e
  count_held e f =
      let long = count_length e f in
      record {
        sized = λ s. size_number form (stored ends form e ++ s) number_is ∙ sym long;
        some = omega (arith, is.some);
        few = omega (arith, is.few);
        says = value_number ends form most flag (stored ends form e) number_is ∙ count_said e f;
      }

letter_said_lem : (b : ℕ) → is_letter b ≡ true → letter_said b ≡ Fits (Text (b ∷ []))
letter_said_lem b f = go (eqb b (code "P")) refl (eqb b (code "F")) refl
  where
    go : (t : Bool) → eqb b (code "P") ≡ t → (u : Bool) → eqb b (code "F") ≡ u → letter_said b ≡ Fits (Text (b ∷ []))
    go true p u q = rw (eqb-true b (code "P") p)
    go false p true q = rw (eqb-true b (code "F") q)
    go false p false q = false_true (rw (p, q) at f)

own_shown : (form : Form) (flag : Flag) → is_own flag ≡ true → shown form flag Missing ≡ Missing
own_shown form Never o = false_true o
own_shown form Own o = refl
own_shown form Beside o = false_true o

module _ (ends : Order) where
  held : (form : Form) (most : ℕ) (flag : Flag) (e : Entry) → form_sound form most flag ≡ true
      → form_fits form most flag e ≡ true → Held ends form most flag e
  unfolding size value_said
  held U1 most flag e ok f = count_held ends U1 most flag refl (wide U1 most flag refl ok) e f
  held U2 most flag e ok f = count_held ends U2 most flag refl (wide U2 most flag refl ok) e f
  held U4 most flag e ok f = count_held ends U4 most flag refl (wide U4 most flag refl ok) e f
  held Time most flag e ok f = count_held ends Time most flag refl (wide Time most flag refl ok) e f
  held C1 most flag Missing ok f =
      let own = both_right (eqb most 1) (is_own flag) ok in
      let is = one_written ends 32 (omega arith) in
      let long = length_written ends 1 32 in
      record {
        sized = λ s. sym long;
        some = omega arith;
        few = omega arith;
        says = rw is (sym (ap Fits (own_shown C1 flag own)));
      }
  held C1 most flag (Number n) ok f = false_true f
  held C1 most flag (Text []) ok f = false_true f
  held C1 most flag (Text (b ∷ [])) ok f =
      record {
        sized = λ s. refl;
        some = omega arith;
        few = omega arith;
        says = letter_said_lem b (both_right (leb 1 most) (is_letter b) f);
      }
  held C1 most flag (Text (b ∷ c ∷ bs)) ok f =
      let one = eqb-true most 1 (both_left (eqb most 1) (is_own flag) ok) in
      let few = leb-true (length (b ∷ c ∷ bs)) most (both_left (leb (length (b ∷ c ∷ bs)) most) (is_letter b) f) in
      absurd (omega arith)
  held Cn most flag Missing ok f =
      let own = both_right (leb 1 most && leb most 255) (is_own flag) ok in
      let is = one_written ends 0 (omega arith) in
      let long = length_written ends 1 0 in
      record {
        sized = λ s. rw is;
        some = omega arith;
        few = omega arith;
        says = rw is (sym (ap Fits (own_shown Cn flag own)));
      }
  held Cn most flag (Number n) ok f = false_true f
  held Cn most flag (Text []) ok f = false_true f
  held Cn most flag (Text (b ∷ bs)) ok f =
      let n = length (b ∷ bs) in
      let a = leb 1 most && leb most 255 in
      let low = leb-true most 255 (both_right (leb 1 most) (leb most 255) (both_left a (is_own flag) ok)) in
      let short = both_left (leb n most) true f in
      let room = leb-true n most short in
      let is = one_written ends n (omega arith) in
      record {
        sized = λ s. rw is (omega arith);
        some = rw is (omega arith);
        few = rw is (omega arith);
        says = rw (is, short);
      }

-- ---- the walk, over one field

module _ (ends : Order) (c : Column) (cs : List Column) where
  -- where bytes are left, a field is read
  pub walked_on : (k : ℕ) (s : List ℕ) → 1 ≤ length s
      → walked k ends (c ∷ cs) s ≡ put (field_said ends c s) (walked (k - 1) ends cs (drop (size c.form s) s))
  unfolding walked
  walked_on k [] h = absurd (omega arith)
  walked_on k (b ∷ bs) h = refl

  module _ (e : Entry) (h : Held ends c.form c.most c.flag e) where
    abbrev bytes : List ℕ
    bytes = stored ends c.form e

    field_said_lem : (s : List ℕ) → field_said ends c (bytes ++ s) ≡ Fits (shown c.form c.flag e)
    field_said_lem s =
        let short : length bytes ≤ length (bytes ++ s) = omega (arith, length-append bytes s) in
        rw (h.sized s, le-leb (length bytes) (length (bytes ++ s)) short, take_at bytes s (length bytes) refl)
        h.says

    walked_field : (k : ℕ) (es : List Entry) (s : List ℕ) → walked (k - 1) ends cs s ≡ Fits es
        → walked k ends (c ∷ cs) (bytes ++ s) ≡ Fits (shown c.form c.flag e ∷ es)
    walked_field k es s ih =
        walked_on k (bytes ++ s) (omega (arith, length-append bytes s, h.some))
        ∙ rw (field_said_lem s, h.sized s, drop_at bytes s (length bytes) refl, ih)

-- ---- the walk, over all of them

abbrev shown_all : List Column → List Entry → List Entry
shown_all [] es = es
shown_all (c ∷ cs) [] = []
shown_all (c ∷ cs) (e ∷ es) = shown c.form c.flag e ∷ shown_all cs es

module _ (ends : Order) where
  -- fields laid out one after the other
  abbrev pub laid_in : List Column → List Entry → List ℕ
  laid_in cs es = laid (layout.Record ends) cs es

  laid_none : (cs : List Column) → laid_in cs [] ≡ []
  unfolding laid
  laid_none [] = refl
  laid_none (c ∷ cs) = refl

  laid_first : (c : Column) (cs : List Column) (e : Entry) (es : List Entry)
      → laid_in (c ∷ cs) (e ∷ es) ≡ stored ends c.form e ++ laid_in cs es
  unfolding laid
  laid_first c cs e es = refl

  module _ (c : Column) (cs : List Column) (all : List Entry) where
    -- a field and those behind it, or none where it is missing and may be left out
    walked_kept : (k : ℕ) (e : Entry) (es : List Entry) → Held ends c.form c.most c.flag e
        → (leb 1 k || is_own c.flag) ≡ true → walked (k - 1) ends cs (laid_in cs es) ≡ Fits all
        → walked k ends (c ∷ cs) (laid_in (c ∷ cs) (kept k e es)) ≡ Fits (shown c.form c.flag e ∷ all)
    unfolding walked
    walked_kept zero Missing [] h l ih =
        rw (laid_none (c ∷ cs), ← laid_none cs, ih, own_shown c.form c.flag l)
    walked_kept zero Missing (x ∷ es) h l ih =
        rw (laid_first c cs Missing (x ∷ es)) (walked_field ends c cs Missing h 0 all (laid_in cs (x ∷ es)) ih)
    walked_kept zero (Number n) es h l ih =
        rw (laid_first c cs (Number n) es) (walked_field ends c cs (Number n) h 0 all (laid_in cs es) ih)
    walked_kept zero (Text bytes) es h l ih =
        rw (laid_first c cs (Text bytes) es) (walked_field ends c cs (Text bytes) h 0 all (laid_in cs es) ih)
    walked_kept (suc k) e es h l ih =
        rw (laid_first c cs e es) (walked_field ends c cs e h (suc k) all (laid_in cs es) ih)

  stored_walked : (k : ℕ) (cs : List Column) (es : List Entry) → table_sound k cs ≡ true → entries_fit cs es ≡ true
      → walked k ends cs (laid_in cs (present k es)) ≡ Fits (shown_all cs es)
  unfolding walked laid
  stored_walked k [] [] sound f = refl
  stored_walked k [] (e ∷ es) sound f = false_true f
  stored_walked k (c ∷ cs) [] sound f = false_true f
  stored_walked k (c ∷ cs) (e ∷ es) sound f =
      walked_kept c cs (shown_all cs es) k e (present (k - 1) es)
      (held ends c.form c.most c.flag e (form_sound_lem k c cs sound) (both_left (entry_fits c e) (entries_fit cs es) f))
      (left_out k c cs sound)
      (stored_walked (k - 1) cs es (rest_sound k c cs sound) (both_right (entry_fits c e) (entries_fit cs es) f))

  -- REC_LEN holds the length of a body: at most 256 bytes a column
  kept_length : (c : Column) (cs : List Column) (k : ℕ) (e : Entry) (es : List Entry)
      → length (stored ends c.form e) ≤ 256 → length (laid_in (c ∷ cs) (kept k e es)) ≤ 256 + length (laid_in cs es)
  kept_length c cs zero Missing [] h = rw (laid_none (c ∷ cs)) (omega arith)
  kept_length c cs zero Missing (x ∷ es) h =
      rw (laid_first c cs Missing (x ∷ es))
      (omega (arith, length-append (stored ends c.form Missing) (laid_in cs (x ∷ es))))
  kept_length c cs zero (Number n) es h =
      rw (laid_first c cs (Number n) es) (omega (arith, length-append (stored ends c.form (Number n)) (laid_in cs es)))
  kept_length c cs zero (Text bytes) es h =
      rw (laid_first c cs (Text bytes) es)
      (omega (arith, length-append (stored ends c.form (Text bytes)) (laid_in cs es)))
  kept_length c cs (suc k) e es h =
      rw (laid_first c cs e es) (omega (arith, length-append (stored ends c.form e) (laid_in cs es)))

-- ---- head and site

none_is : (e : Entry) → is_none e ≡ true → Missing ≡ e
none_is Missing m = refl
none_is (Number n) m = false_true m
none_is (Text bytes) m = false_true m

shown_given : (form : Form) (flag : Flag) (e : Entry) → is_none e ≡ false → shown form flag e ≡ e
shown_given form flag Missing m = false_true (sym m)
shown_given form flag (Number n) m = refl
shown_given form flag (Text bytes) m = refl

shown_alone : (form : Form) (flag : Flag) (e : Entry) → is_beside flag ≡ false → shown form flag e ≡ e
shown_alone form flag Missing b = rw b
shown_alone form flag (Number n) b = refl
shown_alone form flag (Text bytes) b = refl

hidden_one_lem : (c : Column) (last e : Entry) → sits_one c last e ≡ true → hidden_one c last (shown c.form c.flag e) ≡ e
hidden_one_lem c last e s = go (is_beside c.flag) refl (is_none last) refl
  where
    go : (t : Bool) → is_beside c.flag ≡ t → (u : Bool) → is_none last ≡ u
        → hidden_one c last (shown c.form c.flag e) ≡ e
    go false f u g = rw f (shown_alone c.form c.flag e f)
    go true f true g = rw (f, g) (none_is e (rw (f, g) at s))
    go true f false g = rw (f, g) (shown_given c.form c.flag e (not-true (is_none e) (rw (f, g) at s)))

hidden_shown : (last : Entry) (cs : List Column) (es : List Entry) → entries_fit cs es ≡ true → sits last cs es ≡ true
    → hidden last cs (shown_all cs es) ≡ es
unfolding hidden sits
hidden_shown last [] [] f s = refl
hidden_shown last [] (e ∷ es) f s = false_true f
hidden_shown last (c ∷ cs) [] f s = false_true f
hidden_shown last (c ∷ cs) (e ∷ es) f s =
    rw (
      hidden_one_lem c last e (both_left (sits_one c last e) (sits e cs es) s),
      hidden_shown e cs es (both_right (entry_fits c e) (entries_fit cs es) f)
          (both_right (sits_one c last e) (sits e cs es) s),
    )

pub stored_meant : StoredMeant
unfolding meant_by
stored_meant ends m f =
    let cs = columns m.tag in
    rw (
      stored_walked ends (bar m.tag) cs m.entries (sound m.tag) f.0,
      hidden_shown Missing cs m.entries f.0 f.1,
    )

pub stored_short : (ends : Order) (k : ℕ) (cs : List Column) (es : List Entry) → table_sound k cs ≡ true
    → entries_fit cs es ≡ true → length (laid_in ends cs (present k es)) ≤ 256 * length cs
stored_short ends k [] [] sound f = rw (laid_none ends []) (omega arith)
stored_short ends k [] (e ∷ es) sound f = false_true f
stored_short ends k (c ∷ cs) [] sound f = false_true f
stored_short ends k (c ∷ cs) (e ∷ es) sound f =
    let here = held ends c.form c.most c.flag e (form_sound_lem k c cs sound)
    (both_left (entry_fits c e) (entries_fit cs es) f) in
    omega (
      arith,
      kept_length ends c cs k e (present (k - 1) es) here.few,
      stored_short ends (k - 1) cs es (rest_sound k c cs sound) (both_right (entry_fits c e) (entries_fit cs es) f),
    )

-- ---- what a body says fits

-- a field beside another is never missing by itself
pub record Raw (c : Column) (e : Entry) : Type 0 where
  pub fits : entry_fits c e ≡ true
  pub alone : (not (is_beside c.flag) || not (is_none e)) ≡ true

or_true : (t : Bool) → (t || true) ≡ true
or_true true = refl
or_true false = refl

own_alone : (flag : Flag) → is_own flag ≡ true → (has_flag flag ≡ true) × ((not (is_beside flag) || false) ≡ true)
own_alone Never o = false_true o
own_alone Own o = (refl, refl)
own_alone Beside o = false_true o

abbrev RawBy : Form → ℕ → Flag → Entry → Type 0
RawBy form most flag e = (form_fits form most flag e ≡ true) × ((not (is_beside flag) || not (is_none e)) ≡ true)

count_raw : (form : Form) (most : ℕ) (flag : Flag) (n : ℕ) (e : Entry) → is_number form ≡ true
    → number_said form most flag n ≡ Fits e → RawBy form most flag e
count_raw form most flag n e number says = go (is_flag form flag n) refl (leb n most) refl
  where
    go : (t : Bool) → is_flag form flag n ≡ t → (u : Bool) → leb n most ≡ u → RawBy form most flag e
    go true f u g =
        let is : Fits Missing ≡ Fits e = rw f at says in
        let same : Missing ≡ e = cc in
        rw (← same) (own_alone flag (both_left (is_own flag) (eqb n (missing_value form)) f))
    go false f true g =
        let is : Fits (Number n) ≡ Fits e = rw (f, g) at says in
        let same : Number n ≡ e = cc in
        rw (← same) (rw (number, g, f), or_true (not (is_beside flag)))
    go false f false g = fits_none e (rw (f, g) at says)

letter_raw : (most : ℕ) (flag : Flag) (b : ℕ) (e : Entry) → most ≡ 1 → is_own flag ≡ true → letter_said b ≡ Fits e
    → RawBy C1 most flag e
letter_raw most flag b e one own says = go (eqb b (code " ")) refl (is_letter b) refl
  where
    go : (t : Bool) → eqb b (code " ") ≡ t → (u : Bool) → is_letter b ≡ u → RawBy C1 most flag e
    go true f u g =
        let is : Fits Missing ≡ Fits e = rw f at says in
        let same : Missing ≡ e = cc in
        rw (← same) (own_alone flag own)
    go false f true g =
        let is : Fits (Text (b ∷ [])) ≡ Fits e = rw (f, g) at says in
        let same : Text (b ∷ []) ≡ e = cc in
        rw (← same) (rw (one, g), or_true (not (is_beside flag)))
    go false f false g = fits_none e (rw (f, g) at says)

name_raw : (most : ℕ) (flag : Flag) (s : List ℕ) (e : Entry) → is_own flag ≡ true → name_said most s ≡ Fits e
    → RawBy Cn most flag e
name_raw most flag [] e own says =
    let same : Missing ≡ e = cc in
    rw (← same) (own_alone flag own)
name_raw most flag (b ∷ bs) e own says = go (leb (length (b ∷ bs)) most) refl
  where
    go : (t : Bool) → leb (length (b ∷ bs)) most ≡ t → RawBy Cn most flag e
    go true f =
        let is : Fits (Text (b ∷ bs)) ≡ Fits e = rw f at says in
        let same : Text (b ∷ bs) ≡ e = cc in
        rw (← same) (rw f, or_true (not (is_beside flag)))
    go false f = fits_none e (rw f at says)

value_raw : (ends : Order) (form : Form) (most : ℕ) (flag : Flag) (s : List ℕ) (e : Entry)
    → form_sound form most flag ≡ true → value_said ends form most flag s ≡ Fits e → RawBy form most flag e
unfolding value_said
value_raw ends U1 most flag s e sound says = count_raw U1 most flag (number ends s) e refl says
value_raw ends U2 most flag s e sound says = count_raw U2 most flag (number ends s) e refl says
value_raw ends U4 most flag s e sound says = count_raw U4 most flag (number ends s) e refl says
value_raw ends Time most flag s e sound says = count_raw Time most flag (number ends s) e refl says
value_raw ends C1 most flag s e sound says =
    letter_raw most flag (get_or s 0 0) e (eqb-true most 1 (both_left (eqb most 1) (is_own flag) sound))
    (both_right (eqb most 1) (is_own flag) sound) says
value_raw ends Cn most flag s e sound says =
    name_raw most flag (drop 1 s) e (both_right (leb 1 most && leb most 255) (is_own flag) sound) says

field_raw : (ends : Order) (c : Column) (s : List ℕ) (e : Entry) → form_sound c.form c.most c.flag ≡ true
    → field_said ends c s ≡ Fits e → Raw c e
field_raw ends c s e sound says = go (leb (size c.form s) (length s)) refl
  where
    go : (t : Bool) → leb (size c.form s) (length s) ≡ t → Raw c e
    go true f =
        let r = value_raw ends c.form c.most c.flag (take (size c.form s) s) e sound (rw f at says) in
        record { fits = r.0; alone = r.1 }
    go false f = fits_none e (rw f at says)

abbrev AllRaw : List Column → List Entry → Type 0
AllRaw [] [] = Unit {0}
AllRaw [] (e ∷ es) = ⊥
AllRaw (c ∷ cs) [] = ⊥
AllRaw (c ∷ cs) (e ∷ es) = Raw c e × AllRaw cs es

walked_raw : (k : ℕ) (ends : Order) (cs : List Column) (s : List ℕ) (es : List Entry) → table_sound k cs ≡ true
    → walked k ends cs s ≡ Fits es → AllRaw cs es
unfolding walked
walked_raw k ends [] [] es sound says =
    let same : [] ≡ es = cc in
    rw (← same) tt
walked_raw k ends [] (b ∷ bs) es sound says = fits_none es says
walked_raw zero ends (c ∷ cs) [] es sound says =
    let p = puts (Fits Missing) (walked 0 ends cs []) es says in
    let same : Missing ≡ p.head = cc p.head_said in
    let own = own_alone c.flag (left_out 0 c cs sound) in
    rw (← p.is, ← same) (
      record { fits = own.0; alone = own.1 },
      walked_raw 0 ends cs [] p.tail (rest_sound 0 c cs sound)
          p.tail_said,
    )
walked_raw (suc k) ends (c ∷ cs) [] es sound says = fits_none es says
walked_raw k ends (c ∷ cs) (b ∷ bs) es sound says =
    let s = b ∷ bs in
    let rest = drop (size c.form s) s in
    let p = puts (field_said ends c s) (walked (k - 1) ends cs rest) es says in
    rw (← p.is) (
      field_raw ends c s p.head (form_sound_lem k c cs sound) p.head_said,
      walked_raw (k - 1) ends cs rest p.tail (rest_sound k c cs sound) p.tail_said,
    )

beside_missing : (flag : Flag) → is_beside flag ≡ true → has_flag flag ≡ true
beside_missing Never f = f
beside_missing Own f = refl
beside_missing Beside f = refl

hides_one : (c : Column) (last e : Entry) → Raw c e
    → (entry_fits c (hidden_one c last e) ≡ true) × (sits_one c last (hidden_one c last e) ≡ true)
hides_one c last e r = go (is_beside c.flag) refl (is_none last) refl
  where
    go : (t : Bool) → is_beside c.flag ≡ t → (u : Bool) → is_none last ≡ u
        → (entry_fits c (hidden_one c last e) ≡ true) × (sits_one c last (hidden_one c last e) ≡ true)
    go false f u g = rw f (r.fits, refl)
    go true f true g = rw (f, g) (beside_missing c.flag f, refl)
    go true f false g = rw (f, g) (r.fits, rw f at r.alone)

hidden_fits : (last : Entry) (cs : List Column) (es : List Entry) → AllRaw cs es
    → (entries_fit cs (hidden last cs es) ≡ true) × (sits last cs (hidden last cs es) ≡ true)
unfolding hidden sits
hidden_fits last [] [] r = (refl, refl)
hidden_fits last [] (e ∷ es) r = absurd r
hidden_fits last (c ∷ cs) [] r = absurd r
hidden_fits last (c ∷ cs) (e ∷ es) r =
    let one = hides_one c last e r.0 in
    let ih = hidden_fits (hidden_one c last e) cs es r.1 in
    (rw (one.0, ih.0), rw (one.1, ih.1))

pub meant_fits : MeantFits
unfolding meant_by
meant_fits ends tag s es says = go (walked (bar tag) ends (columns tag) s) refl
  where
    go : (r : Fit (List Entry)) → walked (bar tag) ends (columns tag) s ≡ r
        → (entries_fit (columns tag) es ≡ true) × (sits Missing (columns tag) es ≡ true)
    go Misfit f = fits_none es (rw f at says)
    go (Fits raw) f =
        let said : Fits (hidden Missing (columns tag) raw) ≡ Fits es = rw f at says in
        let same : hidden Missing (columns tag) raw ≡ es = cc in
        rw (← same)
        (hidden_fits Missing (columns tag) raw (walked_raw (bar tag) ends (columns tag) s raw (sound tag) f))
