-- Laws of one piece of text.
-- Assumes nothing.
use Rattle.std.specs.Prelude.{Option, Some, None}
use mathlib.Core.Path.{◌≡◌, refl, ap, sym, ◌∙◌}
use mathlib.Core.Bool.{Bool, true, false, cond, not, ◌&&◌}
use mathlib.Core.List.{List, [], ◌∷◌}
use Prim.Native.Nat.{ℕ, zero, suc, ◌+◌, ◌-◌, ◌≤◌, min}
use Prim.Native.Char.{code}
use native.Mathlib.Omega.{arith}
use native.Mathlib.Nat.{min-eq_left, min-eq_right}
use borrow.Author.Tests.{eq-eqb, ne_eqb, leb-true, leb-false, le-leb}
use lib.Dec.{eqb, leb}
use lib.ListN.{length, get_or, take, drop}
use lib.Seq.{take_all, take-take}
use Rattle.prelude.specs.Each.{each}
use Rattle.prelude.proofs.Never.{false_true}
use Rattle.prelude.proofs.Both.{both_right}
use Rattle.dates.specs.Reading.{date_of}
use Rattle.dates.proofs.Laws.{date_only}
use Rattle.output.specs.Placed.{part}
use Rattle.output.proofs.Laws.{length_part}
use Rattle.values.specs.declared.Name.{Name}
use Rattle.line_layouts.specs.declared.Tag.{Tag}
use Rattle.line_layouts.specs.declared.Said.TheVariants as said
use Rattle.line_layouts.specs.declared.Form.{Form}
use Rattle.line_layouts.specs.declared.Form.TheVariants as form
use Rattle.line_layouts.specs.declared.Form.TheVariants.{U1, U2, U4, C1, Cn}
use Rattle.line_layouts.specs.declared.Flag.{Flag}
use Rattle.line_layouts.specs.Columns.{columns, bar, most_time}
use Rattle.line_layouts.specs.Entries.{Text, named}
use Rattle.line_layouts.specs.declared.Column.{Column}
use Rattle.line_layouts.specs.Layouts.{is_time, missing_value}
use Rattle.line_layouts.specs.Fitting.{is_number, is_own, is_flag, letter_fits, count_sound, form_sound, table_sound}
use Rattle.line_layouts.proofs.Tables.{count_sound_lem, sound, Sane, sane, rest_sound}
use Rattle.line_texts.specs.Pieces.{dated_numeral, numeral_in, number_fits, number_in, value_fits, piece_fits}
use Rattle.line_texts.specs.Pieces.{entry_in}
use Rattle.line_texts.specs.Places.{number_said, text_said, said_in, Holds, short}

-- ---- P/F

pub letter_none : (s : List ℕ) → length s ≡ 0 → letter_fits s ≡ false
letter_none [] e = refl
letter_none (b ∷ bs) e = absurd (omega arith)

module _ (s : List ℕ) (some : length s ≡ 0 → ⊥) where
  pub letter_pass : get_or s 0 0 ≡ code "P" → letter_fits s ≡ true
  letter_pass e = go s some e
    where
      go : (t : List ℕ) → (length t ≡ 0 → ⊥) → get_or t 0 0 ≡ code "P" → letter_fits t ≡ true
      go [] h f = absurd (h refl)
      go (b ∷ bs) h f = rw (eq-eqb b (code "P") f)

  pub letter_fail : (get_or s 0 0 ≡ code "P" → ⊥) → letter_fits s ≡ eqb (get_or s 0 0) (code "F")
  letter_fail e = go s some e
    where
      go : (t : List ℕ) → (length t ≡ 0 → ⊥) → (get_or t 0 0 ≡ code "P" → ⊥)
          → letter_fits t ≡ eqb (get_or t 0 0) (code "F")
      go [] h f = absurd (h refl)
      go (b ∷ bs) h f = rw (ne_eqb b (code "P") f)

-- ---- any column

module _ (sep : ℕ) (c : Column) where
  pub piece_empty : (s : List ℕ) → length s ≡ 0 → piece_fits sep c s ≡ not c.required
  unfolding piece_fits
  piece_empty [] e = refl
  piece_empty (b ∷ bs) e = absurd (omega arith)

  pub piece_value : (s : List ℕ) → (length s ≡ 0 → ⊥) → piece_fits sep c s ≡ value_fits sep c s
  unfolding piece_fits
  piece_value [] h = absurd (h refl)
  piece_value (b ∷ bs) h = refl

-- ---- what a piece says

pub said_empty : (c : Column) (at : ℕ) → said_in c at [] ≡ said.Missing
unfolding said_in
said_empty c at = refl

pub said_value : (c : Column) (at : ℕ) (s : List ℕ) → (length s ≡ 0 → ⊥)
    → said_in c at s ≡ cond (is_number c.form) (number_said (numeral_in c.form s)) (text_said at (length s) c.most)
unfolding said_in
said_value c at [] h = absurd (h refl)
said_value c at (b ∷ bs) h = refl

number_holds : (s : List ℕ) (n : Option ℕ) → Holds s (number_said n) (number_in n)
number_holds s (Some n) = record { says = refl; there = tt }
number_holds s None = record { says = refl; there = tt }

-- ---- numbers that say something, and those that say that a field is missing

-- a time is read from a date, which 0 has not
dated_is : (d : Option ℕ) (n : ℕ) → dated_numeral d ≡ Some n → d ≡ Some n
dated_is (Some t) n e = let same : t ≡ n = cc in ap Some same
dated_is None n e = let no : ◌≡◌ {A = ℕ} 0 1 = cc in absurd (omega arith)

pub numeral_least : (form : Form) (s : List ℕ) (n : ℕ) → numeral_in form s ≡ Some n → is_time form ≡ true → 1 ≤ n
numeral_least form s n e t = (date_only s n (dated_is (date_of s) n (rw t at e))).0

-- a number in range is none that says so, where a time is not 0
pub record Ranged (c : Column) : Type 0 where
  pub least : (n : ℕ) → is_time c.form ≡ true → not (is_flag c.form c.flag n) ≡ true → 1 ≤ n
  pub unflagged : (n : ℕ) → is_number c.form ≡ true → (is_time c.form ≡ true → 1 ≤ n) → n ≤ c.most
      → is_flag c.form c.flag n ≡ false

-- all ones are past the range
count_unflagged : (ones most : ℕ) (flag : Flag) → count_sound ones most flag ≡ true → (n : ℕ) → n ≤ most
    → (is_own flag && eqb n ones) ≡ false
count_unflagged ones most flag ok n h = go (is_own flag) refl
  where
    go : (t : Bool) → is_own flag ≡ t → (is_own flag && eqb n ones) ≡ false
    go true e =
        let past = (count_sound_lem ones most flag ok).own e in
        rw (e, ne_eqb n ones (λ (i : n ≡ ones). absurd (omega arith)))
    go false e = rw e

time_least : (flag : Flag) (n : ℕ) → is_own flag ≡ true → not (is_own flag && eqb n 0) ≡ true → 1 ≤ n
time_least flag zero own e = false_true (rw own at e)
time_least flag (suc n) own e = omega arith

form_least : (form : Form) (most : ℕ) (flag : Flag) → form_sound form most flag ≡ true → (n : ℕ)
    → is_time form ≡ true → not (is_flag form flag n) ≡ true → 1 ≤ n
form_least U1 most flag ok n t e = false_true t
form_least U2 most flag ok n t e = false_true t
form_least U4 most flag ok n t e = false_true t
form_least form.Time most flag ok n t e = time_least flag n (both_right (leb most most_time) (is_own flag) ok) e
form_least C1 most flag ok n t e = false_true t
form_least Cn most flag ok n t e = false_true t

form_unflagged : (form : Form) (most : ℕ) (flag : Flag) → form_sound form most flag ≡ true → (n : ℕ)
    → is_number form ≡ true → (is_time form ≡ true → 1 ≤ n) → n ≤ most → is_flag form flag n ≡ false
form_unflagged U1 most flag ok n f t h = count_unflagged (missing_value U1) most flag ok n h
form_unflagged U2 most flag ok n f t h = count_unflagged (missing_value U2) most flag ok n h
form_unflagged U4 most flag ok n f t h = count_unflagged (missing_value U4) most flag ok n h
form_unflagged form.Time most flag ok n f t h =
    let some = t refl in
    rw (
      both_right (leb most most_time) (is_own flag) ok,
      ne_eqb n 0 (λ (i : n ≡ 0). absurd (omega arith)),
    )
form_unflagged C1 most flag ok n f t h = false_true f
form_unflagged Cn most flag ok n f t h = false_true f

pub ranged : (c : Column) → form_sound c.form c.most c.flag ≡ true → Ranged c
ranged c ok =
    record {
      least = form_least c.form c.most c.flag ok;
      unflagged = form_unflagged c.form c.most c.flag ok;
    }

pub number_small : (most n : ℕ) (x : Option ℕ) → x ≡ Some n → number_fits most x ≡ true → n ≤ most
number_small most n x e f = leb-true n most (rw e at f)

-- text that is kept: no more than the column says
module _ (at len most : ℕ) (s : List ℕ) (h : at + len ≤ length s) (few : most ≤ 255) where
  keep_cases : (t : Bool) → leb len most ≡ t
      → Holds s (said.Text (record { at = at; len = min len most })) (Text (take most (part at len s)))
  keep_cases true e =
      let le = leb-true len most e in
      rw (min-eq_left le)
      record {
        says = ap Text (sym (take_all most (part at len s) (omega (arith, length_part at len s h))));
        there = (h, omega arith);
      }
  keep_cases false e =
      let gt = leb-false len most e in
      let le : most ≤ len = omega arith in
      rw (min-eq_right le)
      record { says = ap Text (sym (take-take most len (drop at s) le)); there = (omega arith, few) }

  text_holds : Holds s (said.Text (record { at = at; len = min len most })) (Text (take most (part at len s)))
  text_holds = keep_cases (leb len most) refl

short_most : (c : Column) → short c ≡ true → is_number c.form ≡ false → c.most ≤ 255
short_most c e f = leb-true c.most 255 (rw f at e)

-- what a piece says at its place holds what it says
module _ (s : List ℕ) (c : Column) (n : Name) (h : n.at + n.len ≤ length s) (few : short c ≡ true) where
  value_holds : (b : ℕ) (bs : List ℕ) → named s n ≡ b ∷ bs → (t : Bool) → is_number c.form ≡ t
      → Holds s (said_in c n.at (b ∷ bs)) (entry_in c (b ∷ bs))
  unfolding said_in entry_in
  value_holds b bs e true f = rw f (number_holds s (numeral_in c.form (b ∷ bs)))
  value_holds b bs e false f =
      let size : length (b ∷ bs) ≡ n.len = ap length (sym e) ∙ length_part n.at n.len s h in
      rw (f, size) (rw e at (text_holds n.at n.len c.most s h (short_most c few f)))

  pub said_holds : Holds s (said_in c n.at (named s n)) (entry_in c (named s n))
  unfolding said_in entry_in
  said_holds = go (named s n) refl
    where
      go : (p : List ℕ) → named s n ≡ p → Holds s (said_in c n.at p) (entry_in c p)
      go [] e = record { says = refl; there = tt }
      go (b ∷ bs) e = value_holds b bs e (is_number c.form) refl

-- every column of text is short, since its table is sound
short_sane : (c : Column) → Sane c → short c ≡ true
short_sane c ok = go (is_number c.form) refl
  where
    go : (t : Bool) → is_number c.form ≡ t → short c ≡ true
    go true f = rw f
    go false f = rw (f, le-leb c.most 255 (ok.short f))

short_all : (k : ℕ) (cs : List Column) → table_sound k cs ≡ true → each short cs ≡ true
short_all k [] ok = refl
short_all k (c ∷ cs) ok = rw (short_sane c (sane k c cs ok), short_all (k - 1) cs (rest_sound k c cs ok))

pub short_columns : (tag : Tag) → each short (columns tag) ≡ true
short_columns tag = short_all (bar tag) (columns tag) (sound tag)
