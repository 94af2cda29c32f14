-- Each table is sound and each order has its way back, by computation; a separator is none of the bytes that fields are
-- made of.
-- Assumes nothing.
use mathlib.Core.Path.{◌≡◌, refl, sym}
use mathlib.Core.Bool.{true, false, not, ◌&&◌, ◌||◌}
use mathlib.Core.List.{List, ◌∷◌}
use Prim.Native.Nat.{ℕ, ◌-◌, ◌≤◌, ◌<◌, ◌^◌}
use Prim.Native.Char.{code}
use native.Mathlib.Omega.{arith}
use borrow.Author.Tests.{leb-true, leb-false, eqb-true, not-true}
use lib.Dec.{eqb, leb}
use lib.ListN.{length}
use Rattle.prelude.proofs.Never.{false_true}
use Rattle.prelude.proofs.Both.{both_left, both_right}
use Rattle.digits.specs.Digits.{is_digit}
use Rattle.line_layouts.specs.declared.Tag.{Tag}
use Rattle.line_layouts.specs.declared.Tag.TheVariants.{Pcr, Hbr, Sbr, Wir, Wrr}
use Rattle.line_layouts.specs.declared.Form.{Form}
use Rattle.line_layouts.specs.declared.Form.TheVariants.{U1, U2, U4, Time, C1, Cn}
use Rattle.line_layouts.specs.declared.Flag.{Flag}
use Rattle.line_layouts.specs.declared.Column.{Column}
use Rattle.line_layouts.specs.Arranging.{Turned}
use Rattle.line_layouts.specs.Columns.{separator, columns, bar, order, back, most_time}
use Rattle.line_layouts.specs.Layouts.{missing_value, is_name}
use Rattle.line_layouts.specs.Names.{is_capital, separates}
use Rattle.line_layouts.specs.Fitting.{is_number, has_flag, is_own, is_beside, count_sound, form_sound, column_sound}
use Rattle.line_layouts.specs.Fitting.{table_sound}

pub sound : (tag : Tag) → table_sound (bar tag) (columns tag) ≡ true
sound Pcr = refl
sound Hbr = refl
sound Sbr = refl
sound Wir = refl
sound Wrr = refl

-- text goes in an order of the columns, and `back` is the way back from it
pub turned : (tag : Tag) → Turned (length (columns tag)) (order tag) (back tag)
turned Pcr = record { order_all = refl; order_in = refl; back_all = refl; back_in = refl; again = refl }
turned Hbr = record { order_all = refl; order_in = refl; back_all = refl; back_in = refl; again = refl }
turned Sbr = record { order_all = refl; order_in = refl; back_all = refl; back_in = refl; again = refl }
turned Wir = record { order_all = refl; order_in = refl; back_all = refl; back_in = refl; again = refl }
turned Wrr = record { order_all = refl; order_in = refl; back_all = refl; back_in = refl; again = refl }

-- ---- what soundness says of a column

pub record CountSound (ones most : ℕ) (flag : Flag) : Type 0 where
  pub range : most ≤ ones
  pub own : is_own flag ≡ true → most < ones
  pub near : is_beside flag ≡ true → ones ≤ most

pub count_sound_lem : (ones most : ℕ) (flag : Flag) → count_sound ones most flag ≡ true → CountSound ones most flag
count_sound_lem ones most flag e =
    let out = not (is_own flag && leb ones most) in
    let near = not (is_beside flag) || leb ones most in
    let more = both_right (leb most ones) (out && near) e in
    record {
      range = leb-true most ones (both_left (leb most ones) (out && near) e);
      own = λ f. leb-false ones most (not-true (leb ones most) (rw f at (both_left out near more)));
      near = λ f. leb-true ones most (rw f at (both_right out near more));
    }

pub record Sane (c : Column) : Type 0 where
  pub most : c.most < 2 ^ 32
  pub some : is_number c.form ≡ false → 1 ≤ c.most
  pub one : is_number c.form ≡ false → is_name c.form ≡ false → c.most ≤ 1
  pub short : is_number c.form ≡ false → c.most ≤ 255
  pub empties : (c.required || has_flag c.flag) ≡ true

sane_form : (form : Form) (most : ℕ) (flag : Flag) → form_sound form most flag ≡ true
    → (most < 2 ^ 32) × (is_number form ≡ false → 1 ≤ most) × (is_number form ≡ false → is_name form ≡ false → most ≤ 1)
    × (is_number form ≡ false → most ≤ 255)
sane_form U1 most flag e =
    let few = (count_sound_lem (missing_value U1) most flag e).range in
    (omega arith, (λ f. false_true (sym f)), (λ f g. false_true (sym f)), (λ f. false_true (sym f)))
sane_form U2 most flag e =
    let few = (count_sound_lem (missing_value U2) most flag e).range in
    (omega arith, (λ f. false_true (sym f)), (λ f g. false_true (sym f)), (λ f. false_true (sym f)))
sane_form U4 most flag e =
    let few = (count_sound_lem (missing_value U4) most flag e).range in
    (omega arith, (λ f. false_true (sym f)), (λ f g. false_true (sym f)), (λ f. false_true (sym f)))
sane_form Time most flag e =
    let few = leb-true most most_time (both_left (leb most most_time) (is_own flag) e) in
    (omega arith, (λ f. false_true (sym f)), (λ f g. false_true (sym f)), (λ f. false_true (sym f)))
sane_form C1 most flag e =
    let is = eqb-true most 1 (both_left (eqb most 1) (is_own flag) e) in
    (omega arith, (λ f. omega arith), (λ f g. omega arith), (λ f. omega arith))
sane_form Cn most flag e =
    let a = leb 1 most && leb most 255 in
    let ends = both_left a (is_own flag) e in
    let low = leb-true 1 most (both_left (leb 1 most) (leb most 255) ends) in
    let few = leb-true most 255 (both_right (leb 1 most) (leb most 255) ends) in
    (omega arith, (λ f. low), (λ f g. false_true (sym g)), (λ f. few))

module _ (k : ℕ) (c : Column) (cs : List Column) (e : table_sound k (c ∷ cs) ≡ true) where
  pub column_sound_lem : column_sound k c ≡ true
  column_sound_lem = both_left (column_sound k c) (table_sound (k - 1) cs) e

  pub rest_sound : table_sound (k - 1) cs ≡ true
  rest_sound = both_right (column_sound k c) (table_sound (k - 1) cs) e

  pub form_sound_lem : form_sound c.form c.most c.flag ≡ true
  form_sound_lem =
      both_left (form_sound c.form c.most c.flag) ((c.required || has_flag c.flag) && (leb 1 k || is_own c.flag)) column_sound_lem

  -- what a record may leave out is missing by itself
  pub left_out : (leb 1 k || is_own c.flag) ≡ true
  left_out =
      let empty = c.required || has_flag c.flag in
      let out = leb 1 k || is_own c.flag in
      both_right empty out (both_right (form_sound c.form c.most c.flag) (empty && out) column_sound_lem)

  pub sane : Sane c
  sane =
      let empty = c.required || has_flag c.flag in
      let out = leb 1 k || is_own c.flag in
      let f = sane_form c.form c.most c.flag form_sound_lem in
      record {
        most = f.0;
        some = f.1;
        one = f.2;
        short = f.3;
        empties = both_left empty out (both_right (form_sound c.form c.most c.flag) (empty && out) column_sound_lem);
      }

-- ---- the separator

pub bar_separates : separates separator ≡ true
unfolding separates is_digit
bar_separates = refl

pub record Apart (sep : ℕ) : Type 0 where
  pub digit : is_digit sep ≡ false
  pub capital : is_capital sep ≡ false
  pub colon : eqb sep (code ":") ≡ false
  pub minus : eqb sep (code "-") ≡ false
  pub low : 33 ≤ sep

pub apart : (sep : ℕ) → separates sep ≡ true → Apart sep
unfolding separates
apart sep e =
    let seen = leb 33 sep && leb sep 126 in
    let m = not (eqb sep (code "-")) && seen in
    let c = not (eqb sep (code ":")) && m in
    let a = not (is_capital sep) && c in
    let capitals = both_right (not (is_digit sep)) a e in
    let marks = both_right (not (is_capital sep)) c capitals in
    let more = both_right (not (eqb sep (code ":"))) m marks in
    record {
      digit = not-true (is_digit sep) (both_left (not (is_digit sep)) a e);
      capital = not-true (is_capital sep) (both_left (not (is_capital sep)) c capitals);
      colon = not-true (eqb sep (code ":")) (both_left (not (eqb sep (code ":"))) m marks);
      minus = not-true (eqb sep (code "-")) (both_left (not (eqb sep (code "-"))) seen more);
      low = leb-true 33 sep (both_left (leb 33 sep) (leb sep 126) (both_right (not (eqb sep (code "-"))) seen more));
    }
