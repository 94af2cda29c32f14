-- A body means something exactly where it fits its kind for a session: the walk along the columns goes as the fit of
-- its fields does, and its values follow the same rules.
-- Assumes nothing.
use mathlib.Core.Path.{◌≡◌, refl, ap, sym, ◌∙◌}
use mathlib.Core.Bool.{Bool, true, false, cond, ◌&&◌, ◌||◌}
use mathlib.Core.List.{List, [], ◌∷◌, map}
use Prim.Native.Nat.{ℕ, zero, suc, ◌+◌, ◌-◌, ◌≤◌, ◌<◌}
use Prim.Native.Char.{code}
use native.Mathlib.Omega.{arith}
use borrow.Author.Tests.{leb-true, leb-false, le-leb, lt-leb, eqb-true, eqb-false}
use lib.Dec.{eqb, leb}
use lib.ListN.{length, get_or, take, drop, length-drop, length-take}
use lib.Seq.{drop-drop, drop-nil, get_or-drop}
use Rattle.prelude.specs.Choice.{◌unless◌then◌}
use Rattle.prelude.specs.Each.{each}
use Rattle.prelude.proofs.Never.{false_true}
use Rattle.prelude.proofs.Both.{both_left, both_right}
use Rattle.numbers.specs.declared.Order.{Order}
use Rattle.numbers.specs.Numbers.{number, front, past}
use Rattle.numbers.specs.Laws.{Bytes}
use Rattle.numbers.proofs.Laws.{number_below, part_bytes, bytes_drop, front_part}
use Rattle.fields.specs.declared.FieldType.{FieldType}
use Rattle.fields.specs.declared.FieldType.TheVariants as field
use Rattle.fields.specs.Fields as fields
use Rattle.fields.specs.Fields.{ends_among}
use Rattle.fields.specs.Tables.{fits_body, pcr, bin, wir, wrr}
use Rattle.values.specs.Values.{pass_fail_fits}
use Rattle.count_bodies.specs.Counts.{bin_values_fit, bin_body_fits}
use Rattle.bodies.specs.declared.Record.{Record}
use Rattle.bodies.specs.Bodies.{reading, fitting, read_body}
use Rattle.line_layouts.specs.declared.Tag.TheVariants as tag
use Rattle.line_layouts.specs.declared.Form.{Form}
use Rattle.line_layouts.specs.declared.Form.TheVariants.{U1, U2, U4, Time, C1, Cn}
use Rattle.line_layouts.specs.declared.Flag.{Flag}
use Rattle.line_layouts.specs.declared.Flag.TheVariants.{Never, Own, Beside}
use Rattle.line_layouts.specs.declared.Column.{Column}
use Rattle.line_layouts.specs.Columns.{column, pcr_columns, bin_columns, wir_columns, wrr_columns, width}
use Rattle.line_layouts.specs.Entries.{Entry, Missing, Number, Text}
use Rattle.line_layouts.specs.Layouts.{missing_value}
use Rattle.line_layouts.specs.Fitting.{is_own}
use Rattle.line_records.specs.Walks.{Fit, Fits, Misfit, put, size, number_said, letter_said, name_said}
use Rattle.line_records.specs.Walks.{value_said, field_said, walked, hiding, meant_by}
use Rattle.line_records.specs.Laws.{is_fit, MeantRead}
use Rattle.line_records.proofs.Records.{walked_on}
use Rattle.line_records.proofs.Places.{front_at}

-- ---- readings, one after another

fit_put : (a : Fit Entry) (r : Fit (List Entry)) → is_fit (put a r) ≡ (is_fit a && is_fit r)
fit_put (Fits e) (Fits es) = refl
fit_put (Fits e) Misfit = refl
fit_put Misfit r = refl

fit_hiding : (last : Entry) (cs : List Column) (r : Fit (List Entry)) → is_fit (hiding last cs r) ≡ is_fit r
fit_hiding last cs (Fits es) = refl
fit_hiding last cs Misfit = refl

fitting_by : (t : Bool) (r : Record) → fitting (reading t r) ≡ t
fitting_by true r = refl
fitting_by false r = refl

shuffle : (a v e w : Bool) → ((a && v) && (e && w)) ≡ ((a && e) && (v && w))
shuffle true true e w = refl
shuffle true false true w = refl
shuffle true false false w = refl
shuffle false v e w = refl

module _ (ends : Order) where
  -- whether the value of the field that bytes begin with is one
  abbrev value_fit : Column → List ℕ → Bool
  value_fit c s = is_fit (value_said ends c.form c.most c.flag (take (size c.form s) s))

  fit_field : (c : Column) (s : List ℕ)
      → is_fit (field_said ends c s) ≡ (leb (size c.form s) (length s) && value_fit c s)
  fit_field c s = go (leb (size c.form s) (length s))
      (value_said ends c.form c.most c.flag (take (size c.form s) s))
    where
      go : (t : Bool) (r : Fit Entry) → is_fit (Misfit unless t then r) ≡ (t && is_fit r)
      go true r = refl
      go false r = refl

  fit_on : (k : ℕ) (c : Column) (cs : List Column) (s : List ℕ) → 1 ≤ length s
      → is_fit (walked k ends (c ∷ cs) s)
      ≡ ((leb (size c.form s) (length s) && value_fit c s) && is_fit (walked (k - 1) ends cs (drop (size c.form s) s)))
  fit_on k c cs s h =
      rw (
        walked_on ends c cs k s h,
        fit_put (field_said ends c s) (walked (k - 1) ends cs (drop (size c.form s) s)),
        fit_field c s,
      )

  -- ---- any table: the walk goes as the fit of its fields does, and its values are judged beside it

  abbrev type_for : Form → FieldType
  type_for U1 = field.U 1
  type_for U2 = field.U 2
  type_for U4 = field.U 4
  type_for Time = field.U 4
  type_for C1 = field.C1
  type_for Cn = field.Cn

  size_is : (form : Form) (s : List ℕ) → fields.size ends (type_for form) s ≡ size form s
  unfolding size
  size_is U1 s = refl
  size_is U2 s = refl
  size_is U4 s = refl
  size_is Time s = refl
  size_is C1 s = refl
  size_is Cn s = refl

  size_some : (form : Form) (s : List ℕ) → 1 ≤ size form s
  unfolding size
  size_some U1 s = omega arith
  size_some U2 s = omega arith
  size_some U4 s = omega arith
  size_some Time s = omega arith
  size_some C1 s = omega arith
  size_some Cn s = omega arith

  abbrev types_for : List Column → List FieldType
  types_for cs = map (λ (c : Column). type_for c.form) cs

  abbrev values_fit : List Column → List ℕ → Bool
  values_fit [] s = true
  values_fit (c ∷ cs) [] = true
  values_fit (c ∷ cs) (b ∷ bs) =
      value_fit c (b ∷ bs) && values_fit cs (drop (size c.form (b ∷ bs)) (b ∷ bs))

  walked_empty : (cs : List Column) → is_fit (walked 0 ends cs []) ≡ true
  unfolding walked
  walked_empty [] = refl
  walked_empty (c ∷ cs) = rw (fit_put (Fits Missing) (walked 0 ends cs [])) (walked_empty cs)

  optional_fit : (cs : List Column) (s : List ℕ)
      → is_fit (walked 0 ends cs s) ≡ (ends_among ends (types_for cs) s && values_fit cs s)
  unfolding walked
  optional_fit [] [] = refl
  optional_fit [] (b ∷ bs) = refl
  optional_fit (c ∷ cs) [] = walked_empty (c ∷ cs)
  optional_fit (c ∷ cs) (b ∷ bs) =
      let s = b ∷ bs in
      let rest = drop (size c.form s) s in
      let w = values_fit cs rest in
      fit_on 0 c cs s (omega arith)
      ∙ rw (optional_fit cs rest, size_is c.form s)
      (shuffle (leb (size c.form s) (length s)) (value_fit c s) (ends_among ends (types_for cs) rest) w)

  -- bytes for one field, then for the next
  fold : (w m : ℕ) (s : List ℕ) (t : Bool)
      → (leb w (length s) && (leb m (length (drop w s)) && t)) ≡ (leb (w + m) (length s) && t)
  fold w m s t = go (leb (w + m) (length s)) refl (leb w (length s)) refl
    where
      go : (a : Bool) → leb (w + m) (length s) ≡ a → (b : Bool) → leb w (length s) ≡ b
          → (leb w (length s) && (leb m (length (drop w s)) && t)) ≡ (leb (w + m) (length s) && t)
      go true e b f =
          let all = leb-true (w + m) (length s) e in
          rw (
            e,
            le-leb w (length s) (omega arith),
            le-leb m (length (drop w s)) (omega (arith, length-drop w s)),
          )
      go false e true f =
          let few = leb-false (w + m) (length s) e in
          let some = leb-true w (length s) f in
          rw (e, f, lt-leb m (length (drop w s)) (omega (arith, length-drop w s)))
      go false e false f = rw (e, f)

  table_fit : (k : ℕ) (cs : List Column) (s : List ℕ)
      → is_fit (walked k ends cs s)
      ≡ (fields.fits ends (types_for (take k cs)) (types_for (drop k cs)) s && values_fit cs s)
  unfolding walked
  table_fit zero cs s = rw (le-leb 0 (length s) (omega arith)) (optional_fit cs s)
  table_fit (suc k) [] [] = refl
  table_fit (suc k) [] (b ∷ bs) = rw (le-leb 0 (length (b ∷ bs)) (omega arith))
  table_fit (suc k) (c ∷ cs) [] =
      let w = fields.size ends (type_for c.form) [] in
      let m = fields.sizes ends (types_for (take k cs)) (drop w []) in
      rw (lt-leb (w + m) 0 (omega (arith, size_is c.form [], size_some c.form [])))
  table_fit (suc k) (c ∷ cs) (b ∷ bs) =
      let s = b ∷ bs in
      let w = size c.form s in
      let rest = drop w s in
      let m = fields.sizes ends (types_for (take k cs)) rest in
      let e = ends_among ends (types_for (drop k cs)) (drop m rest) in
      let less : suc k - 1 ≡ k = omega arith in
      fit_on (suc k) c cs s (omega arith)
      ∙ rw (less, table_fit k cs rest, size_is c.form s)
      (shuffle (leb w (length s)) (value_fit c s) (leb m (length rest) && e) (values_fit cs rest)
      ∙ ap (λ (x : Bool). x && (value_fit c s && values_fit cs rest))
      (fold w m s e ∙ ap (λ (l : List ℕ). leb (w + m) (length s) && ends_among ends (types_for (drop k cs)) l)
      (drop-drop m w s)))

  -- ---- columns whose every value fits: numbers to the greatest of their width, but for a missing value just past
  -- them, and names as long as a count byte tells

  abbrev greatest : Form → ℕ → Flag → ℕ
  greatest form most flag = cond (is_own flag && eqb (missing_value form) (suc most)) (suc most) most

  abbrev any_number : Form → ℕ → Flag → Bool
  any_number form most flag = leb (past (width form)) (suc (greatest form most flag))

  any_number_lem : (form : Form) (most : ℕ) (flag : Flag) (n : ℕ) → any_number form most flag ≡ true
      → n < past (width form) → is_fit (number_said form most flag n) ≡ true
  any_number_lem form most flag n all low =
      go (is_own flag) refl (eqb (missing_value form) (suc most)) refl (eqb n (missing_value form)) refl
    where
      high : past (width form) ≤ suc (greatest form most flag)
      high = leb-true (past (width form)) (suc (greatest form most flag)) all

      go : (o : Bool) → is_own flag ≡ o → (p : Bool) → eqb (missing_value form) (suc most) ≡ p
          → (q : Bool) → eqb n (missing_value form) ≡ q → is_fit (number_said form most flag n) ≡ true
      go false e p f q g =
          let top : past (width form) ≤ suc most = rw e at high in
          rw (e, le-leb n most (omega arith))
      go true e p f true g = rw (e, g)
      go true e true f false g =
          let top : past (width form) ≤ suc (suc most) = rw (e, f) at high in
          let next = eqb-true (missing_value form) (suc most) f in
          rw (e, g, le-leb n most (omega (arith, eqb-false n (missing_value form) g)))
      go true e false f false g =
          let top : past (width form) ≤ suc most = rw (e, f) at high in
          rw (e, g, le-leb n most (omega arith))

  past_some : (w : ℕ) → 1 ≤ past w
  past_some zero = omega arith
  past_some (suc w) = omega (arith, past_some w)

  past_more : (v w : ℕ) → v ≤ w → past v ≤ past w
  past_more zero w h = past_some w
  past_more (suc v) zero h = absurd (omega arith)
  past_more (suc v) (suc w) h = omega (arith, past_more v w (omega arith))

  number_low : (w : ℕ) (s : List ℕ) → Bytes s → number ends (take w s) < past w
  number_low w s bytes =
      let few = past_more (length (take w s)) w (omega (arith, length-take w s)) in
      omega (arith, number_below ends (take w s) (part_bytes s 0 w bytes))

  name_fit : (most : ℕ) (s : List ℕ) → length s ≤ most → is_fit (name_said most s) ≡ true
  name_fit most [] h = refl
  name_fit most (b ∷ bs) h = rw (le-leb (length (b ∷ bs)) most h)

  abbrev any_fits : Form → ℕ → Flag → Bool
  any_fits U1 most flag = any_number U1 most flag
  any_fits U2 most flag = any_number U2 most flag
  any_fits U4 most flag = any_number U4 most flag
  any_fits Time most flag = any_number Time most flag
  any_fits C1 most flag = false
  any_fits Cn most flag = leb 255 most

  any_fit : (form : Form) (most : ℕ) (flag : Flag) (s : List ℕ) → Bytes s → any_fits form most flag ≡ true
      → is_fit (value_said ends form most flag (take (size form s) s)) ≡ true
  unfolding value_said size
  any_fit U1 most flag s bytes all = any_number_lem U1 most flag (number ends (take 1 s)) all (number_low 1 s bytes)
  any_fit U2 most flag s bytes all = any_number_lem U2 most flag (number ends (take 2 s)) all (number_low 2 s bytes)
  any_fit U4 most flag s bytes all = any_number_lem U4 most flag (number ends (take 4 s)) all (number_low 4 s bytes)
  any_fit Time most flag s bytes all = any_number_lem Time most flag (number ends (take 4 s)) all (number_low 4 s bytes)
  any_fit C1 most flag s bytes all = false_true all
  any_fit Cn most flag s bytes all =
      let n = get_or s 0 0 in
      name_fit most (drop 1 (take (1 + n) s))
      (omega (
        arith,
        bytes 0,
        leb-true 255 most all,
        length-drop 1 (take (1 + n) s),
        length-take (1 + n) s,
      ))

  abbrev any_in : Column → Bool
  any_in c = any_fits c.form c.most c.flag

  values_none : (cs : List Column) → values_fit cs [] ≡ true
  values_none [] = refl
  values_none (c ∷ cs) = refl

  values_any : (c : Column) (cs : List Column) (s : List ℕ) → Bytes s → any_in c ≡ true
      → values_fit (c ∷ cs) s ≡ values_fit cs (drop (size c.form s) s)
  values_any c cs [] bytes all =
      rw (drop-nil (size c.form [])) (sym (values_none cs))
  values_any c cs (b ∷ bs) bytes all = rw (any_fit c.form c.most c.flag (b ∷ bs) bytes all)

  all_any : (cs : List Column) (s : List ℕ) → Bytes s → each any_in cs ≡ true → values_fit cs s ≡ true
  all_any [] s bytes all = refl
  all_any (c ∷ cs) s bytes all =
      values_any c cs s bytes (both_left (any_in c) (each any_in cs) all)
      ∙ all_any cs (drop (size c.form s) s) (bytes_drop (size c.form s) s bytes)
      (both_right (any_in c) (each any_in cs) all)

  and_true : (t : Bool) → (t && true) ≡ t
  and_true true = refl
  and_true false = refl

  -- .. so a table of them has no value rule
  any_table : (k : ℕ) (cs : List Column) (s : List ℕ) → Bytes s → each any_in cs ≡ true
      → is_fit (walked k ends cs s) ≡ fields.fits ends (types_for (take k cs)) (types_for (drop k cs)) s
  any_table k cs s bytes all =
      table_fit k cs s
      ∙ rw (all_any cs s bytes all) (and_true (fields.fits ends (types_for (take k cs)) (types_for (drop k cs)) s))

  -- ---- HBR and SBR: bin and P/F have a rule

  letter_fit : (y : ℕ) → is_fit (letter_said y) ≡ (eqb y (code "P") || (eqb y (code "F") || eqb y (code " ")))
  letter_fit y = go (eqb y (code " ")) (eqb y (code "P")) (eqb y (code "F"))
    where
      go : (s p f : Bool)
          → is_fit (cond s (Fits Missing) (cond (p || f) (Fits (Text (y ∷ []))) Misfit)) ≡ (p || (f || s))
      go true true f = refl
      go true false true = refl
      go true false false = refl
      go false true f = refl
      go false false true = refl
      go false false false = refl

  -- P/F and name, behind the count
  tail_fit : (b r : List ℕ) → Bytes b → drop 8 b ≡ r → values_fit (drop 4 bin_columns) r ≡ pass_fail_fits b 8
  unfolding value_said size pass_fail_fits
  tail_fit b [] bytes e =
      let few : length b < 9 = omega (arith, ap length e, length-drop 8 b) in
      rw (lt-leb 9 (length b) few)
  tail_fit b (y ∷ ys) bytes e =
      let some : 9 ≤ length b = omega (arith, ap length e, length-drop 8 b) in
      let byte : get_or b 8 0 ≡ y = sym (get_or-drop 8 b 0 0) ∙ ap (λ (l : List ℕ). get_or l 0 0) e in
      let left : Bytes ys = λ i. rw e at (bytes_drop 8 b bytes (suc i)) in
      rw (le-leb 9 (length b) some, byte, all_any (drop 5 bin_columns) ys left refl)
      (and_true (is_fit (letter_said y)) ∙ letter_fit y)

  bin_value : (n : ℕ) → is_fit (number_said U2 32_767 Never n) ≡ leb n 32_767
  bin_value n = go (leb n 32_767)
    where
      go : (t : Bool) → is_fit (cond t (Fits (Number n)) Misfit) ≡ t
      go true = refl
      go false = refl

  -- a field that is there
  values_on : (c : Column) (cs : List Column) (s : List ℕ) → 1 ≤ length s
      → values_fit (c ∷ cs) s ≡ (value_fit c s && values_fit cs (drop (size c.form s) s))
  values_on c cs [] h = absurd (omega arith)
  values_on c cs (b ∷ bs) h = refl

  bin_values : (b : List ℕ) → Bytes b → 8 ≤ length b → values_fit bin_columns b ≡ bin_values_fit ends b
  unfolding value_said size
  bin_values b bytes all =
      let b2 = drop 2 b in
      let b4 = drop 4 b in
      let number_is : number ends (take 2 b2) ≡ number ends (front 2 2 b) =
      sym (front_at ends 2 2 b (omega arith)) ∙ ap (number ends) (front_part 2 2 b) in
      values_any (column U1 254 false Own) (drop 1 bin_columns) b bytes refl
      ∙ values_any (column U1 255 false Beside) (drop 2 bin_columns) (drop 1 b) (bytes_drop 1 b bytes) refl
      ∙ ap (values_fit (drop 2 bin_columns)) (drop-drop 1 1 b)
      ∙ values_on (column U2 32_767 true Never) (drop 3 bin_columns) b2 (omega (arith, length-drop 2 b))
      ∙ rw (bin_value (number ends (take 2 b2)), number_is, drop-drop 2 2 b)
      (ap (λ (x : Bool). leb (number ends (front 2 2 b)) 32_767 && x)
      (values_any (column U4 4_294_967_295 true Never) (drop 4 bin_columns) b4 (bytes_drop 4 b bytes) refl
      ∙ ap (values_fit (drop 4 bin_columns)) (drop-drop 4 4 b) ∙ tail_fit b (drop 8 b) bytes refl))

  bin_fit : (b : List ℕ) → Bytes b → is_fit (walked 4 ends bin_columns b) ≡ bin_body_fits ends b
  bin_fit b bytes = table_fit 4 bin_columns b ∙ go (fits_body ends bin b) refl
    where
      go : (t : Bool) → fits_body ends bin b ≡ t
          → (fits_body ends bin b && values_fit bin_columns b) ≡ (fits_body ends bin b && bin_values_fit ends b)
      go false e = rw e
      go true e =
          let there = leb-true 8 (length b)
          (both_left (leb 8 (length b)) (ends_among ends bin.optional (drop 8 b)) e) in
          rw e (bin_values b bytes there)

-- a kind without a value rule: only its fields are judged
pub meant_read : MeantRead
unfolding meant_by read_body
meant_read ends tag.Pcr b bytes =
    fit_hiding Missing pcr_columns (walked 3 ends pcr_columns b) ∙ any_table ends 3 pcr_columns b bytes refl
    ∙ sym (fitting_by (fits_body ends pcr b) _)
meant_read ends tag.Hbr b bytes =
    fit_hiding Missing bin_columns (walked 4 ends bin_columns b) ∙ bin_fit ends b bytes ∙ sym (fitting_by
    (bin_body_fits ends b) _)
meant_read ends tag.Sbr b bytes =
    fit_hiding Missing bin_columns (walked 4 ends bin_columns b) ∙ bin_fit ends b bytes ∙ sym (fitting_by
    (bin_body_fits ends b) _)
meant_read ends tag.Wir b bytes =
    fit_hiding Missing wir_columns (walked 3 ends wir_columns b) ∙ any_table ends 3 wir_columns b bytes refl
    ∙ sym (fitting_by (fits_body ends wir b) _)
meant_read ends tag.Wrr b bytes =
    fit_hiding Missing wrr_columns (walked 4 ends wrr_columns b) ∙ any_table ends 4 wrr_columns b bytes refl
    ∙ sym (fitting_by (fits_body ends wrr b) _)
