-- Laws of fields laid out.
-- Assumes nothing.
use mathlib.Core.Path.{◌≡◌, refl, ap, sym, ◌∙◌}
use mathlib.Core.Bool.{Bool, true, false}
use mathlib.Core.List.{List, [], ◌∷◌, ◌++◌, map}
use Prim.Native.Nat.{ℕ, zero, suc, ◌+◌, ◌-◌, ◌*◌, ◌/◌, ◌%◌, ◌≤◌, ◌<◌}
use native.Mathlib.Numerals.{add-one}
use native.Mathlib.Omega.{arith}
use borrow.Author.Tests.{eq-eqb, ne_eqb}
use lib.Dec.{eqb}
use lib.ListN.{length, get_or, take, drop, length-append, length-take, length-drop, drop_of_length-le, get_or-map}
use lib.Seq.{drop-cons, get_or-take, length-take-le, take-suc, take_all}
use Rattle.numbers.specs.declared.Order.{Order}
use Rattle.numbers.specs.Numbers.{ordered, written, over}
use Rattle.numbers.proofs.Laws.{length_written}
use Rattle.output.specs.Placed.{Put}
use Rattle.output.proofs.Laws.{length_part}
use Rattle.values.specs.declared.Name.{Name}
use Rattle.std.proofs.lemmas.List.{length-map}
use Rattle.line_layouts.specs.declared.Tag.{Tag}
use Rattle.line_layouts.specs.declared.Tag.TheVariants.{Pcr, Hbr, Sbr, Wir, Wrr}
use Rattle.line_layouts.specs.declared.Said.{Said}
use Rattle.line_layouts.specs.declared.Said.TheVariants as said
use Rattle.line_layouts.specs.declared.Line.{Line}
use Rattle.line_layouts.specs.declared.Column.{Column}
use Rattle.line_layouts.specs.declared.Layout.{Layout}
use Rattle.line_layouts.specs.declared.Layout.TheVariants as layout
use Rattle.line_layouts.specs.declared.Form.{Form}
use Rattle.line_layouts.specs.declared.Form.TheVariants.{U1, U2, U4, Time, C1, Cn}
use Rattle.line_layouts.specs.Columns.{columns, most_columns, no_column, width, order, back}
use Rattle.line_layouts.specs.Entries.{Entry, Missing, Number, Text, named, entry_of, entries_of}
use Rattle.line_layouts.specs.Entries.{meaning_of, no_field}
use Rattle.line_layouts.specs.Entries.{is_missing, Within, kept, present}
use Rattle.line_layouts.specs.Layouts.{entry_text, is_name, counted_name, counted, mark, marked, is_last, laid}
use Rattle.line_layouts.specs.Layouts.{in_order, bar_in, column_of, nth_bytes, entries_in, rest_of, Sized, head_of}
use Rattle.line_layouts.specs.Layouts.{laid_out}
use Rattle.line_layouts.proofs.Arranging.{length_arranged, arranged_in, below_at}
use Rattle.line_layouts.proofs.Tables.{turned}

-- ---- the low bytes of a number

pub low_one : (ends : Order) (n : ℕ) → written ends 1 (n % 256) ≡ written ends 1 n
low_one ends n =
    let same : n % 256 % 256 ≡ n % 256 = omega arith in
    ap (λ (b : ℕ). ordered ends (b ∷ [])) same

pub low_two : (ends : Order) (n : ℕ) → written ends 2 (n % 65536) ≡ written ends 2 n
low_two ends n =
    let rest : n % 65536 ≡ n % 256 + 256 * (n / 256 % 256) = omega arith in
    let low : n % 65536 % 256 ≡ n % 256 = rw rest (omega arith) in
    let high : n % 65536 / 256 % 256 ≡ n / 256 % 256 = rw rest (omega arith) in
    ap (λ (b : ℕ). ordered ends (b ∷ n % 65536 / 256 % 256 ∷ [])) low
    ∙ ap (λ (b : ℕ). ordered ends (n % 256 ∷ b ∷ [])) high

pub put_written : (ends : Order) (w n : ℕ) {old new : List ℕ} → new ≡ over (written ends w n) old
    → Put (written ends w n) old w new
put_written ends w n e = record { count = sym (length_written ends w n); laid = e }

pub width_one : (form : Form) → (width form ≡ 4 → ⊥) → (width form ≡ 2 → ⊥) → width form ≡ 1
width_one U1 four two = refl
width_one U2 four two = absurd (two refl)
width_one U4 four two = absurd (four refl)
width_one Time four two = absurd (four refl)
width_one C1 four two = refl
width_one Cn four two = refl

-- ---- a name: its count byte, then its bytes

module _ (ends : Order) (source : List ℕ) (name : Name) (there : Within source (said.Text name)) where
  length_named : length (named source name) ≡ name.len
  length_named = length_part name.at name.len source there.0

  -- what its length is stored as is what this code stores
  pub name_count : counted_name ends (named source name) ≡ written ends 1 name.len ++ named source name
  name_count = ap (λ (n : ℕ). written ends 1 n ++ named source name) length_named

  pub name_size : length (counted_name ends (named source name)) ≡ name.len + 1
  name_size = simp (length-append, length_written) (omega (arith, length_named))

-- ---- text, by its type

module _ (ends : Order) (form : Form) (bytes : List ℕ) where
  pub counted_name_lem : is_name form ≡ true → counted ends form bytes ≡ counted_name ends bytes
  counted_name_lem e = rw e

  pub counted_plain : is_name form ≡ false → counted ends form bytes ≡ bytes
  counted_plain e = rw e

-- ---- an entry in a line

pub marked_size : (sep : ℕ) (form : Form) (e : Entry) (last : Bool) {r : ℕ} → r ≡ length (entry_text form e)
    → r + 1 ≡ length (marked sep form e last)
marked_size sep form e last is = omega (arith, length-append (entry_text form e) (mark sep last ∷ []))

-- ---- field number j

pub most_columns_lem : (tag : Tag) → length (columns tag) ≤ most_columns
most_columns_lem Pcr = omega arith
most_columns_lem Hbr = omega arith
most_columns_lem Sbr = omega arith
most_columns_lem Wir = omega arith
most_columns_lem Wrr = omega arith

is_last_lem : (l : List Entry) (j n : ℕ) → length l ≡ n - suc j → j < n → is_last l ≡ eqb (j + 1) n
is_last_lem [] j n e h = sym (eq-eqb (j + 1) n (omega arith))
is_last_lem (x ∷ l) j n e h = sym (ne_eqb (j + 1) n (λ (is : j + 1 ≡ n). absurd (omega arith)))

-- ---- the order of a layout

pub column_inside : (layout : Layout) (tag : Tag) (j : ℕ) → j < length (columns tag)
    → column_of layout tag j < length (columns tag)
unfolding column_of
column_inside (layout.Text sep) tag j h =
    below_at (length (columns tag)) (order tag) j (turned tag).order_in (omega (arith, (turned tag).order_all))
column_inside (layout.Record ends) tag j h = h

-- the field of a line that column j is
pub back_inside : (tag : Tag) (j : ℕ) → j < length (columns tag) → get_or (back tag) j 0 < length (columns tag)
back_inside tag j h =
    below_at (length (columns tag)) (back tag) j (turned tag).back_in (omega (arith, (turned tag).back_all))

pub bar_few : (layout : Layout) (tag : Tag) → bar_in layout tag ≤ length (columns tag)
bar_few (layout.Text sep) tag = omega arith
bar_few (layout.Record ends) Pcr = omega arith
bar_few (layout.Record ends) Hbr = omega arith
bar_few (layout.Record ends) Sbr = omega arith
bar_few (layout.Record ends) Wir = omega arith
bar_few (layout.Record ends) Wrr = omega arith

module _ (A : Type 0) (none : A) where
  length_in : (layout : Layout) (tag : Tag) (xs : List A) → length xs ≡ length (columns tag)
      → length (in_order layout tag none xs) ≡ length (columns tag)
  length_in (layout.Text sep) tag xs e = length_arranged A none (order tag) xs ∙ (turned tag).order_all
  length_in (layout.Record ends) tag xs e = e

  in_at : (layout : Layout) (tag : Tag) (xs : List A) (j : ℕ) → j < length (columns tag)
      → get_or (in_order layout tag none xs) j none ≡ get_or xs (column_of layout tag j) none
  unfolding column_of
  in_at (layout.Text sep) tag xs j h = arranged_in A none (order tag) xs j (omega (arith, (turned tag).order_all))
  in_at (layout.Record ends) tag xs j h = refl

-- ---- the last present one

kept_some : (k : ℕ) (e x : Entry) (es : List Entry) → kept k e (x ∷ es) ≡ e ∷ x ∷ es
kept_some zero Missing x es = refl
kept_some zero (Number n) x es = refl
kept_some zero (Text bytes) x es = refl
kept_some (suc k) e x es = refl

present_missing : (k : ℕ) (es : List Entry) → k ≤ length es → present k (es ++ Missing ∷ []) ≡ present k es
present_missing zero [] h = refl
present_missing (suc k) [] h = absurd (omega arith)
present_missing k (e ∷ es) h = ap (kept k e) (present_missing (k - 1) es (omega arith))

module _ (e : Entry) (alone : (k : ℕ) → present k (e ∷ []) ≡ e ∷ []) where
  present_value : (k : ℕ) (es : List Entry) → present k (es ++ e ∷ []) ≡ es ++ e ∷ []
  present_value k [] = alone k
  present_value k (x ∷ []) = rw (alone (k - 1)) (kept_some k x e [])
  present_value k (x ∷ y ∷ es) = rw (present_value (k - 1) (y ∷ es)) (kept_some k x y (es ++ e ∷ []))

present_full : (k : ℕ) (es : List Entry) → length es ≤ k → present k es ≡ es
present_full k [] h = refl
present_full zero (e ∷ es) h = absurd (omega arith)
present_full (suc k) (e ∷ es) h =
    let less : suc k - 1 ≡ k = omega arith in
    rw less (ap (λ (l : List Entry). e ∷ l) (present_full k es (omega arith)))

entry_missing : (source : List ℕ) (s : Said) → is_missing s ≡ true → entry_of source s ≡ Missing
entry_missing source said.Missing e = refl
entry_missing source (said.Number n) e = let never : ◌≡◌ {A = Bool} false true = e in cc
entry_missing source (said.Text name) e = let never : ◌≡◌ {A = Bool} false true = e in cc

entry_value : (source : List ℕ) (s : Said) → is_missing s ≡ false → (k : ℕ)
    → present k (entry_of source s ∷ []) ≡ entry_of source s ∷ []
entry_value source said.Missing e k = let never : ◌≡◌ {A = Bool} true false = e in cc
entry_value source (said.Number n) e zero = refl
entry_value source (said.Number n) e (suc k) = refl
entry_value source (said.Text name) e zero = refl
entry_value source (said.Text name) e (suc k) = refl

module _ (source : List ℕ) (line : Line) (full : length line.fields ≡ most_columns) where
  pub said_at : (j : ℕ) → j < length (columns line.tag)
      → get_or (entries_of source line) j Missing ≡ entry_of source (get_or line.fields j no_field)
  said_at j h =
      get_or-take (length (columns line.tag)) (map (entry_of source) line.fields) j
      Missing h
      ∙ get_or-map (entry_of source) line.fields j no_field

  pub length_entries : length (entries_of source line) ≡ length (columns line.tag)
  length_entries =
      length-take-le (length (columns line.tag)) (map (entry_of source) line.fields)
      (omega (
        arith,
        length-map line.fields (entry_of source),
        full,
        most_columns_lem line.tag,
      ))

  module _ (layout : Layout) where
    -- the entries in their order
    abbrev entries : List Entry
    entries = entries_in layout source line

    length_all : length entries ≡ length (columns line.tag)
    unfolding entries_in
    length_all = length_in Entry Missing layout line.tag (entries_of source line) length_entries

    -- what field number j says
    abbrev said_of : ℕ → Said
    said_of j = (get_or line.fields (column_of layout line.tag j) no_field)

    field_at_lem : (j : ℕ) → j < length (columns line.tag) → get_or entries j Missing ≡ entry_of source (said_of j)
    unfolding entries_in
    field_at_lem j h =
        in_at Entry Missing layout line.tag (entries_of source line) j h
        ∙ said_at (column_of layout line.tag j) (column_inside layout line.tag j h)

    module _ (k j n : ℕ) (column : j < length (columns line.tag)) where
      more : take (j + 1) entries ≡ take j entries ++ entry_of source (said_of j) ∷ []
      more = rw (add-one j, take-suc entries j Missing (omega (arith, length_all)), field_at_lem j column)

      pub stop_missing : is_missing (said_of j) ≡ true → k ≤ j → present k (take j entries) ≡ take n entries
          → present k (take (j + 1) entries) ≡ take n entries
      stop_missing e low so_far =
          let size : length (take j entries) ≡ j = length-take-le j entries (omega (arith, length_all)) in
          rw (more, entry_missing source (said_of j) e) (present_missing k (take j entries) (omega arith) ∙ so_far)

      pub stop_value : is_missing (said_of j) ≡ false → present k (take (j + 1) entries) ≡ take (j + 1) entries
      stop_value e =
          rw more (present_value (entry_of source (said_of j)) (entry_value source (said_of j) e) k (take j entries))

    pub stop_first : (k : ℕ) → present k (take k entries) ≡ take k entries
    stop_first k = present_full k (take k entries) (omega (arith, length-take k entries))

    pub stop_all : (j : ℕ) → length (columns line.tag) ≤ j → take j entries ≡ entries
    stop_all j h = take_all j entries (omega (arith, length_all))

    module _ (j n : ℕ) where
      pub rest_ends : n ≤ j → rest_of layout source line j n ≡ []
      unfolding rest_of laid
      rest_ends h =
          let none : drop j (take n entries) ≡ [] =
          drop_of_length-le (take n entries) {i = j} (omega (arith, length-take n entries)) in
          rw none (go (drop j (in_order layout line.tag no_column (columns line.tag))))
        where
          go : (cs : List Column) → laid layout cs [] ≡ []
          go [] = refl
          go (c ∷ cs) = refl

      pub rest_on : j < n → n ≤ length (columns line.tag)
          → rest_of layout source line j n ≡ nth_bytes layout source line j n ++ rest_of layout source line (j + 1) n
      unfolding rest_of nth_bytes laid
      rest_on h few =
          let cs = in_order layout line.tag no_column (columns line.tag) in
          let size : length (take n entries) ≡ n = length-take-le n entries (omega (arith, length_all)) in
          let left : length (drop (suc j) (take n entries)) ≡ n - suc j = length-drop (suc j) (take n entries) ∙
          ap (λ (k : ℕ). k - suc j) size in
          let inside : j < length (take n entries) = omega arith in
          let column : j < length (columns line.tag) = omega arith in
          let some : j < length cs =
          omega (arith, length_in Column no_column layout line.tag (columns line.tag) refl) in
          let is : get_or (take n entries) j Missing ≡ entry_of source (said_of j) =
          get_or-take n entries j Missing h ∙ field_at_lem j column in
          rw (
            drop-cons cs j no_column some,
            drop-cons (take n entries) j Missing inside,
            in_at Column no_column layout line.tag (columns line.tag) j column,
            is,
            is_last_lem (drop (suc j) (take n entries)) j n left h,
            add-one j,
          )

      pub rest_length : j < n → n ≤ length (columns line.tag)
          → length (rest_of layout source line j n)
          ≡ length (nth_bytes layout source line j n) + length (rest_of layout source line (j + 1) n)
      rest_length h few =
          ap length (rest_on h few) ∙ length-append (nth_bytes layout source line j n)
          (rest_of layout source line (j + 1) n)

-- ---- head and fields

pub length_head : (layout : Layout) (tag : Tag) (size : ℕ) → length (head_of layout tag size) ≡ 4
length_head (layout.Text sep) Pcr size = refl
length_head (layout.Text sep) Hbr size = refl
length_head (layout.Text sep) Sbr size = refl
length_head (layout.Text sep) Wir size = refl
length_head (layout.Text sep) Wrr size = refl
length_head (layout.Record ends) tag size = rw (length-append, length_written ends 2 size)

module _ (layout : Layout) (source : List ℕ) (line : Line) (n size : ℕ) (sized : Sized layout source line n size) where
  pub laid_out_lem : laid_out layout (meaning_of source line)
      ≡ head_of layout line.tag size ++ rest_of layout source line 0 n
  unfolding rest_of entries_in
  laid_out_lem = rw (sized.is, sized.stops.all source)

  pub laid_size : length (laid_out layout (meaning_of source line)) ≡ size + 4
  laid_size =
      ap length laid_out_lem
      ∙ length-append (head_of layout line.tag size) (rest_of layout source line 0 n)
      ∙ omega (arith, length_head layout line.tag size, sized.is)
