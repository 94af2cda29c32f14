-- What is written of a meaning, as text and as a record. Document 01, "Count lines", Written, and Read, the record
-- written.
--
--   entry_text   an entry in a line
--   stored      an entry in a record
--   laid        entries one after the other
--   laid_out     a meaning in either layout: text_of, its canonical line, or record_of, its record in a byte order
-- Assumes nothing.
use Rattle.std.specs.Prelude.{◌≡◌, ℕ, ◌+◌, ◌≤◌, Bool, true, false, cond, List, [], ◌∷◌, ◌++◌, eqb, length, get_or, drop, take}
use Prim.Native.Char.{code}
use Rattle.numbers.specs.declared.Order.{Order}
use Rattle.numbers.specs.Numbers.{written}
use Rattle.digits.specs.Digits.{digits}
use Rattle.dates.specs.Dates.{date_text}
use Rattle.line_layouts.specs.declared.Tag.{Tag}
use Rattle.line_layouts.specs.declared.Form.{Form}
use Rattle.line_layouts.specs.declared.Form.TheVariants.{U1, U2, U4, Time, C1, Cn}
use Rattle.line_layouts.specs.declared.Column.{Column}
use Rattle.line_layouts.specs.declared.Layout.{Layout}
use Rattle.line_layouts.specs.declared.Layout.TheVariants as layout
use Rattle.line_layouts.specs.declared.Line.{Line}
use Rattle.line_layouts.specs.Arranging.{arranged}
use Rattle.line_layouts.specs.Columns.{separator, line_feed, tag_text, type_of, sub_of, columns, no_column}
use Rattle.line_layouts.specs.Columns.{width, bar, order}
use Rattle.line_layouts.specs.Entries.{Entry, Missing, Number, Text, Meaning, entry_of, entries_of, no_field}
use Rattle.line_layouts.specs.Entries.{AllWithin, present}

abbrev pub is_time : Form → Bool
is_time U1 = false
is_time U2 = false
is_time U4 = false
is_time Time = true
is_time C1 = false
is_time Cn = false

-- decimal without leading zeros; #103, a time is a date
abbrev pub number_text : Form → ℕ → List ℕ
number_text form n = cond (is_time form) (date_text n) (digits n)

-- a missing field is empty
abbrev pub entry_text : Form → Entry → List ℕ
entry_text form Missing = []
entry_text form (Number n) = number_text form n
entry_text form (Text bytes) = bytes

-- Missing: a number of all ones; P/F a space; name of length 0; #103, time 0
abbrev pub missing_value : Form → ℕ
missing_value U1 = 255
missing_value U2 = 65_535
missing_value U4 = 4_294_967_295
missing_value Time = 0
missing_value C1 = code " "
missing_value Cn = 0

abbrev pub is_name : Form → Bool
is_name U1 = false
is_name U2 = false
is_name U4 = false
is_name Time = false
is_name C1 = false
is_name Cn = true

-- a C*n field is a count byte and that many bytes
abbrev pub counted_name : Order → List ℕ → List ℕ
counted_name ends bytes = written ends (width Cn) (length bytes) ++ bytes

abbrev pub counted : Order → Form → List ℕ → List ℕ
counted ends form bytes = cond (is_name form) (counted_name ends bytes) bytes

abbrev pub stored : Order → Form → Entry → List ℕ
stored ends form Missing = written ends (width form) (missing_value form)
stored ends form (Number n) = written ends (width form) n
stored ends form (Text bytes) = counted ends form bytes

-- behind a field stands the separator, behind the last one LF
abbrev pub mark : ℕ → Bool → ℕ
mark sep last = cond last line_feed sep

abbrev pub marked : ℕ → Form → Entry → Bool → List ℕ
marked sep form e last = entry_text form e ++ mark sep last ∷ []

abbrev pub field_bytes : Layout → Form → Entry → Bool → List ℕ
field_bytes (layout.Text sep) form e last = marked sep form e last
field_bytes (layout.Record ends) form e last = stored ends form e

abbrev pub is_last : List Entry → Bool
is_last [] = true
is_last (e ∷ es) = false

unfoldable pub laid : Layout → List Column → List Entry → List ℕ
laid layout [] es = []
laid layout (c ∷ cs) [] = []
laid layout (c ∷ cs) (e ∷ es) = field_bytes layout c.form e (is_last es) ++ laid layout cs es

-- a line's fields go in the order of the text, a record's in its own
abbrev pub in_order : {A : Type 0} → Layout → Tag → A → List A → List A
in_order (layout.Text sep) tag none xs = arranged none (order tag) xs
in_order (layout.Record ends) tag none xs = xs

-- a record has the fields before its bar, a line none that it must show
abbrev pub bar_in : Layout → Tag → ℕ
bar_in (layout.Text sep) tag = 0
bar_in (layout.Record ends) tag = bar tag

-- the fields in their order, the trailing missing ones dropped
abbrev pub fields_of : Layout → Meaning → List ℕ
fields_of layout m =
    laid layout (in_order layout m.tag no_column (columns m.tag))
    (present (bar_in layout m.tag) (in_order layout m.tag Missing m.entries))

-- `PCR:` and so on before a line's fields; REC_LEN, REC_TYP, REC_SUB before a record's
abbrev pub head_of : Layout → Tag → ℕ → List ℕ
head_of (layout.Text sep) tag length = tag_text tag
head_of (layout.Record ends) tag length = written ends 2 length ++ type_of tag ∷ sub_of tag ∷ []

abbrev pub laid_out : Layout → Meaning → List ℕ
laid_out layout m = head_of layout m.tag (length (fields_of layout m)) ++ fields_of layout m

-- one line, its LF with it
abbrev pub text_by : ℕ → Meaning → List ℕ
text_by sep m = laid_out (layout.Text sep) m

-- fields are separated by `|`
abbrev pub text_of : Meaning → List ℕ
text_of m = text_by separator m

abbrev pub record_of : Order → Meaning → List ℕ
record_of ends m = laid_out (layout.Record ends) m

-- ---- the parts of it that this code writes one by one

-- the column of field number j
unfoldable pub column_of : Layout → Tag → ℕ → ℕ
column_of (layout.Text sep) tag j = get_or (order tag) j 0
column_of (layout.Record ends) tag j = j

-- field number j of n
unfoldable pub nth_bytes : Layout → List ℕ → Line → ℕ → ℕ → List ℕ
nth_bytes layout source line j n =
    let i = column_of layout line.tag j in
    field_bytes layout (get_or (columns line.tag) i no_column).form
    (entry_of source (get_or line.fields i no_field)) (eqb (j + 1) n)

-- what its fields say, in their order
unfoldable pub entries_in : Layout → List ℕ → Line → List Entry
entries_in layout source line = in_order layout line.tag Missing (entries_of source line)

-- the fields from number j to before number n
unfoldable pub rest_of : Layout → List ℕ → Line → ℕ → ℕ → List ℕ
rest_of layout source line j n =
    laid layout (drop j (in_order layout line.tag no_column (columns line.tag)))
    (drop j (take n (entries_in layout source line)))

-- the number of fields that are laid out, wherever the bytes that they name stand
pub record Stops (layout : Layout) (line : Line) (n : ℕ) : Type 0 where
  pub few : n ≤ length (columns line.tag)
  pub all : (source : List ℕ)
      → present (bar_in layout line.tag) (entries_in layout source line) ≡ take n (entries_in layout source line)

-- n fields are up to the last present one, and take size bytes
pub record Sized (layout : Layout) (source : List ℕ) (line : Line) (n size : ℕ) : Type 0 where
  pub there : AllWithin source line
  pub stops : Stops layout line n
  pub is : size ≡ length (rest_of layout source line 0 n)
