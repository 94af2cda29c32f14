-- What a line or a record says, field by field. Document 01, "Count lines", and "Record frame and kinds", optional
-- fields: each a value or missing.
--
--   Entry     what one field says
--   Meaning   what a line or a record says: its tag and its entries, in the order of its columns
--   entry_of   what a field of this code says, its bytes in a source
--   Within    the bytes that a field names are there
--   present   the entries without the missing ones at their end, but for those that must stand
-- Assumes nothing.
use Rattle.std.specs.Prelude.{◌≡◌, Bool, true, false, List, [], ◌∷◌, ◌++◌, map, ℕ, zero, suc, ◌+◌, ◌-◌, ◌≤◌, ◌<◌, length, get_or, take, drop, replicate}
use Rattle.output.specs.Placed.{part}
use Rattle.values.specs.declared.Name.{Name}
use Rattle.line_layouts.specs.declared.Tag.{Tag}
use Rattle.line_layouts.specs.declared.Said.{Said}
use Rattle.line_layouts.specs.declared.Said.TheVariants as said
use Rattle.line_layouts.specs.declared.Line.{Line}
use Rattle.line_layouts.specs.Columns.{columns, most_columns}

-- an optional field is a number or missing, a time is a number of seconds; P/F and a name are text
pub data Entry : Type 0 where
  Missing : Entry
  Number : ℕ → Entry
  Text : List ℕ → Entry

pub record Meaning : Type 0 where
  pub tag : Tag
  pub entries : List Entry

abbrev pub named : List ℕ → Name → List ℕ
named source name = part name.at name.len source

abbrev pub entry_of : List ℕ → Said → Entry
entry_of source said.Missing = Missing
entry_of source (said.Number n) = Number n
entry_of source (said.Text name) = Text (named source name)

-- a line of this code has room for the longest table
abbrev pub entries_of : List ℕ → Line → List Entry
entries_of source line = take (length (columns line.tag)) (map (entry_of source) line.fields)

abbrev pub meaning_of : List ℕ → Line → Meaning
meaning_of source line = record { tag = line.tag; entries = entries_of source line }

abbrev pub Within : List ℕ → Said → Type 0
Within source said.Missing = Unit {0}
Within source (said.Number n) = Unit {0}
Within source (said.Text name) = (name.at + name.len ≤ length source) × (name.len ≤ 255)

abbrev pub no_field : Said
no_field = said.Missing

-- as many fields as the longest table has columns
abbrev pub no_fields : List Said
no_fields = replicate most_columns no_field

-- fields past a table's columns are missing
abbrev pub padded : List Said → List Said
padded fields = fields ++ drop (length fields) no_fields

-- so many fields; a name has at most 255 bytes, and all of them stand in the source
pub record AllWithin (source : List ℕ) (line : Line) : Type 0 where
  pub full : length line.fields ≡ most_columns
  pub within : (j : ℕ) → Within source (get_or line.fields j no_field)

-- field number j is one of the n that are laid out
pub record Nth (source : List ℕ) (line : Line) (j n : ℕ) : Type 0 where
  pub there : AllWithin source line
  pub before : j < n
  pub few : n ≤ length (columns line.tag)

abbrev pub is_missing : Said → Bool
is_missing said.Missing = true
is_missing (said.Number n) = false
is_missing (said.Text name) = false

abbrev pub kept : ℕ → Entry → List Entry → List Entry
kept zero Missing [] = []
kept zero Missing (e ∷ es) = Missing ∷ e ∷ es
kept zero (Number n) es = Number n ∷ es
kept zero (Text bytes) es = Text bytes ∷ es
kept (suc k) e es = e ∷ es

-- Written, trailing missing fields dropped; Read, the record stops after its last present field. The first argument:
-- how many fields must stand, present or not
abbrev pub present : ℕ → List Entry → List Entry
present k [] = []
present k (e ∷ es) = kept k e (present (k - 1) es)
