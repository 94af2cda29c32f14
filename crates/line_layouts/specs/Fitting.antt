-- What the fields of a line or of a record can say. Document 01, "Count lines", head and site, numbers in range, P/F,
-- names; and "Record frame and kinds", optional fields. #103, times.
--
--   entry_fits    whether a field can say an entry
--   entries_fit   one entry for each column, each in it
--   sits         a field that is missing only with the one before it: head and site
--   Fitting      what a meaning is
--   all_given     whether nothing is missing that a line must give; OnlyTimes: it is a time that is missing
--   table_sound   what is asked of a table, and tested of each by computation
-- Assumes nothing.
use Rattle.std.specs.Prelude.{◌≡◌, Bool, true, false, not, ◌&&◌, ◌||◌, List, [], ◌∷◌, ℕ, ◌-◌, eqb, leb, length}
use Prim.Native.Char.{code}
use Rattle.line_layouts.specs.declared.Tag.{Tag}
use Rattle.line_layouts.specs.declared.Form.{Form}
use Rattle.line_layouts.specs.declared.Form.TheVariants.{U1, U2, U4, Time, C1, Cn}
use Rattle.line_layouts.specs.declared.Flag.{Flag}
use Rattle.line_layouts.specs.declared.Flag.TheVariants.{Never, Own, Beside}
use Rattle.line_layouts.specs.declared.Column.{Column}
use Rattle.line_layouts.specs.Columns.{columns, most_time}
use Rattle.line_layouts.specs.Entries.{Entry, Missing, Number, Text, Meaning}
use Rattle.line_layouts.specs.Layouts.{is_time, missing_value, is_name}

abbrev pub is_number : Form → Bool
is_number U1 = true
is_number U2 = true
is_number U4 = true
is_number Time = true
is_number C1 = false
is_number Cn = false

abbrev pub has_flag : Flag → Bool
has_flag Never = false
has_flag Own = true
has_flag Beside = true

abbrev pub is_own : Flag → Bool
is_own Never = false
is_own Own = true
is_own Beside = false

abbrev pub is_beside : Flag → Bool
is_beside Never = false
is_beside Own = false
is_beside Beside = true

-- Missing: the value that stands for it, where the field has such a value
abbrev pub is_flag : Form → Flag → ℕ → Bool
is_flag form flag n = is_own flag && eqb n (missing_value form)

-- P/F is P or F, by its first character
abbrev pub is_letter : ℕ → Bool
is_letter b = eqb b (code "P") || eqb b (code "F")

abbrev pub letter_fits : List ℕ → Bool
letter_fits [] = false
letter_fits (b ∷ bs) = is_letter b

-- a number in range that does not say that the field is missing, or text of one byte up to what is kept
abbrev pub form_fits : Form → ℕ → Flag → Entry → Bool
form_fits form most flag Missing = has_flag flag
form_fits form most flag (Number n) = is_number form && (leb n most && not (is_flag form flag n))
form_fits form most flag (Text []) = false
form_fits form most flag (Text (b ∷ bs)) =
    not (is_number form) && (leb (length (b ∷ bs)) most && (is_name form || letter_fits (b ∷ bs)))

abbrev pub entry_fits : Column → Entry → Bool
entry_fits c e = form_fits c.form c.most c.flag e

abbrev pub entries_fit : List Column → List Entry → Bool
entries_fit [] [] = true
entries_fit [] (e ∷ es) = false
entries_fit (c ∷ cs) [] = false
entries_fit (c ∷ cs) (e ∷ es) = entry_fits c e && entries_fit cs es

abbrev pub is_none : Entry → Bool
is_none Missing = true
is_none (Number n) = false
is_none (Text bytes) = false

abbrev pub agree : Bool → Bool → Bool
agree true t = t
agree false t = not t

-- a field beside another is missing exactly where that one is; the first entry is the one before
abbrev pub sits_one : Column → Entry → Entry → Bool
sits_one c last e = not (is_beside c.flag) || agree (is_none last) (is_none e)

unfoldable pub sits : Entry → List Column → List Entry → Bool
sits last [] es = true
sits last (c ∷ cs) [] = true
sits last (c ∷ cs) (e ∷ es) = sits_one c last e && sits e cs es

abbrev pub Fitting : Meaning → Type 0
Fitting m =
    (entries_fit (columns m.tag) m.entries ≡ true) × (sits Missing (columns m.tag) m.entries ≡ true)

-- ---- what a line must give

abbrev pub given : Column → Entry → Bool
given c Missing = not c.required
given c (Number n) = true
given c (Text bytes) = true

-- nothing is missing that a line must give
abbrev pub all_given : List Column → List Entry → Bool
all_given [] es = true
all_given (c ∷ cs) [] = true
all_given (c ∷ cs) (e ∷ es) = given c e && all_given cs es

-- #103, 21: a required time is 0, which is missing
abbrev pub timed : Column → Entry → Bool
timed c Missing = not (c.required && is_time c.form)
timed c (Number n) = true
timed c (Text bytes) = true

abbrev pub all_timed : List Column → List Entry → Bool
all_timed [] es = true
all_timed (c ∷ cs) [] = true
all_timed (c ∷ cs) (e ∷ es) = timed c e && all_timed cs es

-- what is shown: of what fits, nothing that a line must give can be missing but a time
abbrev pub OnlyTimes : Type 0
OnlyTimes = (tag : Tag) (es : List Entry) → entries_fit (columns tag) es ≡ true
    → all_given (columns tag) es ≡ all_timed (columns tag) es

-- ---- what is asked of a table

-- all ones are the greatest number of a width: past the range where they say that a field is missing, and in it where
-- they are stored beside a missing one
abbrev pub count_sound : ℕ → ℕ → Flag → Bool
count_sound ones most flag =
    leb most ones && (not (is_own flag && leb ones most) && (not (is_beside flag) || leb ones most))

-- a time has 0 to say that it is missing; text is short enough for a count byte, P/F one byte
abbrev pub form_sound : Form → ℕ → Flag → Bool
form_sound U1 most flag = count_sound (missing_value U1) most flag
form_sound U2 most flag = count_sound (missing_value U2) most flag
form_sound U4 most flag = count_sound (missing_value U4) most flag
form_sound Time most flag = leb most most_time && is_own flag
form_sound C1 most flag = eqb most 1 && is_own flag
form_sound Cn most flag = (leb 1 most && leb most 255) && is_own flag

-- what text may leave empty can be missing, and so can what a record may leave out, by itself
abbrev pub column_sound : ℕ → Column → Bool
column_sound k c = form_sound c.form c.most c.flag && ((c.required || has_flag c.flag) && (leb 1 k || is_own c.flag))

abbrev pub table_sound : ℕ → List Column → Bool
table_sound k [] = true
table_sound k (c ∷ cs) = column_sound k c && table_sound (k - 1) cs
