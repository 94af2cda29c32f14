-- A field of a line. Document 01, "Count lines", Read: numbers, P/F, names, required fields; #103, dates.
--
--   split       text cut at each separator
--   gathered    the pieces in the order of the columns
--   numeral_in   the number that a piece says: the seconds of a date where the column is a time
--   piece_fits   whether a piece is the text of a column
--   entry_in     what such a piece says
--   fields_fit, entries_in   both of all columns
-- Assumes nothing.
use Rattle.std.specs.Prelude.{Bool, true, false, cond, not, ◌&&◌, List, [], ◌∷◌, ℕ, eqb, leb, take, Option, Some, None}
use Rattle.prelude.specs.Each.{each}
use Rattle.digits.specs.Digits.{numeral}
use Rattle.dates.specs.Reading.{date_of}
use Rattle.line_layouts.specs.declared.Tag.{Tag}
use Rattle.line_layouts.specs.declared.Form.{Form}
use Rattle.line_layouts.specs.declared.Column.{Column}
use Rattle.line_layouts.specs.Arranging.{arranged}
use Rattle.line_layouts.specs.Columns.{back}
use Rattle.line_layouts.specs.Names.{allowed}
use Rattle.line_layouts.specs.Entries.{Entry, Missing, Number, Text}
use Rattle.line_layouts.specs.Layouts.{is_name, is_time}
use Rattle.line_layouts.specs.Fitting.{is_number, letter_fits}

abbrev pub onto : ℕ → List (List ℕ) → List (List ℕ)
onto b [] = (b ∷ []) ∷ []
onto b (p ∷ ps) = (b ∷ p) ∷ ps

-- fields are separated by one byte
unfoldable pub split : ℕ → List ℕ → List (List ℕ)
split sep [] = [] ∷ []
split sep (b ∷ bs) = cond (eqb b sep) ([] ∷ split sep bs) (onto b (split sep bs))

-- the piece that each column takes: text has an order of its own, and may stop early, so the fields that it does not
-- come to are empty
abbrev pub gathered : Tag → List (List ℕ) → List (List ℕ)
gathered tag ps = arranged [] (back tag) ps

-- ---- the rules of one piece

-- #103: times 1 to 4,294,967,295 have dates
abbrev pub dated_numeral : Option ℕ → Option ℕ
dated_numeral (Some t) = Some t
dated_numeral None = None

-- numbers are one to ten digits, leading zeros allowed; #103: a time is a date, exactly as one is written
abbrev pub numeral_in : Form → List ℕ → Option ℕ
numeral_in form p = cond (is_time form) (dated_numeral (date_of p)) (numeral p)

-- in range
abbrev pub number_fits : ℕ → Option ℕ → Bool
number_fits most (Some n) = leb n most
number_fits most None = false

abbrev pub number_in : Option ℕ → Entry
number_in (Some n) = Number n
number_in None = Missing

-- of a name every byte, cut ones too, must be allowed; P/F counts by its first character
abbrev pub value_fits : ℕ → Column → List ℕ → Bool
value_fits sep c p =
    cond (is_number c.form) (number_fits c.most (numeral_in c.form p))
    (cond (is_name c.form) (each (allowed sep) p) (letter_fits p))

-- a name over 255 bytes is cut to 255, P/F to its first
abbrev pub value_in : Column → List ℕ → Entry
value_in c p = cond (is_number c.form) (number_in (numeral_in c.form p)) (Text (take c.most p))

-- a required one empty does not fit
unfoldable pub piece_fits : ℕ → Column → List ℕ → Bool
piece_fits sep c [] = not c.required
piece_fits sep c (b ∷ bs) = value_fits sep c (b ∷ bs)

unfoldable pub entry_in : Column → List ℕ → Entry
entry_in c [] = Missing
entry_in c (b ∷ bs) = value_in c (b ∷ bs)

-- ---- all of them, one for each column

unfoldable pub fields_fit : ℕ → List Column → List (List ℕ) → Bool
fields_fit sep [] ps = true
fields_fit sep (c ∷ cs) [] = false
fields_fit sep (c ∷ cs) (p ∷ ps) = piece_fits sep c p && fields_fit sep cs ps

unfoldable pub entries_in : List Column → List (List ℕ) → List Entry
entries_in [] ps = []
entries_in (c ∷ cs) [] = []
entries_in (c ∷ cs) (p ∷ ps) = entry_in c p ∷ entries_in cs ps
