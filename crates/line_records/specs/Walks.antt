-- The body of a record walked field by field, along the columns of its line. Document 01, "Record frame and kinds",
-- bodies read, their value rules and optional fields; "Count lines", head 255. #103, times.
--
--   Fit         what is read, or that it does not fit: 7
--   size        how many bytes a field takes, by its first
--   field_said   what the bytes of a field say
--   walked      what a body says: a site under head 255 as any other
--   hidden      without that site
--   meant       what a body means
-- Assumes nothing.
use Rattle.std.specs.Prelude.{cond, ◌&&◌, List, [], ◌∷◌, ℕ, zero, suc, ◌+◌, ◌-◌, eqb, leb, length, get_or, take, drop}
use Prim.Native.Char.{code}
use Rattle.prelude.specs.Choice.{◌unless◌then◌}
use Rattle.numbers.specs.declared.Order.{Order}
use Rattle.numbers.specs.Numbers.{number}
use Rattle.line_layouts.specs.declared.Tag.{Tag}
use Rattle.line_layouts.specs.declared.Form.{Form}
use Rattle.line_layouts.specs.declared.Form.TheVariants.{U1, U2, U4, Time, C1, Cn}
use Rattle.line_layouts.specs.declared.Flag.{Flag}
use Rattle.line_layouts.specs.declared.Column.{Column}
use Rattle.line_layouts.specs.Columns.{columns, bar}
use Rattle.line_layouts.specs.Entries.{Entry, Missing, Number, Text}
use Rattle.line_layouts.specs.Fitting.{is_beside, is_flag, is_letter, is_none}

pub data Fit (A : Type 0) : Type 0 where
  Fits : A → Fit A
  Misfit : Fit A

-- one reading after another
abbrev pub put : Fit Entry → Fit (List Entry) → Fit (List Entry)
put (Fits e) (Fits es) = Fits (e ∷ es)
put (Fits e) Misfit = Misfit
put Misfit r = Misfit

-- a C*n field is a count byte and that many bytes
unfoldable pub size : Form → List ℕ → ℕ
size U1 s = 1
size U2 s = 2
size U4 s = 4
size Time s = 4
size C1 s = 1
size Cn s = 1 + get_or s 0 0

-- ---- the bytes of one field, all of them

-- missing by its flag; bins 0 to 32,767, heads 0 to 254: no more than the column's most
abbrev pub number_said : Form → ℕ → Flag → ℕ → Fit Entry
number_said form most flag n =
    cond (is_flag form flag n) (Fits Missing) (cond (leb n most) (Fits (Number n)) Misfit)

-- P/F is P, F or space; a space is missing
abbrev pub letter_said : ℕ → Fit Entry
letter_said b = cond (eqb b (code " ")) (Fits Missing) (cond (is_letter b) (Fits (Text (b ∷ []))) Misfit)

-- a name of length 0 is missing
abbrev pub name_said : ℕ → List ℕ → Fit Entry
name_said most [] = Fits Missing
name_said most (b ∷ bs) = cond (leb (length (b ∷ bs)) most) (Fits (Text (b ∷ bs))) Misfit

unfoldable pub value_said : Order → Form → ℕ → Flag → List ℕ → Fit Entry
value_said ends U1 most flag s = number_said U1 most flag (number ends s)
value_said ends U2 most flag s = number_said U2 most flag (number ends s)
value_said ends U4 most flag s = number_said U4 most flag (number ends s)
value_said ends Time most flag s = number_said Time most flag (number ends s)
value_said ends C1 most flag s = letter_said (get_or s 0 0)
value_said ends Cn most flag s = name_said most (drop 1 s)

-- it may not stop inside a field
abbrev pub field_said : Order → Column → List ℕ → Fit Entry
field_said ends c s =
    Misfit unless leb (size c.form s) (length s) then
    value_said ends c.form c.most c.flag (take (size c.form s) s)

-- ---- all of them

-- a body may stop after any field from the last required one on, and not go on past the last. The first argument: how
-- many fields must still come
unfoldable pub walked : ℕ → Order → List Column → List ℕ → Fit (List Entry)
walked k ends [] [] = Fits []
walked k ends [] (b ∷ bs) = Misfit
walked zero ends (c ∷ cs) [] = put (Fits Missing) (walked zero ends cs [])
walked (suc k) ends (c ∷ cs) [] = Misfit
walked k ends (c ∷ cs) (b ∷ bs) =
    put (field_said ends c (b ∷ bs)) (walked (k - 1) ends cs (drop (size c.form (b ∷ bs)) (b ∷ bs)))

-- STDF head 255 is both empty, its site ignored; the first entry is the one before
abbrev pub hidden_one : Column → Entry → Entry → Entry
hidden_one c last e = cond (is_beside c.flag && is_none last) Missing e

unfoldable pub hidden : Entry → List Column → List Entry → List Entry
hidden last [] es = es
hidden last (c ∷ cs) [] = []
hidden last (c ∷ cs) (e ∷ es) = hidden_one c last e ∷ hidden (hidden_one c last e) cs es

abbrev pub hiding : Entry → List Column → Fit (List Entry) → Fit (List Entry)
hiding last cs Misfit = Misfit
hiding last cs (Fits es) = Fits (hidden last cs es)

unfoldable pub meant_by : ℕ → Order → List Column → List ℕ → Fit (List Entry)
meant_by k ends cs s = hiding Missing cs (walked k ends cs s)

abbrev pub meant : Order → Tag → List ℕ → Fit (List Entry)
meant ends tag s = meant_by (bar tag) ends (columns tag) s
