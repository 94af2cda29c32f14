-- Fields of a record as this code holds them: text by its place in the body.
--
--   field_at    what the field at a place says
--   Stepped    what a function that reads one field promises
--   Going      the same, where the record may have stopped
--   line_at     all fields of a body
--   record_line   .. of a record, by its kind
-- Assumes nothing.
use Rattle.std.specs.Prelude.{◌≡◌, Bool, true, false, cond, ◌&&◌, List, [], ◌∷◌, ℕ, zero, suc, ◌+◌, ◌-◌, ◌≤◌, eqb, leb, ltb, length, get_or, take, drop, Option, Some, None}
use Prim.Native.Char.{code}
use Rattle.prelude.specs.Choice.{◌unless◌then◌}
use Rattle.numbers.specs.declared.Order.{Order}
use Rattle.numbers.specs.Numbers.{number}
use Rattle.kinds.specs.Kinds.{kind_of}
use Rattle.frames.specs.Frames.{rec_typ, rec_sub, body}
use Rattle.line_layouts.specs.declared.Tag.{Tag}
use Rattle.line_layouts.specs.declared.Form.{Form}
use Rattle.line_layouts.specs.declared.Form.TheVariants.{U1, U2, U4, Time, C1, Cn}
use Rattle.line_layouts.specs.declared.Flag.{Flag}
use Rattle.line_layouts.specs.declared.Column.{Column}
use Rattle.line_layouts.specs.declared.Said.{Said}
use Rattle.line_layouts.specs.declared.Said.TheVariants as said
use Rattle.line_layouts.specs.declared.Line.{Line}
use Rattle.line_layouts.specs.Columns.{columns, width}
use Rattle.line_layouts.specs.Entries.{Entry, entry_of, is_missing, padded, Within}
use Rattle.line_layouts.specs.Judging.{no_line}
use Rattle.line_layouts.specs.Fitting.{is_number, is_beside, is_flag, is_letter}
use Rattle.line_records.specs.Walks.{Fit, Fits, Misfit, put, size, walked}
use Rattle.line_records.specs.Records.{count_tag}

abbrev pub number_at : Form → ℕ → Flag → ℕ → Fit Said
number_at form most flag n =
    cond (is_flag form flag n) (Fits said.Missing) (cond (leb n most) (Fits (said.Number n)) Misfit)

abbrev pub letter_at : ℕ → ℕ → Fit Said
letter_at b at =
    cond (eqb b (code " ")) (Fits said.Missing)
    (cond (is_letter b) (Fits (said.Text (record { at = at; len = 1 }))) Misfit)

abbrev pub name_at : ℕ → ℕ → ℕ → Fit Said
name_at most zero at = Fits said.Missing
name_at most (suc n) at =
    cond (leb (suc n) most) (Fits (said.Text (record { at = at + 1; len = suc n }))) Misfit

-- a number's bytes begin the part behind a place
abbrev pub number_in : Order → Form → List ℕ → ℕ → ℕ
number_in ends form s at = number ends (take (width form) (drop at s))

unfoldable pub value_at : Order → Form → ℕ → Flag → List ℕ → ℕ → Fit Said
value_at ends U1 most flag s at = number_at U1 most flag (number_in ends U1 s at)
value_at ends U2 most flag s at = number_at U2 most flag (number_in ends U2 s at)
value_at ends U4 most flag s at = number_at U4 most flag (number_in ends U4 s at)
value_at ends Time most flag s at = number_at Time most flag (number_in ends Time s at)
value_at ends C1 most flag s at = letter_at (get_or (drop at s) 0 0) at
value_at ends Cn most flag s at = name_at most (get_or (drop at s) 0 0) at

-- the field that begins at a place
abbrev pub field_at : Order → Column → List ℕ → ℕ → Fit Said
field_at ends c s at =
    Misfit unless leb (at + size c.form (drop at s)) (length s) then value_at ends c.form c.most c.flag s at

abbrev pub saying : List ℕ → Fit Said → Fit Entry
saying s Misfit = Misfit
saying s (Fits f) = Fits (entry_of s f)

-- what is read behind entries that are read already
abbrev pub behind : List Entry → Fit (List Entry) → Fit (List Entry)
behind [] r = r
behind (e ∷ es) r = put (Fits e) (behind es r)

abbrev pub said_of : Fit Said → Said
said_of (Fits f) = f
said_of Misfit = said.Missing

-- where the record has stopped a field is missing, and the next one begins there too
abbrev pub step_said : Order → Column → List ℕ → ℕ → Said
step_said ends c s at = cond (ltb at (length s)) (said_of (field_at ends c s at)) said.Missing

abbrev pub step_next : Column → List ℕ → ℕ → ℕ
step_next c s at = cond (ltb at (length s)) (at + size c.form (drop at s)) at

abbrev pub Stepped : Order → Column → List ℕ → ℕ → Option (Said × ℕ) → Type 0
Stepped ends c s at None = field_at ends c s at ≡ Misfit
Stepped ends c s at (Some (f, next)) =
    (field_at ends c s at ≡ Fits f) × (next ≡ at + size c.form (drop at s)) × (next ≤ length s)

-- a letter or a name is the same in either order, for each of their columns
abbrev pub LetterStepped : List ℕ → ℕ → Option (Said × ℕ) → Type 0
LetterStepped s at r = (ends : Order) (c : Column) → c.form ≡ C1 → Stepped ends c s at r

abbrev pub NameStepped : ℕ → List ℕ → ℕ → Option (Said × ℕ) → Type 0
NameStepped most s at r = (ends : Order) (c : Column) → c.form ≡ Cn → c.most ≡ most → Stepped ends c s at r

-- of the rest of a body of which k fields must still come
abbrev pub Going : Order → Column → List ℕ → ℕ → ℕ → Option (Said × ℕ) → Type 0
Going ends c s k at None = (cs : List Column) → walked k ends (c ∷ cs) (drop at s) ≡ Misfit
Going ends c s k at (Some (f, next)) =
    ((cs : List Column)
    → walked k ends (c ∷ cs) (drop at s) ≡ put (Fits (entry_of s f)) (walked (k - 1) ends cs (drop next s)))
    × (next ≤ length s)
    × ((is_number c.form ≡ false → c.most ≤ 255) → Within s f)
    × (f ≡ step_said ends c s at)
    × (next ≡ step_next c s at)

-- a site under head 255
abbrev pub hidden_said : Column → Bool → Said → Said
hidden_said c gone f = cond (is_beside c.flag && gone) said.Missing f

-- ---- all fields

abbrev pub place_said : Order → Column → List ℕ → ℕ → Bool → Said
place_said ends c s at gone = hidden_said c gone (step_said ends c s at)

-- from a place on, the field before it missing or not
unfoldable pub fields_from : Order → List Column → List ℕ → ℕ → Bool → List Said
fields_from ends [] s at gone = []
fields_from ends (c ∷ cs) s at gone =
    place_said ends c s at gone ∷
    fields_from ends cs s (step_next c s at) (is_missing (place_said ends c s at gone))

unfoldable pub line_at : Order → Tag → List ℕ → Line
line_at ends tag s = record { tag = tag; fields = padded (fields_from ends (columns tag) s 0 true) }

abbrev pub line_tagged : Order → Option Tag → List ℕ → Line
line_tagged ends (Some tag) s = line_at ends tag s
line_tagged ends None s = no_line

-- text is told by places in the body
unfoldable pub record_line : Order → List ℕ → Line
record_line ends s = line_tagged ends (count_tag (kind_of (rec_typ s) (rec_sub s))) (body s)
