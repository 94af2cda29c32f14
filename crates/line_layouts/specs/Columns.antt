-- The tables of lines. Document 01, "Count lines", its first paragraph, and "Record frame and kinds", the fields of
-- PCR, HBR and SBR; #103, the fields of WIR and WRR, in the order of a record and in that of a line.
--
--   separator, line_feed, carriage_return   the bytes between fields and at the end of a line
--   tag_text     how a line of each tag begins
--   type_of, sub_of   the type and the subtype of its record
--   columns     its fields, in the order of the record: type, the most that the text may hold, whether text must give
--               it, and how a record leaves it out
--   bar         how many of them a record must have
--   order       the columns of a line, in the order of the text
--   back        for each column its field in the text: the way back from `order`
--   width       the bytes of a type in a record
-- Assumes nothing.
use Rattle.std.specs.Prelude.{ℕ, Bool, true, false, List, [], ◌∷◌}
use Prim.Native.Char.{code}
use Rattle.values.specs.Values.{most_head, most_bin}
use Rattle.dates.specs.Dates.{last_time}
use Rattle.line_layouts.specs.declared.Tag.{Tag}
use Rattle.line_layouts.specs.declared.Tag.TheVariants.{Pcr, Hbr, Sbr, Wir, Wrr}
use Rattle.line_layouts.specs.declared.Form.{Form}
use Rattle.line_layouts.specs.declared.Form.TheVariants.{U1, U2, U4, Time, C1, Cn}
use Rattle.line_layouts.specs.declared.Flag.{Flag}
use Rattle.line_layouts.specs.declared.Flag.TheVariants.{Never, Own, Beside}
use Rattle.line_layouts.specs.declared.Column.{Column}

abbrev pub separator : ℕ
separator = code "|"

abbrev pub line_feed : ℕ
line_feed = 10

abbrev pub carriage_return : ℕ
carriage_return = 13

-- lines are `PCR:`, `HBR:`, `SBR:` and fields; #103, `WIR:` and `WRR:`
abbrev pub tag_text : Tag → List ℕ
tag_text Pcr = code "P" ∷ code "C" ∷ code "R" ∷ code ":" ∷ []
tag_text Hbr = code "H" ∷ code "B" ∷ code "R" ∷ code ":" ∷ []
tag_text Sbr = code "S" ∷ code "B" ∷ code "R" ∷ code ":" ∷ []
tag_text Wir = code "W" ∷ code "I" ∷ code "R" ∷ code ":" ∷ []
tag_text Wrr = code "W" ∷ code "R" ∷ code "R" ∷ code ":" ∷ []

-- type and subtype in the twenty-five pairs
abbrev pub type_of : Tag → ℕ
type_of Pcr = 1
type_of Hbr = 1
type_of Sbr = 1
type_of Wir = 2
type_of Wrr = 2

abbrev pub sub_of : Tag → ℕ
sub_of Pcr = 30
sub_of Hbr = 40
sub_of Sbr = 50
sub_of Wir = 10
sub_of Wrr = 20

-- Missing: 4,294,967,295 where a count may be missing, so such a count is at most one less
abbrev pub most_count : ℕ
most_count = 4_294_967_295

abbrev pub most_optional : ℕ
most_optional = 4_294_967_294

abbrev pub column : Form → ℕ → Bool → Flag → Column
column form most required flag = record { form = form; most = most; required = required; flag = flag }

-- head 0 to 254, site 0 to 255, parts, then retest, abort, good, functional. STDF head 255 is both empty, its site
-- ignored
abbrev pub pcr_columns : List Column
pcr_columns =
    column U1 most_head false Own ∷
    column U1 255 false Beside ∷
    column U4 most_count true Never ∷
    column U4 most_optional false Own ∷
    column U4 most_optional false Own ∷
    column U4 most_optional false Own ∷
    column U4 most_optional false Own ∷
    []

-- head, site, bin 0 to 32,767, count, then P/F by its first character, and a name of at most 255 bytes
abbrev pub bin_columns : List Column
bin_columns =
    column U1 most_head false Own ∷
    column U1 255 false Beside ∷
    column U2 most_bin true Never ∷
    column U4 most_count true Never ∷
    column C1 1 false Own ∷
    column Cn 255 false Own ∷
    []

-- #103: site group 255 is missing, and so is time 0
abbrev pub most_group : ℕ
most_group = 254

abbrev pub most_time : ℕ
most_time = last_time

-- #103, WIR by STDF V4: head 0 to 255, site group, start time, wafer id
abbrev pub wir_columns : List Column
wir_columns =
    column U1 255 true Never ∷
    column U1 most_group false Own ∷
    column Time most_time true Own ∷
    column Cn 255 false Own ∷
    []

-- #103, WRR by STDF V4: head, site group, finish time, parts, then retest, abort, good, functional, and the ids of
-- wafer, fab wafer, frame and mask and two descriptions
abbrev pub wrr_columns : List Column
wrr_columns =
    column U1 255 true Never ∷
    column U1 most_group false Own ∷
    column Time most_time true Own ∷
    column U4 most_count true Never ∷
    column U4 most_optional false Own ∷
    column U4 most_optional false Own ∷
    column U4 most_optional false Own ∷
    column U4 most_optional false Own ∷
    column Cn 255 false Own ∷
    column Cn 255 false Own ∷
    column Cn 255 false Own ∷
    column Cn 255 false Own ∷
    column Cn 255 false Own ∷
    column Cn 255 false Own ∷
    []

-- SBR is laid out as HBR
abbrev pub columns : Tag → List Column
columns Pcr = pcr_columns
columns Hbr = bin_columns
columns Sbr = bin_columns
columns Wir = wir_columns
columns Wrr = wrr_columns

-- no table is longer
abbrev pub most_columns : ℕ
most_columns = 14

-- what stands past a table's end
abbrev pub no_column : Column
no_column = column U1 0 false Never

-- the fields before the bar
abbrev pub bar : Tag → ℕ
bar Pcr = 3
bar Hbr = 4
bar Sbr = 4
bar Wir = 3
bar Wrr = 4

-- fields in the table's order
abbrev pub pcr_order : List ℕ
pcr_order = 0 ∷ 1 ∷ 2 ∷ 3 ∷ 4 ∷ 5 ∷ 6 ∷ []

abbrev pub bin_order : List ℕ
bin_order = 0 ∷ 1 ∷ 2 ∷ 3 ∷ 4 ∷ 5 ∷ []

-- #103, document 000's field order of WIR: the start time before the site group
abbrev pub wir_order : List ℕ
wir_order = 0 ∷ 2 ∷ 1 ∷ 3 ∷ []

-- .. and of WRR: finish time, parts and wafer id before the site group
abbrev pub wrr_order : List ℕ
wrr_order = 0 ∷ 2 ∷ 3 ∷ 8 ∷ 1 ∷ 4 ∷ 5 ∷ 6 ∷ 7 ∷ 9 ∷ 10 ∷ 11 ∷ 12 ∷ 13 ∷ []

abbrev pub order : Tag → List ℕ
order Pcr = pcr_order
order Hbr = bin_order
order Sbr = bin_order
order Wir = wir_order
order Wrr = wrr_order

abbrev pub pcr_back : List ℕ
pcr_back = 0 ∷ 1 ∷ 2 ∷ 3 ∷ 4 ∷ 5 ∷ 6 ∷ []

abbrev pub bin_back : List ℕ
bin_back = 0 ∷ 1 ∷ 2 ∷ 3 ∷ 4 ∷ 5 ∷ []

abbrev pub wir_back : List ℕ
wir_back = 0 ∷ 2 ∷ 1 ∷ 3 ∷ []

abbrev pub wrr_back : List ℕ
wrr_back = 0 ∷ 4 ∷ 1 ∷ 2 ∷ 5 ∷ 6 ∷ 7 ∷ 8 ∷ 3 ∷ 9 ∷ 10 ∷ 11 ∷ 12 ∷ 13 ∷ []

abbrev pub back : Tag → List ℕ
back Pcr = pcr_back
back Hbr = bin_back
back Sbr = bin_back
back Wir = wir_back
back Wrr = wrr_back

-- a name's count byte stands in front of it
abbrev pub width : Form → ℕ
width U1 = 1
width U2 = 2
width U4 = 4
width Time = 4
width C1 = 1
width Cn = 1
