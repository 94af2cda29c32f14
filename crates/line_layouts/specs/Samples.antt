-- Lines of wafers by computation, and their records: #103, document 000's field order, dates, where a record stops.
-- Statements only, proved in proofs/Samples.antt under their names in small letters.
-- Assumes nothing.
use Rattle.std.specs.Prelude.{◌≡◌, List, [], ◌∷◌, map, ℕ}
use Prim.Native.Char.{code}
use Rattle.numbers.specs.declared.Order.TheVariants.{LowFirst}
use Rattle.line_layouts.specs.declared.Tag.TheVariants.{Wir, Wrr}
use Rattle.line_layouts.specs.Columns.{line_feed}
use Rattle.line_layouts.specs.Entries.{Entry, Missing, Number, Text, Meaning}
use Rattle.line_layouts.specs.Layouts.{text_of, record_of}

abbrev pub wafer_id : Entry
wafer_id = Text (code "W" ∷ code "1" ∷ [])

-- every field of a WIR; of a WRR neither site group nor counts, and no more than the wafer id behind them
abbrev pub samples : List Meaning
samples =
    record { tag = Wir; entries = Number 1 ∷ Number 4 ∷ Number 711_879_782 ∷ wafer_id ∷ [] } ∷
    record {
      tag = Wrr;
      entries =
          Number 255 ∷ Missing ∷ Number 711_879_782 ∷ Number 492 ∷ Missing ∷ Missing ∷ Missing ∷ Missing ∷ wafer_id ∷
          Missing ∷ Missing ∷ Missing ∷ Missing ∷ Missing ∷ [];
    } ∷
    []

abbrev pub sample_lines : List (List ℕ)
sample_lines =
    -- WIR:1|8:23:02 23-JUL-1992|4|W1
    (code "W" ∷ code "I" ∷ code "R" ∷ code ":" ∷ code "1" ∷ code "|" ∷ code "8" ∷ code ":" ∷ code "2" ∷
    code "3" ∷ code ":" ∷ code "0" ∷ code "2" ∷ code " " ∷ code "2" ∷ code "3" ∷ code "-" ∷ code "J" ∷
    code "U" ∷ code "L" ∷ code "-" ∷ code "1" ∷ code "9" ∷ code "9" ∷ code "2" ∷ code "|" ∷ code "4" ∷
    code "|" ∷ code "W" ∷ code "1" ∷ line_feed ∷ []) ∷
    -- WRR:255|8:23:02 23-JUL-1992|492|W1
    (code "W" ∷ code "R" ∷ code "R" ∷ code ":" ∷ code "2" ∷ code "5" ∷ code "5" ∷ code "|" ∷ code "8" ∷
    code ":" ∷ code "2" ∷ code "3" ∷ code ":" ∷ code "0" ∷ code "2" ∷ code " " ∷ code "2" ∷ code "3" ∷
    code "-" ∷ code "J" ∷ code "U" ∷ code "L" ∷ code "-" ∷ code "1" ∷ code "9" ∷ code "9" ∷ code "2" ∷
    code "|" ∷ code "4" ∷ code "9" ∷ code "2" ∷ code "|" ∷ code "W" ∷ code "1" ∷ line_feed ∷ []) ∷
    []

-- the WRR's four counts are filled with their missing value, since the wafer id stands behind them
abbrev pub sample_records : List (List ℕ)
sample_records =
    (0x09 ∷ 0x00 ∷ 0x02 ∷ 0x0A ∷ 0x01 ∷ 0x04 ∷ 0x66 ∷ 0x6C ∷ 0x6E ∷ 0x2A ∷ 0x02 ∷ 0x57 ∷ 0x31 ∷ []) ∷
    (0x1D ∷ 0x00 ∷ 0x02 ∷ 0x14 ∷ 0xFF ∷ 0xFF ∷ 0x66 ∷ 0x6C ∷ 0x6E ∷ 0x2A ∷ 0xEC ∷ 0x01 ∷ 0x00 ∷ 0x00 ∷ 0xFF ∷
    0xFF ∷ 0xFF ∷ 0xFF ∷ 0xFF ∷ 0xFF ∷ 0xFF ∷ 0xFF ∷ 0xFF ∷ 0xFF ∷ 0xFF ∷ 0xFF ∷ 0xFF ∷ 0xFF ∷ 0xFF ∷ 0xFF ∷
    0x02 ∷ 0x57 ∷ 0x31 ∷ []) ∷
    []

abbrev pub SampleLines : Type 0
SampleLines = map text_of samples ≡ sample_lines

abbrev pub SampleRecords : Type 0
SampleRecords = map (record_of LowFirst) samples ≡ sample_records
