-- The marked cases, M1 to M12, as one table. Document 01, "Marked cases".
--
--   Shown    what comes of a case: the numbers of answers, the bytes of a record, or a line's refusal
--   Case     calls of a house, or a line to be read, and what document 01 marks
--   found    what the definitions say of a case, and marked what document 01 says
--   table    the cases
--   Marked   that they are the same
-- Assumes nothing.
use Rattle.answers.specs.declared.Answer.{Answer}
use Rattle.std.specs.Prelude.{◌≡◌, true, false, List, [], ◌∷◌, ◌++◌, map, ℕ, zero, suc, ◌+◌, ◌-◌, replicate, Result, Ok, Err}
use Rattle.answers.specs.Numbers.{number_of}
use Rattle.numbers.specs.declared.Order.TheVariants.{LowFirst}
use Rattle.order.specs.declared.Place.TheVariants.{Body}
use Rattle.output.specs.Placed.{Outcome, part}
use Rattle.lines.specs.Reading.{line_read}
use Rattle.rows.specs.Rows.{row_key}
use Rattle.session.specs.Session.{cell_count}
use Rattle.house.specs.declared.House.{House}
use Rattle.house.specs.declared.Slot.{Slot}
use Rattle.house.specs.House.{row_count, closed_slot, fresh}
use Rattle.house.specs.History.{Call, Open, Deliver, Close, history}
use Rattle.marked.specs.Night.{pir, prr, begins, answers_of}
use Rattle.marked.specs.Night as night

-- a refusal's number is no byte that is written
pub data Shown : Type 0 where
  Answers : List ℕ → Shown
  Wrote : List ℕ → Shown
  Refusal : ℕ → Shown

-- the numbers that calls of a house are answered with; what a line is read into, in the order of a CPU_TYPE
pub data Case : Type 0 where
  Asked : House → List Call → List ℕ → Case
  Reads : ℕ → List ℕ → Shown → Case

abbrev pub read_into : Result ℕ Answer → List ℕ → Shown
read_into (Ok n) out = Wrote (part 0 n out)
read_into (Err a) out = Refusal (number_of a)

abbrev pub by_outcome : Outcome → Shown
by_outcome o = read_into o.answer o.output

abbrev pub found : Case → Shown
found (Asked h calls ns) = Answers (answers_of (history h calls))
found (Reads cpu line shown) = by_outcome (line_read cpu line (replicate 64 0) 0)

abbrev pub marked : Case → Shown
marked (Asked h calls ns) = Answers ns
marked (Reads cpu line shown) = shown

-- ---- what the cases are made of

-- a record of a type and a subtype, and so many bytes of body
abbrev pub record_of : ℕ → ℕ → ℕ → List ℕ
record_of typ sub n = n ∷ 0 ∷ typ ∷ sub ∷ replicate n 0

abbrev pub pcr : ℕ → List ℕ
pcr n = record_of 1 30 n

-- n parts of as many bins, from one on, and the answers to them
abbrev pub parts : ℕ → ℕ → ℕ → List Call
parts slot bin zero = []
parts slot bin (suc n) = night.part slot bin ++ parts slot (suc bin) n

abbrev pub zeros : ℕ → List ℕ
zeros n = replicate n 0

-- n keys of a slot, from one on
abbrev pub keys_from : ℕ → ℕ → ℕ → List ℕ
keys_from slot key zero = []
keys_from slot key (suc n) = row_key slot key ∷ keys_from slot (suc key) n

-- an open slot in the body of its stream, with so many accepted part results
abbrev pub busy : ℕ → ℕ → Slot
busy floor results =
    record {
      taken = true;
      floor = floor;
      session =
          record {
            standing =
                record { place = Body; order = LowFirst; opened = 0; pcr = false; results = results; wafers = 0 };
            parts = replicate cell_count 0;
          };
      held = 0;
    }

-- floors 1,000 and 0, of which the first holds n rows and the second 24
abbrev pub held : ℕ → House
held n =
    record {
      keys = keys_from 0 1 n ++ keys_from 1 1 24 ++ replicate (row_count - (n + 24)) 0;
      counts = replicate (n + 24) 1 ++ replicate (row_count - (n + 24)) 0;
      used = n + 24;
      slots = busy 1000 n ∷ busy 0 24 ∷ replicate 14 closed_slot;
    }

-- ---- lines

-- PCR:2|1|497|5|11|212|481
abbrev pub m9 : List ℕ
m9 = 80 ∷ 67 ∷ 82 ∷ 58 ∷ 50 ∷ 124 ∷ 49 ∷ 124 ∷ 52 ∷ 57 ∷ 55 ∷ 124 ∷ 53 ∷ 124 ∷ 49 ∷ 49 ∷ 124 ∷ 50 ∷ 49 ∷ 50 ∷ 124 ∷ 52
    ∷ 56 ∷ 49 ∷ []

-- HBR:2|1|6|212|F|SHORT
abbrev pub m10 : List ℕ
m10 = 72 ∷ 66 ∷ 82 ∷ 58 ∷ 50 ∷ 124 ∷ 49 ∷ 124 ∷ 54 ∷ 124 ∷ 50 ∷ 49 ∷ 50 ∷ 124 ∷ 70 ∷ 124 ∷ 83 ∷ 72 ∷ 79 ∷ 82 ∷ 84 ∷ []

-- PCR:||3976|54|76|2311|3809
abbrev pub m11 : List ℕ
m11 = 80 ∷ 67 ∷ 82 ∷ 58 ∷ 124 ∷ 124 ∷ 51 ∷ 57 ∷ 55 ∷ 54 ∷ 124 ∷ 53 ∷ 52 ∷ 124 ∷ 55 ∷ 54 ∷ 124 ∷ 50 ∷ 51 ∷ 49 ∷ 49 ∷ 124
    ∷ 51 ∷ 56 ∷ 48 ∷ 57 ∷ []

-- HBR:255|1|6|1
abbrev pub m12 : List ℕ
m12 = 72 ∷ 66 ∷ 82 ∷ 58 ∷ 50 ∷ 53 ∷ 53 ∷ 124 ∷ 49 ∷ 124 ∷ 54 ∷ 124 ∷ 49 ∷ []

-- ---- the table

unfoldable pub table : List Case
table =
    -- M1 to M3: the first record
    Asked fresh (Open 0 0 ∷ Deliver 0 (0x02 ∷ 0x00 ∷ 0x00 ∷ 0x0A ∷ 0x02 ∷ 0x04 ∷ []) ∷ []) (0 ∷ 0 ∷ []) ∷
    Asked fresh (Open 0 0 ∷ Deliver 0 (0x00 ∷ 0x02 ∷ 0x00 ∷ 0x0A ∷ 0x02 ∷ 0x04 ∷ []) ∷ []) (0 ∷ 3 ∷ []) ∷
    Asked fresh (Open 0 0 ∷ Deliver 0 (0x02 ∷ 0x00 ∷ 0x00 ∷ 0x0A ∷ 0x00 ∷ 0x04 ∷ []) ∷ []) (0 ∷ 4 ∷ []) ∷
    -- M4: types 200 and 201 in the body
    Asked fresh
    (Open 0 0 ∷ begins 0
    ++ (Deliver 0 (pcr 6) ∷ Deliver 0 (record_of 200 0 0) ∷ Deliver 0 (record_of 201 0 0) ∷ []))
    (zeros 4 ++ (6 ∷ 0 ∷ [])) ∷
    -- M5: PCR bodies of 6 and 10 bytes, of 7 and 23
    Asked fresh
    (Open 0 0 ∷ begins 0
    ++ (Deliver 0 (pcr 6) ∷ Deliver 0 (pcr 10) ∷ Deliver 0 (pcr 7) ∷ Deliver 0 (pcr 23) ∷ []))
    (zeros 5 ++ (7 ∷ 7 ∷ [])) ∷
    -- M6 to M8, one history. M6: the second gets 24 rows and no 25th, the first still gets its own. M7: then floor 1
    -- and floor 0; once the second closes, floor 24. M8: the part of a PRR refused with 13 is still open, and the same
    -- PRR passes once there is room
    Asked fresh
    ((Open 0 1000 ∷ Open 1 0 ∷ begins 1) ++ parts 1 1 25 ++ begins 0 ++ parts 0 1 2
    ++ (Open 2 1 ∷ Open 3 0 ∷ begins 3) ++ night.part 3 7 ++ (Deliver 3 (pir 1 1) ∷ [])
    ++ (Close 1 ∷ Open 2 24 ∷ Close 2 ∷ Deliver 3 (prr 1 1 7) ∷ []))
    (zeros 53 ++ (13 ∷ zeros 6) ++ (13 ∷ zeros 4) ++ (13 ∷ 9 ∷ zeros 4)) ∷
    -- .. and of M6 the first's thousandth row, and no more
    Asked (held 999) (night.part 1 25 ++ night.part 0 0 ++ night.part 0 200)
    (0 ∷ 13 ∷ 0 ∷ 0 ∷ 0 ∷ 13 ∷ []) ∷
    -- M9 to M12: lines
    Reads 1 m9
    (Wrote
    (0x00 ∷ 0x16 ∷ 0x01 ∷ 0x1E ∷ 0x02 ∷ 0x01 ∷ 0x00 ∷ 0x00 ∷ 0x01 ∷ 0xF1 ∷ 0x00 ∷ 0x00 ∷ 0x00 ∷ 0x05 ∷ 0x00 ∷ 0x00
    ∷ 0x00 ∷ 0x0B ∷ 0x00 ∷ 0x00 ∷ 0x00 ∷ 0xD4 ∷ 0x00 ∷ 0x00 ∷ 0x01 ∷ 0xE1 ∷ [])) ∷
    Reads 2 m10
    (Wrote
    (0x0F ∷ 0x00 ∷ 0x01 ∷ 0x28 ∷ 0x02 ∷ 0x01 ∷ 0x06 ∷ 0x00 ∷ 0xD4 ∷ 0x00 ∷ 0x00 ∷ 0x00 ∷ 0x46 ∷ 0x05 ∷ 0x53 ∷ 0x48
    ∷ 0x4F ∷ 0x52 ∷ 0x54 ∷ [])) ∷
    Reads 1 m11
    (Wrote
    (0x00 ∷ 0x16 ∷ 0x01 ∷ 0x1E ∷ 0xFF ∷ 0xFF ∷ 0x00 ∷ 0x00 ∷ 0x0F ∷ 0x88 ∷ 0x00 ∷ 0x00 ∷ 0x00 ∷ 0x36 ∷ 0x00 ∷ 0x00
    ∷ 0x00 ∷ 0x4C ∷ 0x00 ∷ 0x00 ∷ 0x09 ∷ 0x07 ∷ 0x00 ∷ 0x00 ∷ 0x0E ∷ 0xE1 ∷ [])) ∷
    Reads 1 m12 (Refusal 18) ∷
    []

-- each case of the table is as document 01 marks it
abbrev pub Marked : Type 0
Marked = map found table ≡ map marked table
