-- A session's tally, counted from the calls and their answers alone. Document 01, demand 2: the count of accepted part
-- results by head, site and bin. No definition here looks at a house.
--
--   Heard       what the calls and answers tell of one slot: is it open, its floor, its byte order, its tally
--   heard       .. after one more of them
--   told_of      .. after all of a history
--   tallied     the tally, as a report has its rows
--   free_by, promised_by   free and promised, by the tallies of all slots
-- Assumes nothing.
use Rattle.std.specs.Prelude.{Bool, true, false, cond, ◌&&◌, List, [], ◌∷◌, map, ℕ, zero, suc, ◌+◌, ◌-◌, eqb, length}
use Rattle.answers.specs.Numbers.{number_of}
use Rattle.numbers.specs.declared.Order.{Order}
use Rattle.numbers.specs.declared.Order.TheVariants.{HighFirst}
use Rattle.rows.specs.Rows.{slot_count}
use Rattle.rows.specs.Counts.{Count, plus}
use Rattle.first_record.specs.First.{order_in}
use Rattle.later_records.specs.Results.{Result, None, Part, result_of}
use Rattle.house.specs.declared.Row.{Row}
use Rattle.house.specs.House.{row_count}
use Rattle.house.specs.Report.{keyed_row}
use Rattle.house.specs.History.{Call, Open, Deliver, Report, Close, Figured, Said, answer_of, names}

pub record Heard : Type 0 where
  pub opened : Bool
  pub floor : ℕ
  pub begun : Bool
  pub order : Order
  pub rows : List Count

abbrev pub nothing : Heard
nothing = record { opened = false; floor = 0; begun = false; order = HighFirst; rows = [] }

-- every accepted PRR counts as one part, under its key
abbrev pub counting : Result → List Count → List Count
counting None rows = rows
counting (Part key) rows = plus key rows

-- the first record that is accepted tells the byte order, and each later one may be a part result
abbrev pub following : Heard → List ℕ → Heard
following t rec =
    record {
      opened = t.opened;
      floor = t.floor;
      begun = true;
      order = cond t.begun t.order (order_in rec);
      rows = cond t.begun (counting (result_of t.order rec) t.rows) t.rows;
    }

-- what a call that is done tells of the slot that it names
abbrev pub done_by : Call → Heard → Heard
done_by (Open slot floor) t =
    record { opened = true; floor = floor; begun = false; order = HighFirst; rows = [] }
done_by (Deliver slot rec) t = following t rec
done_by (Report slot long) t = t
done_by (Close slot) t = nothing
done_by Figured t = t

abbrev pub is_done : Said → Bool
is_done e = eqb (number_of (answer_of e.reply)) 0

-- a refusal tells nothing, nor does a call that names another slot
abbrev pub heard : ℕ → Said → Heard → Heard
heard slot e t = cond (names slot e.call && is_done e) (done_by e.call t) t

abbrev pub heard_from : ℕ → List Said → Heard → Heard
heard_from slot [] t = t
heard_from slot (e ∷ es) t = heard_from slot es (heard slot e t)

abbrev pub told_of : ℕ → List Said → Heard
told_of slot es = heard_from slot es nothing

abbrev pub row_of : Count → Row
row_of c = keyed_row c.key c.count

abbrev pub tallied : ℕ → List Said → List Row
tallied slot es = map row_of (told_of slot es).rows

-- ---- free and promised, by the tallies

abbrev pub holding : Heard → ℕ
holding t = length t.rows

abbrev pub owed : Heard → ℕ
owed t = cond t.opened (t.floor - holding t) 0

-- the sum over n slots from one on
abbrev pub over : (Heard → ℕ) → ℕ → ℕ → List Said → ℕ
over f zero slot es = 0
over f (suc n) slot es = f (told_of slot es) + over f n (suc slot) es

abbrev pub free_by : List Said → ℕ
free_by es = row_count - over holding slot_count 0 es

abbrev pub promised_by : List Said → ℕ
promised_by es = over owed slot_count 0 es
