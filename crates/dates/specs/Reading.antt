-- What time a text is the date of. #103, a line whose date isn't one, or is time 0.
--
--   fields_in   what stands in a text where a date has its fields, whatever else the text may be
--   Small      what that can be at most
--   date_of     the time that a text is the date of, if it is a date
-- Assumes nothing.
use Rattle.std.specs.Prelude.{Bool, cond, ◌&&◌, List, [], ◌∷◌, ℕ, suc, ◌+◌, ◌-◌, ◌*◌, ◌≤◌, eqb, leb, get_or, Option, Some, None}
use Prim.Native.Char.{code}
use Rattle.prelude.specs.Choice.{◌unless◌then◌}
use Rattle.matching.specs.Matching.{same}
use Rattle.months.specs.Months.{length_of, last_month}
use Rattle.dates.specs.declared.Moment.{Moment}
use Rattle.dates.specs.Dates.{last_time, month_in, time_of, month_names, date_text}

-- ---- the fields: no test yet, so any byte counts as some digit

-- what a digit is worth; bytes below the digits, and past the end, 0
abbrev pub digit_at : List ℕ → ℕ → ℕ
digit_at s i = get_or s i 0 - code "0"

abbrev pub two_at : List ℕ → ℕ → ℕ
two_at s i = digit_at s i * 10 + digit_at s (i + 1)

-- a number of one digit or of two
abbrev pub number_at : Bool → List ℕ → ℕ → ℕ
number_at short s i = cond short (digit_at s i) (two_at s i)

abbrev pub is_named : List ℕ → ℕ → ℕ → ℕ → Bool
is_named name a b c = eqb (get_or name 0 0) a && (eqb (get_or name 1 0) b && eqb (get_or name 2 0) c)

-- which of the names has these letters; past the last one where none has
abbrev pub named_in : List (List ℕ) → ℕ → ℕ → ℕ → ℕ
named_in [] a b c = 0
named_in (name ∷ names) a b c = cond (is_named name a b c) 0 (suc (named_in names a b c))

unfoldable pub month_named : ℕ → ℕ → ℕ → ℕ
month_named a b c = named_in month_names a b c

-- the fields, with the colon behind the hour at `hour` and the minus behind the day at `day`
abbrev pub fields_at : Bool → Bool → ℕ → ℕ → List ℕ → Moment
fields_at short_hour short_day hour day s = record {
  year = two_at s (day + 5) * 100 + two_at s (day + 7);
  month = month_named (get_or s (day + 1) 0) (get_or s (day + 2) 0) (get_or s (day + 3) 0);
  day = number_at short_day s (hour + 7);
  hour = number_at short_hour s 0;
  minute = two_at s (hour + 1);
  second = two_at s (hour + 4);
}

abbrev pub fields_from : Bool → Bool → ℕ → List ℕ → Moment
fields_from short_hour short_day hour s = fields_at short_hour short_day hour (hour + cond short_day 8 9) s

-- a day has one digit where the minus stands right behind it
abbrev pub fields_behind : Bool → ℕ → List ℕ → Moment
fields_behind short_hour hour s = fields_from short_hour (eqb (get_or s (hour + 8) 0) (code "-")) hour s

-- an hour has one digit where the colon stands right behind it
unfoldable pub fields_in : List ℕ → Moment
fields_in s = fields_behind (eqb (get_or s 1 0) (code ":")) (cond (eqb (get_or s 1 0) (code ":")) 1 2) s

pub record Small (m : Moment) : Type 0 where
  pub year : m.year ≤ 300_000
  pub month : m.month ≤ 12
  pub day : m.day ≤ 2_805
  pub hour : m.hour ≤ 2_805
  pub minute : m.minute ≤ 2_805
  pub second : m.second ≤ 2_805

-- ---- the date

-- #103, exactly as a date is written: the fields say a time, and the text is that time's to the last byte. All that a
-- date may not be (a leading zero, a small letter, a minute 60, a day 0, a byte too many) is no time's text. Time 0
-- is missing, so its text is no date.
unfoldable pub read_as : Moment → List ℕ → Option ℕ
read_as m s =
    None unless leb (month_in m) last_month then
    None unless leb m.day (length_of (month_in m)) then
    None unless leb 1 (time_of m) then
    None unless leb (time_of m) last_time then
    None unless same s (date_text (time_of m)) then
    Some (time_of m)

unfoldable pub date_of : List ℕ → Option ℕ
date_of s = read_as (fields_in s) s
