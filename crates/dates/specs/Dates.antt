-- A time as a date in text. #103, dates in text: `8:23:02 23-JUL-1992` is 711,879,782.
--
--   moment_of   the year, month, day, hour, minute and second of a time, and Fits what they can be
--   time_of     the time of these
--   date_text   the text of a time
--   date_byte   which bytes a date is made of
-- Assumes nothing.
use Rattle.std.specs.Prelude.{Bool, ◌&&◌, ◌||◌, List, [], ◌∷◌, ◌++◌, ℕ, ◌+◌, ◌-◌, ◌*◌, ◌/◌, ◌%◌, ◌≤◌, ◌<◌, eqb, leb, get_or}
use Prim.Native.Char.{code}
use Rattle.digits.specs.Digits.{digits, two, is_digit}
use Rattle.months.specs.Months.{first_day, month_of}
use Rattle.dates.specs.declared.Moment.{Moment}

-- a time is seconds since the start of 1970, in four bytes: 6:28:15 7-FEB-2106 is the last
abbrev pub last_time : ℕ
last_time = 4_294_967_295

-- ---- a time and the fields of its date, the months of a year counted from 0

-- #103: a time in this month of the calendar
abbrev pub moment_in : ℕ → ℕ → Moment
moment_in month t = record {
  year = 1970 + month / 12;
  month = month % 12;
  day = t / 86_400 - first_day month + 1;
  hour = t % 86_400 / 3_600;
  minute = t % 3_600 / 60;
  second = t % 60;
}

abbrev pub moment_of : ℕ → Moment
moment_of t = moment_in (month_of (t / 86_400)) t

pub record Fits (m : Moment) : Type 0 where
  pub year : m.year ≤ 2106
  pub month : m.month < 12
  pub day : m.day ≤ 31
  pub hour : m.hour < 24
  pub minute : m.minute < 60
  pub second : m.second < 60

-- the month in the calendar, January 1970 the first
abbrev pub month_in : Moment → ℕ
month_in m = (m.year - 1970) * 12 + m.month

-- #103, and back: the days before its month, the days before its day, and the seconds of the day
abbrev pub time_of : Moment → ℕ
time_of m = (first_day (month_in m) + (m.day - 1)) * 86_400 + m.hour * 3_600 + m.minute * 60 + m.second

-- ---- text

-- #103: months are three capitals
abbrev pub month_names : List (List ℕ)
month_names =
    (code "J" ∷ code "A" ∷ code "N" ∷ []) ∷
    (code "F" ∷ code "E" ∷ code "B" ∷ []) ∷
    (code "M" ∷ code "A" ∷ code "R" ∷ []) ∷
    (code "A" ∷ code "P" ∷ code "R" ∷ []) ∷
    (code "M" ∷ code "A" ∷ code "Y" ∷ []) ∷
    (code "J" ∷ code "U" ∷ code "N" ∷ []) ∷
    (code "J" ∷ code "U" ∷ code "L" ∷ []) ∷
    (code "A" ∷ code "U" ∷ code "G" ∷ []) ∷
    (code "S" ∷ code "E" ∷ code "P" ∷ []) ∷
    (code "O" ∷ code "C" ∷ code "T" ∷ []) ∷
    (code "N" ∷ code "O" ∷ code "V" ∷ []) ∷
    (code "D" ∷ code "E" ∷ code "C" ∷ []) ∷ []

-- a letter of a month's name
unfoldable pub letter : ℕ → ℕ → ℕ
letter month j = get_or (get_or month_names month []) j 0

-- #103, minute and second have two digits: `:23:02 `
abbrev pub past_hour : Moment → List ℕ
past_hour m = code ":" ∷ two m.minute ++ code ":" ∷ two m.second ++ code " " ∷ []

-- #103: `-JUL-1992`
abbrev pub past_day : Moment → List ℕ
past_day m =
    code "-" ∷ letter m.month 0 ∷ letter m.month 1 ∷ letter m.month 2 ∷ code "-" ∷
    two (m.year / 100) ++ two (m.year % 100)

-- #103, hour and day carry no leading zero
unfoldable pub text_of : Moment → List ℕ
text_of m = (digits m.hour ++ past_hour m) ++ (digits m.day ++ past_day m)

unfoldable pub date_text : ℕ → List ℕ
date_text t = text_of (moment_of t)

-- digits, capitals, colon, minus and space
unfoldable pub date_byte : ℕ → Bool
date_byte b =
    is_digit b || ((leb (code "A") b && leb b (code "Z")) ||
    (eqb b (code ":") || (eqb b (code "-") || eqb b (code " "))))
