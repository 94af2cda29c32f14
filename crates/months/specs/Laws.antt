-- What is shown of the calendar: statements only. Each is proved in proofs/Laws.antt, under its name in small letters.
-- Assumes nothing.
use Rattle.std.specs.Prelude.{◌≡◌, ℕ, suc, ◌≤◌, ◌<◌}
use Rattle.months.specs.Months.{leap_row, length_of, first_day, month_of, last_month, last_day}

-- #103, leap years: 1972 and 2000 are, 1999 and 2100 are not
abbrev pub LeapYears : Type 0
LeapYears = (leap_row 1972 ≡ 1) × (leap_row 2000 ≡ 1) × (leap_row 1999 ≡ 0) × (leap_row 2100 ≡ 0)

-- #103, month lengths: 28 to 31 days
abbrev pub LengthBetween : Type 0
LengthBetween = (month : ℕ) → (28 ≤ length_of month) × (length_of month ≤ 31)

-- where the walk over 1,633 months ends: February 2106 begins on day 49,704
abbrev pub LastBegins : Type 0
LastBegins = first_day last_month ≡ 49_704

-- no month begins before an earlier one
abbrev pub FirstRises : Type 0
FirstRises = (earlier later : ℕ) → earlier ≤ later → first_day earlier ≤ first_day later

-- a day lies in its month
abbrev pub MonthHolds : Type 0
MonthHolds = (day : ℕ) → (first_day (month_of day) ≤ day) × (day < first_day (suc (month_of day)))

-- and in no other: what any way to find a month has to show
abbrev pub MonthFound : Type 0
MonthFound = (month day : ℕ) → first_day month ≤ day → day < first_day (suc month) → month ≡ month_of day

-- a day up to the last one lies in a month up to the last one
abbrev pub MonthLast : Type 0
MonthLast = (day : ℕ) → day ≤ last_day → month_of day ≤ last_month
