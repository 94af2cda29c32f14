-- The calendar. #103, dates in text: month lengths come with one row for leap years.
--
--   leap_row        which row a year has
--   month_lengths   the lengths of the months, a row for years that are no leap years and a row for those that are
--   length_of       how many days a month has, months counted from January 1970
--   first_day       the day on which a month begins, days counted from 1 January 1970
--   month_of        the month that a day lies in
--   last_month      the last month that a time of four bytes lies in, and last_day the last day
-- Assumes nothing.
use Rattle.std.specs.Prelude.{Bool, true, false, cond, List, [], ◌∷◌, ℕ, zero, suc, ◌+◌, ◌-◌, ◌/◌, ◌%◌, eqb, ltb, get_or}

-- #103, leap years: every fourth year is one, of the full hundreds every fourth
abbrev pub leap_row : ℕ → ℕ
leap_row year = cond (eqb (year % 400) 0) 1 (cond (eqb (year % 100) 0) 0 (cond (eqb (year % 4) 0) 1 0))

-- #103, one row for leap years: February alone differs
abbrev pub month_lengths : List (List ℕ)
month_lengths =
    (31 ∷ 28 ∷ 31 ∷ 30 ∷ 31 ∷ 30 ∷ 31 ∷ 31 ∷ 30 ∷ 31 ∷ 30 ∷ 31 ∷ []) ∷
    (31 ∷ 29 ∷ 31 ∷ 30 ∷ 31 ∷ 30 ∷ 31 ∷ 31 ∷ 30 ∷ 31 ∷ 30 ∷ 31 ∷ []) ∷ []

-- #103, month lengths: month 0 is January 1970, month 12 January 1971
unfoldable pub length_of : ℕ → ℕ
length_of month = get_or (get_or month_lengths (leap_row (1970 + month / 12)) []) (month % 12) 0

-- #103: a month begins when all before it have passed
unfoldable pub first_day : ℕ → ℕ
first_day zero = 0
first_day (suc month) = first_day month + length_of month

-- The month of the day that comes `left` days behind the first of a month: this month, where the test says so. The
-- first argument bounds the walk; the test is matched on, since a call under a choice is computed though not chosen.
abbrev pub month_from : ℕ → ℕ → Bool → ℕ → ℕ
month_from zero month inside left = month
month_from (suc depth) month true left = month
month_from (suc depth) month false left =
    month_from depth (suc month) (ltb (left - length_of month) (length_of (suc month))) (left - length_of month)

-- #103: a month has a day, so a walk over as many months as days is long enough
unfoldable pub month_of : ℕ → ℕ
month_of day = month_from (suc day) 0 (ltb day (length_of 0)) day

-- February 2106
abbrev pub last_month : ℕ
last_month = 1_633

-- 7 February 2106
abbrev pub last_day : ℕ
last_day = 49_710
