-- The statements of specs/Laws.antt, proved; and how the day on which a month begins goes on.
-- Assumes nothing.
use mathlib.Core.Path.{◌≡◌, refl}
use mathlib.Core.Bool.{Bool, true, false, cond, ◌&&◌}
use mathlib.Core.List.{[]}
use Prim.Native.Nat.{ℕ, zero, suc, ◌+◌, ◌-◌, ◌/◌, ◌%◌, ◌≤◌, ◌<◌}
use native.Mathlib.Nat.{zero-add, suc-add}
use native.Mathlib.Numerals.{add-one}
use native.Mathlib.Omega.{arith}
use borrow.Author.Tests.{leb-true, ltb-true, ltb-false}
use lib.Dec.{eqb, leb, ltb}
use lib.ListN.{get_or}
use Rattle.prelude.proofs.Both.{both_left, both_right}
use Rattle.prelude.proofs.Each.{each_at}
use Rattle.months.specs.Months.{month_lengths, length_of, first_day, month_from, month_of, last_month}
use Rattle.months.specs.Laws.{LeapYears, LengthBetween, LastBegins, FirstRises, MonthHolds, MonthFound, MonthLast}

pub leap_years : LeapYears
leap_years = (refl, refl, refl, refl)

pub last_begins : LastBegins
unfolding first_day length_of
last_begins = refl

-- ---- every length: one computed test a row, whichever row the year has

abbrev between : ℕ → Bool
between n = leb 28 n && leb n 31

row_between : (a b c : Bool) (of_year : ℕ) → of_year < 12
    → between (get_or (get_or month_lengths (cond a 1 (cond b 0 (cond c 1 0))) []) of_year 0) ≡ true
row_between true b c n h = each_at ℕ between (get_or month_lengths 1 []) 0 n refl h
row_between false true c n h = each_at ℕ between (get_or month_lengths 0 []) 0 n refl h
row_between false false true n h = each_at ℕ between (get_or month_lengths 1 []) 0 n refl h
row_between false false false n h = each_at ℕ between (get_or month_lengths 0 []) 0 n refl h

is_between : (month : ℕ) → between (length_of month) ≡ true
unfolding length_of
is_between month =
    let year = 1970 + month / 12 in
    row_between (eqb (year % 400) 0) (eqb (year % 100) 0) (eqb (year % 4) 0) (month % 12) (omega arith)

pub length_between : LengthBetween
length_between month =
    let n = length_of month in
    let e = is_between month in
    (leb-true 28 n (both_left (leb 28 n) (leb n 31) e), leb-true n 31 (both_right (leb 28 n) (leb n 31) e))

-- ---- the days on which months begin rise, so that a day lies in one month

pub first_start : first_day 0 ≡ 0
unfolding first_day
first_start = refl

pub first_next : (month : ℕ) → first_day (suc month) ≡ first_day month + length_of month
unfolding first_day
first_next month = refl

pub first_more : (month : ℕ) → first_day (month + 1) ≡ first_day month + length_of month
first_more month = rw (add-one month, first_next month)

pub length_most : (month : ℕ) → length_of month ≤ 31
length_most month = (length_between month).1

pub ruleset first_days = (first_start, first_more, length_most)

rises : (n month : ℕ) → first_day month ≤ first_day (n + month)
rises zero month = rw zero-add (omega arith)
rises (suc n) month = rw suc-add (omega (arith, rises n month, first_next (n + month)))

pub first_rises : FirstRises
first_rises earlier later h =
    let e : later - earlier + earlier ≡ later = omega arith in
    rw e at (rises (later - earlier) earlier)

from_holds : (depth month left : ℕ) (inside : Bool) → ltb left (length_of month) ≡ inside → left < depth
    → (first_day (month_from depth month inside left) ≤ first_day month + left)
    × (first_day month + left < first_day (suc (month_from depth month inside left)))
from_holds zero month left inside e h = absurd (omega arith)
from_holds (suc depth) month left true e h =
    (omega arith, omega (arith, first_next month, ltb-true left (length_of month) e))
from_holds (suc depth) month left false e h =
    let past = ltb-false left (length_of month) e in
    let behind = left - length_of month in
    let ih = from_holds depth (suc month) behind (ltb behind (length_of (suc month))) refl
    (omega (arith, (length_between month).0)) in
    (omega (arith, ih.0, first_next month), omega (arith, ih.1, first_next month))

pub month_holds : MonthHolds
unfolding month_of
month_holds day =
    let h = from_holds (suc day) 0 day (ltb day (length_of 0)) refl (omega arith) in
    (omega (arith, h.0, first_start), omega (arith, h.1, first_start))

pub month_found : MonthFound
month_found month day low high = go (ltb month (month_of day)) refl
  where
    holds : (first_day (month_of day) ≤ day) × (day < first_day (suc (month_of day)))
    holds = month_holds day

    go : (t : Bool) → ltb month (month_of day) ≡ t → month ≡ month_of day
    go true e =
        let h : suc month ≤ month_of day = ltb-true month (month_of day) e in
        absurd (omega (arith, holds.0, first_rises (suc month) (month_of day) h))
    go false e = last (ltb (month_of day) month) refl
      where
        last : (t : Bool) → ltb (month_of day) month ≡ t → month ≡ month_of day
        last true f =
            let h : suc (month_of day) ≤ month = ltb-true (month_of day) month f in
            absurd (omega (arith, holds.1, first_rises (suc (month_of day)) month h))
        last false f = omega (arith, ltb-false month (month_of day) e, ltb-false (month_of day) month f)

-- ---- the last month

pub month_last : MonthLast
month_last day h = go (ltb last_month (month_of day)) refl
  where
    go : (t : Bool) → ltb last_month (month_of day) ≡ t → month_of day ≤ last_month
    go true e =
        absurd (omega (
          arith,
          (month_holds day).0,
          first_rises (suc last_month) (month_of day) (ltb-true last_month (month_of day) e),
          first_next last_month,
          last_begins,
          (length_between last_month).0,
        ))
    go false e = ltb-false last_month (month_of day) e
