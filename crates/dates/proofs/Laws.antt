-- The statements of specs/Laws.antt, proved; and what the functions' proofs cite besides.
-- Assumes nothing.
use Rattle.std.specs.Prelude.{Option, Some, None, not, position}
use Rattle.std.specs.Option.{unwrap_or}
use Rattle.std.specs.Bool.{then_some}
use Rattle.std.specs.List.{position_or_len}
use mathlib.Core.Path.{◌≡◌, refl, sym, ap, ◌∙◌}
use mathlib.Core.Bool.{Bool, true, false, cond, ◌&&◌}
use mathlib.Core.List.{List, [], ◌∷◌, ◌++◌}
use Prim.Native.Nat.{ℕ, zero, suc, ◌+◌, ◌-◌, ◌*◌, ◌/◌, ◌%◌, ◌≤◌, ◌<◌}
use Prim.Native.Char.{code}
use native.Mathlib.Omega.{arith}
use borrow.Author.Tests.{le-leb, lt-leb, leb-true, ltb-true, ltb-false, eqb-true, ne_eqb}
use lib.Dec.{eqb, leb, ltb}
use lib.ListN.{length, take, drop, length-append}
use lib.Seq.{take_at}
use Rattle.prelude.specs.Choice.{◌unless◌then◌}
use Rattle.prelude.specs.Each.{each}
use Rattle.prelude.proofs.Both.{both_left, both_right}
use Rattle.prelude.proofs.Each.{each_append}
use Rattle.matching.specs.Matching.{same}
use Rattle.matching.proofs.Laws.{same_self, same_only}
use Rattle.output.specs.Placed.{Put}
use Rattle.digits.specs.Digits.{digit, digits, two, is_digit}
use Rattle.digits.proofs.Laws.{digits_one, digits_two, is_digit_lem}
use Rattle.months.specs.Months.{length_of, month_of, last_month}
use Rattle.months.proofs.Laws.{first_next, length_between, month_holds, month_last}
use Rattle.dates.specs.declared.Moment.{Moment}
use Rattle.dates.specs.Dates.{last_time, moment_of, Fits, month_in, time_of, month_names, letter}
use Rattle.dates.specs.Dates.{past_hour, past_day, text_of, date_text, date_byte}
use Rattle.dates.specs.Reading.{is_named, named_in, month_named, fields_in, read_as, date_of}
use Rattle.dates.specs.Laws.{MomentFits, TimeMoment, DateRead, DateOnly, DateNone, DateOnce, DateSize, DateBytes}

-- ---- seconds and fields

month_back : (month : ℕ) → (1970 + month / 12 - 1970) * 12 + month % 12 ≡ month
month_back month = omega arith

pub time_moment : TimeMoment
time_moment t =
    let day = t / 86_400 in
    rw (month_back (month_of day)) (omega (arith, (month_holds day).0))

day_most : (t : ℕ) → (moment_of t).day ≤ 31
day_most t =
    let month = month_of (t / 86_400) in
    omega (arith, (month_holds (t / 86_400)).1, first_next month, (length_between month).1)

pub moment_fits : MomentFits
moment_fits t h = record {
  year = omega (arith, month_last (t / 86_400) (omega arith));
  month = omega arith;
  day = day_most t;
  hour = omega arith;
  minute = omega arith;
  second = omega arith;
}

-- ---- a month's name: tests computed for all months, carried to each

abbrev all_below : (ℕ → Bool) → ℕ → Bool
all_below passes zero = true
all_below passes (suc n) = passes n && all_below passes n

carried : (passes : ℕ → Bool) (n : ℕ) → all_below passes n ≡ true → (m : ℕ) → m < n → passes m ≡ true
carried passes zero e m h = absurd (omega arith)
carried passes (suc n) e m h =
    go (λ (f : m < n). carried passes n (both_right (passes n) (all_below passes n) e) m f) (ltb m n) refl
  where
    go : (m < n → passes m ≡ true) → (t : Bool) → ltb m n ≡ t → passes m ≡ true
    go below true f = below (ltb-true m n f)
    go below false f =
        let is : m ≡ n = omega (arith, ltb-false m n f) in
        rw is (both_left (passes n) (all_below passes n) e)

abbrev named : ℕ → Bool
named m = eqb (month_named (letter m 0) (letter m 1) (letter m 2)) m

all_named : all_below named 12 ≡ true
unfolding month_named letter
all_named = refl

month_named_lem : (m : ℕ) → m < 12 → month_named (letter m 0) (letter m 1) (letter m 2) ≡ m
month_named_lem m h = eqb-true (month_named (letter m 0) (letter m 1) (letter m 2)) m (carried named 12 all_named m h)

-- ---- a number below a hundred

module _ (P : List ℕ → Type 0) (n : ℕ) (h : n < 100) (one : n < 10 → P (digit n ∷ [])) (more : 10 ≤ n → P (two n)) where
  pub below_hundred : P (digits n)
  below_hundred = go (ltb n 10) refl
    where
      go : (t : Bool) → ltb n 10 ≡ t → P (digits n)
      go true e = rw (digits_one n (ltb-true n 10 e)) (one (ltb-true n 10 e))
      go false e = rw (digits_two n (ltb-false n 10 e) h) (more (ltb-false n 10 e))

-- ---- the fields of a text

abbrev made : ℕ → ℕ → ℕ → ℕ → ℕ → ℕ → Moment
made y o d h i s = record { year = y; month = o; day = d; hour = h; minute = i; second = s }

made_same : (y o d h i s y' o' d' h' i' s' : ℕ) → y ≡ y' → o ≡ o' → d ≡ d' → h ≡ h' → i ≡ i' → s ≡ s'
    → made y o d h i s ≡ made y' o' d' h' i' s'
made_same y o d h i s y' o' d' h' i' s' a b c e f g = rw (a, b, c, e, f, g)

moment_same : (a b : Moment) → a.year ≡ b.year → a.month ≡ b.month → a.day ≡ b.day → a.hour ≡ b.hour
    → a.minute ≡ b.minute → a.second ≡ b.second → a ≡ b
moment_same a b y o d h i s =
    made_same a.year a.month a.day a.hour a.minute a.second b.year b.month b.day b.hour
    b.minute b.second y o d h i s

module _ (m : Moment) (fit : Fits m) where
  short_short : m.hour < 10 → m.day < 10 → fields_in (text_of m) ≡ m
  unfolding fields_in text_of
  short_short h d =
      rw (digits_one m.hour h, digits_one m.day d)
      (moment_same _ m (omega arith) (month_named_lem m.month fit.month) (omega arith) (omega arith) (omega arith)
      (omega arith))

  short_long : m.hour < 10 → 10 ≤ m.day → fields_in (text_of m) ≡ m
  unfolding fields_in text_of
  short_long h d =
      rw (
        digits_one m.hour h,
        digits_two m.day d (omega (arith, fit.day)),
        ne_eqb (m.day % 10 + 48) 45 (λ e. omega arith),
      )
      (moment_same _ m (omega arith) (month_named_lem m.month fit.month) (omega arith) (omega arith) (omega arith)
      (omega arith))

  long_short : 10 ≤ m.hour → m.day < 10 → fields_in (text_of m) ≡ m
  unfolding fields_in text_of
  long_short h d =
      rw (
        digits_two m.hour h (omega (arith, fit.hour)),
        digits_one m.day d,
        ne_eqb (m.hour % 10 + 48) 58 (λ e. omega arith),
      )
      (moment_same _ m (omega arith) (month_named_lem m.month fit.month) (omega arith) (omega arith) (omega arith)
      (omega arith))

  long_long : 10 ≤ m.hour → 10 ≤ m.day → fields_in (text_of m) ≡ m
  unfolding fields_in text_of
  long_long h d =
      rw (
        digits_two m.hour h (omega (arith, fit.hour)),
        digits_two m.day d (omega (arith, fit.day)),
        ne_eqb (m.hour % 10 + 48) 58 (λ e. omega arith),
        ne_eqb (m.day % 10 + 48) 45 (λ e. omega arith),
      )
      (moment_same _ m (omega arith) (month_named_lem m.month fit.month) (omega arith) (omega arith) (omega arith)
      (omega arith))

  fields_text : fields_in (text_of m) ≡ m
  fields_text = go (ltb m.hour 10) (ltb m.day 10) refl refl
    where
      go : (a b : Bool) → ltb m.hour 10 ≡ a → ltb m.day 10 ≡ b → fields_in (text_of m) ≡ m
      go true true e f = short_short (ltb-true m.hour 10 e) (ltb-true m.day 10 f)
      go true false e f = short_long (ltb-true m.hour 10 e) (ltb-false m.day 10 f)
      go false true e f = long_short (ltb-false m.hour 10 e) (ltb-true m.day 10 f)
      go false false e f = long_long (ltb-false m.hour 10 e) (ltb-false m.day 10 f)

fields_dated : (t : ℕ) → t ≤ last_time → fields_in (date_text t) ≡ moment_of t
unfolding date_text
fields_dated t h = fields_text (moment_of t) (moment_fits t h)

-- ---- a date is read: one law an answer, in the order of the checks

module _ (m : Moment) (s : List ℕ) where
  pub read_late : last_month < month_in m → None ≡ read_as m s
  unfolding read_as
  read_late h = rw (lt-leb (month_in m) last_month h)

  module _ (month : month_in m ≤ last_month) where
    pub read_no_day : length_of (month_in m) < m.day → None ≡ read_as m s
    unfolding read_as
    read_no_day h = rw (le-leb (month_in m) last_month month, lt-leb m.day (length_of (month_in m)) h)

    module _ (day : m.day ≤ length_of (month_in m)) (t : ℕ) (is : time_of m ≡ t) where
      pub read_zero : t < 1 → None ≡ read_as m s
      unfolding read_as
      read_zero h =
          rw (le-leb (month_in m) last_month month, le-leb m.day (length_of (month_in m)) day, is, lt-leb 1 t h)

      module _ (low : 1 ≤ t) where
        pub read_past : last_time < t → None ≡ read_as m s
        unfolding read_as
        read_past h =
            rw (
              le-leb (month_in m) last_month month,
              le-leb m.day (length_of (month_in m)) day,
              is,
              le-leb 1 t low,
              lt-leb t last_time h,
            )

        module _ (high : t ≤ last_time) where
          read_same : read_as m s ≡ (None unless same s (date_text t) then Some t)
          unfolding read_as
          read_same =
              rw (
                le-leb (month_in m) last_month month,
                le-leb m.day (length_of (month_in m)) day,
                is,
                le-leb 1 t low,
                le-leb t last_time high,
              )

          pub read_other : same s (date_text t) ≡ false → None ≡ read_as m s
          read_other h = rw (read_same, h)

          pub read_time : same s (date_text t) ≡ true → Some t ≡ read_as m s
          read_time h = rw (read_same, h)

          pub read_told : (b : Bool) → b ≡ same s (date_text t) → then_some b t ≡ read_as m s
          read_told true e = read_time (sym e)
          read_told false e = read_other (sym e)

pub read_as_lem : (m : Moment) (s : List ℕ) → m ≡ fields_in s → read_as m s ≡ date_of s
unfolding date_of
read_as_lem m s e = ap (λ (x : Moment). read_as x s) e

pub date_read : DateRead
date_read t low high =
    let d = t / 86_400 in
    let k = month_of d in
    let m = moment_of t in
    let back : month_in m ≡ k = month_back k in
    let month : month_in m ≤ last_month = omega (arith, month_last d (omega arith)) in
    let day : m.day ≤ length_of (month_in m) =
    rw back (omega (arith, (month_holds d).0, (month_holds d).1, first_next k)) in
    sym (read_time m (date_text t) month day t (time_moment t) low high (same_self (date_text t))
    ∙ read_as_lem m (date_text t) (sym (fields_dated t high)))

-- ---- and nothing else

apart : {A : Type 0} (t : ℕ) → None ≡ Some t → A
apart t e = let never : ◌≡◌ {A = ℕ} 0 1 = cc in absurd (omega arith)

pub date_only : DateOnly
unfolding date_of read_as
date_only s t = go (leb (month_in m) last_month) (leb m.day (length_of (month_in m))) (leb 1 (time_of m))
    (leb (time_of m) last_time) (same s (date_text (time_of m))) refl refl refl
  where
    m : Moment
    m = fields_in s

    go : (a b c d e : Bool) → leb 1 (time_of m) ≡ c → leb (time_of m) last_time ≡ d → same s (date_text (time_of m)) ≡ e
        → (None unless a then None unless b then None unless c then None unless d then
        None unless e then Some (time_of m)) ≡ Some t
        → (1 ≤ t) × (t ≤ last_time) × (s ≡ date_text t)
    go false b c d e low high text is = apart t is
    go true false c d e low high text is = apart t is
    go true true false d e low high text is = apart t is
    go true true true false e low high text is = apart t is
    go true true true true false low high text is = apart t is
    go true true true true true low high text is =
        let time : time_of m ≡ t = cc in
        rw (← time) (
          leb-true 1 (time_of m) low,
          leb-true (time_of m) last_time high,
          same_only s (date_text (time_of m)) text,
        )

pub date_none : DateNone
date_none s h = go (date_of s) refl
  where
    go : (d : Option ℕ) → date_of s ≡ d → date_of s ≡ None
    go (Some t) e =
        let only = date_only s t e in
        absurd (h t only.0 only.1 only.2)
    go None e = e

pub date_once : DateOnce
date_once t u low high low' high' e =
    let a = date_read t low high in
    let b = date_read u low' high' in
    let c : Some t ≡ Some u = sym a ∙ rw e b in
    cc

-- ---- how long a date is

width_two : (n : ℕ) → n < 100 → (1 ≤ length (digits n)) × (length (digits n) ≤ 2)
width_two n h =
    below_hundred (λ (s : List ℕ). (1 ≤ length s) × (length s ≤ 2)) n h (λ e. (omega arith, omega arith))
    (λ e. (omega arith, omega arith))

pub date_length : (t : ℕ)
    → length (date_text t) ≡ length (digits (moment_of t).hour) + length (digits (moment_of t).day) + 16
unfolding date_text text_of
date_length t =
    let m = moment_of t in
    let clock = digits m.hour ++ past_hour m in
    let calendar = digits m.day ++ past_day m in
    omega (
      arith,
      length-append clock calendar,
      length-append (digits m.hour) (past_hour m),
      length-append (digits m.day) (past_day m),
    )

pub date_size : DateSize
date_size t =
    let hour = width_two (moment_of t).hour (omega arith) in
    let day = width_two (moment_of t).day (omega (arith, day_most t)) in
    (omega (arith, date_length t, hour.0, day.0), omega (arith, date_length t, hour.1, day.1))

-- ---- the bytes of a date

digit_byte : (n : ℕ) → n < 10 → date_byte (digit n) ≡ true
unfolding date_byte
digit_byte n h = rw (is_digit_lem (n + 48) (omega arith) (omega arith))

letter_bytes : (m : ℕ) → m < 12
    → (date_byte (letter m 0) ≡ true) × (date_byte (letter m 1) ≡ true) × (date_byte (letter m 2) ≡ true)
unfolding date_byte is_digit letter
letter_bytes m h = (
  carried (λ (m : ℕ). date_byte (letter m 0)) 12 refl m h,
  carried (λ (m : ℕ). date_byte (letter m 1)) 12 refl m h,
  carried (λ (m : ℕ). date_byte (letter m 2)) 12 refl m h,
)

mark_bytes : (date_byte (code ":") ≡ true) × (date_byte (code "-") ≡ true) × (date_byte (code " ") ≡ true)
unfolding date_byte is_digit
mark_bytes = (refl, refl, refl)

number_bytes : (n : ℕ) → n < 100 → each date_byte (digits n) ≡ true
number_bytes n h =
    below_hundred (λ (s : List ℕ). each date_byte s ≡ true) n h (λ e. rw (digit_byte n e))
    (λ e. rw (digit_byte (n / 10) (omega arith), digit_byte (n % 10) (omega arith)))

pub date_bytes : DateBytes
unfolding date_text text_of
date_bytes t h =
    let m = moment_of t in
    let fit = moment_fits t h in
    let letters = letter_bytes m.month fit.month in
    rw (
      each_append ℕ date_byte (digits m.hour ++ past_hour m) (digits m.day ++ past_day m),
      each_append ℕ date_byte (digits m.hour) (past_hour m),
      each_append ℕ date_byte (digits m.day) (past_day m),
      number_bytes m.hour (omega (arith, fit.hour)),
      number_bytes m.day (omega (arith, fit.day)),
      mark_bytes.0,
      mark_bytes.1,
      mark_bytes.2,
      letters.0,
      letters.1,
      letters.2,
      digit_byte (m.minute / 10) (omega (arith, fit.minute)),
      digit_byte (m.minute % 10) (omega arith),
      digit_byte (m.second / 10) (omega (arith, fit.second)),
      digit_byte (m.second % 10) (omega arith),
      digit_byte (m.year / 100 / 10) (omega (arith, fit.year)),
      digit_byte (m.year / 100 % 10) (omega arith),
      digit_byte (m.year % 100 / 10) (omega arith),
      digit_byte (m.year % 100 % 10) (omega arith),
    )

-- ---- a date put together, and as it stands in what it was written over

pub date_made : (t : ℕ) (m : Moment) (clock calendar : List ℕ) → m ≡ moment_of t → clock ≡ past_hour m
    → calendar ≡ past_day m → (digits m.hour ++ clock) ++ (digits m.day ++ calendar) ≡ date_text t
unfolding date_text text_of
date_made t m clock calendar e f g = rw (f, g, e)

pub put_fits : {text old new : List ℕ} {n : ℕ} → Put text old n new → n ≤ length new
put_fits {text} {old} e =
    rw (e.laid, length-append text (drop (length text) old)) (omega (arith, e.count))

pub put_front : {text old new : List ℕ} {n : ℕ} → Put text old n new → take n new ≡ text
put_front {text} {old} {new} {n} e = rw e.laid (take_at text (drop (length text) old) n (sym e.count))

-- ---- names compared

module _ (a b c : ℕ) where
  abbrev at : List (List ℕ) → ℕ
  at names = position_or_len (λ name. is_named name a b c) names

  named_at : (names : List (List ℕ)) → named_in names a b c ≡ at names
  named_at [] = refl
  named_at (name ∷ names) = go (is_named name a b c) (named_at names)
    where
      go : (t : Bool) → named_in names a b c ≡ at names
          → cond t 0 (suc (named_in names a b c)) ≡ cond (not t) (1 + at names) 0
      go true e = refl
      go false e = omega (arith, e)

  named_most : (names : List (List ℕ)) → named_in names a b c ≤ length names
  named_most [] = omega arith
  named_most (name ∷ names) = go (is_named name a b c) (named_most names)
    where
      go : (t : Bool) → named_in names a b c ≤ length names
          → cond t 0 (suc (named_in names a b c)) ≤ suc (length names)
      go true h = omega arith
      go false h = omega (arith, h)

  pub named_first : (unwrap_or (position (λ name. is_named name a b c) month_names) 12 ≡ month_named a b c)
      × (month_named a b c ≤ 12)
  unfolding month_named
  named_first = (go (ltb (at month_names) 12) refl, named_most month_names)
    where
      go : (t : Bool) → ltb (at month_names) 12 ≡ t
          → unwrap_or (cond t (Some (at month_names)) None) 12 ≡ named_in month_names a b c
      go true e = sym (named_at month_names)
      go false e = omega (arith, ltb-false (at month_names) 12 e, named_at month_names, named_most month_names)
