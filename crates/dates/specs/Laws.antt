-- What is shown of dates: statements only. Each is proved in proofs/Laws.antt, under its name in small letters.
-- Assumes nothing.
use Rattle.std.specs.Prelude.{◌≡◌, true, List, ℕ, ◌≤◌, length, Some, None}
use Rattle.prelude.specs.Each.{each}
use Rattle.dates.specs.Dates.{last_time, moment_of, Fits, time_of, date_text, date_byte}
use Rattle.dates.specs.Reading.{date_of}

-- a time's fields are those of a date
abbrev pub MomentFits : Type 0
MomentFits = (t : ℕ) → t ≤ last_time → Fits (moment_of t)

-- and the time of these fields is the time
abbrev pub TimeMoment : Type 0
TimeMoment = (t : ℕ) → time_of (moment_of t) ≡ t

-- #103, both ways: seconds written and read back are the seconds
abbrev pub DateRead : Type 0
DateRead = (t : ℕ) → 1 ≤ t → t ≤ last_time → date_of (date_text t) ≡ Some t

-- #103, a date that isn't one: what is read is the text that its seconds are written as, and never time 0
abbrev pub DateOnly : Type 0
DateOnly = (s : List ℕ) (t : ℕ) → date_of s ≡ Some t → (1 ≤ t) × (t ≤ last_time) × (s ≡ date_text t)

-- .. and a text that no time is written as is not read
abbrev pub DateNone : Type 0
DateNone = (s : List ℕ) → ((t : ℕ) → 1 ≤ t → t ≤ last_time → s ≡ date_text t → ⊥) → date_of s ≡ None

-- dates and seconds are one to one
abbrev pub DateOnce : Type 0
DateOnce = (t u : ℕ) → 1 ≤ t → t ≤ last_time → 1 ≤ u → u ≤ last_time → date_text t ≡ date_text u → t ≡ u

-- a date has 18 to 20 bytes
abbrev pub DateSize : Type 0
DateSize = (t : ℕ) → (18 ≤ length (date_text t)) × (length (date_text t) ≤ 20)

-- and each is one that a date is made of: no end of a line, nothing that separates fields
abbrev pub DateBytes : Type 0
DateBytes = (t : ℕ) → t ≤ last_time → each date_byte (date_text t) ≡ true
