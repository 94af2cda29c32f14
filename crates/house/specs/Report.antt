-- The report. Document 01, Calls, Report: a slot's rows in rising order of head, then site, then bin.
--
--   keyed_row   the row that a key and its count say
--   row_at      the i-th row of a slot
--   rows_of     how many rows a report of a slot has; none where there is nothing to report
--   rows_from   where the rows of a report stand among all rows
--   reported   what the call answers, by report_checks, and how many rows it writes into a slice that is so long
--   listed     the first rows of a report, one after the other
--   filled     a slice whose first rows are written, every other as it was
--   listing    a report by value
-- Assumes nothing.
use Rattle.std.specs.Prelude.{ℕ, zero, suc, ◌+◌, cond, List, [], ◌∷◌, ◌++◌, leb, get_or, set, replicate}
use Rattle.prelude.specs.All.{all}
use Rattle.prelude.specs.Checks.{Check, ◌else◌, tests, checked}
use Rattle.answers.specs.declared.Answer.{Answer}
use Rattle.answers.specs.declared.Answer.TheVariants.{Done, OutputTooShort}
use Rattle.rows.specs.Rows.{head_of, site_of, bin_of, held_by, slot_rank}
use Rattle.house.specs.declared.House.{House}
use Rattle.house.specs.declared.Row.{Row}
use Rattle.house.specs.declared.Reported.{Reported}
use Rattle.house.specs.declared.Listing.{Listing}
use Rattle.house.specs.House.{row_count, keys_of}
use Rattle.house.specs.Calls.{slot_checks}

abbrev pub keyed_row : ℕ → ℕ → Row
keyed_row key count = record { head = head_of key; site = site_of key; bin = bin_of key; count = count }

unfoldable pub row_at : House → ℕ → ℕ → Row
row_at h slot i =
    let at = slot_rank slot (keys_of h) + i in
    keyed_row (get_or h.keys at 0) (get_or h.counts at 0)

unfoldable pub rows_of : House → ℕ → ℕ
rows_of h slot = cond (all (tests (slot_checks h slot))) (held_by slot (keys_of h)) 0

-- a report of no rows has no place: it is not looked for in a house that may be out of order
abbrev pub rows_from : House → ℕ → ℕ → ℕ
rows_from h slot zero = 0
rows_from h slot (suc n) = slot_rank slot (keys_of h)

abbrev pub unreported : Answer → Reported
unreported a = record { answer = a; rows = 0 }

-- Order of checks, Report: 15, 1, 2, 17
abbrev pub report_checks : House → ℕ → ℕ → List (Check Answer)
report_checks h slot long = slot_checks h slot ++ ((leb (held_by slot (keys_of h)) long else OutputTooShort) ∷ [])

unfoldable pub reported : House → ℕ → ℕ → Reported
reported h slot long =
    checked unreported (report_checks h slot long) (record { answer = Done; rows = held_by slot (keys_of h) })

abbrev pub listed : (ℕ → Row) → ℕ → List Row
listed row zero = []
listed row (suc i) = listed row i ++ (row i ∷ [])

-- elements beyond the rows keep their old content
abbrev pub filled : (ℕ → Row) → ℕ → List Row → List Row
filled row zero old = old
filled row (suc i) old = set (filled row i old) i (row i)

abbrev pub no_rows : List Row
no_rows = replicate row_count (record { head = 0; site = 0; bin = 0; count = 0 })

-- all rows there can be have room in 1,024, so a longer slice is answered the same
unfoldable pub listing : House → ℕ → ℕ → Listing
listing h slot long =
    let r = reported h slot long in
    record { reported = r; rows = filled (row_at h slot) r.rows no_rows }
