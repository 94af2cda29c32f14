-- The session after a record. Document 01, Calls, Deliver, as one session sees it.
--
--   changed        the session after a change: here alone stands what a change does
--   after          the session after a verdict; of a part result, if its row is granted
--   counted_parts   how many parts a verdict counts, if its row is granted
--   Within         that a part or a wafer opens and closes among the open ones; Settles, that a verdict's change, if
--                  any, is such
-- Assumes nothing.
use Rattle.std.specs.Prelude.{List, ℕ, ◌+◌, ◌≤◌, ◌<◌}
use Rattle.rising.specs.Rising.{insert_at, remove_at}
use Rattle.session.specs.declared.Session.{Session}
use Rattle.session.specs.declared.Standing.{Standing}
use Rattle.session.specs.declared.Change.{Change}
use Rattle.session.specs.declared.Change.TheVariants.{Stands, Opens, Closes, WaferOpens, WaferCloses}
use Rattle.session.specs.declared.Verdict.{Verdict}
use Rattle.session.specs.declared.Verdict.TheVariants.{Refused, Taken, Wanted}
use Rattle.session.specs.Session.{most_open, most_wafers}

-- a session whose parts are lent
abbrev pub lent_session : Standing → List ℕ → Session
lent_session st cells = record { standing = st; parts = cells }

-- PIR puts a part in at its rank among the open ones, PRR takes it out; #103: WIR and WRR do so with a wafer, in the
-- cells behind those of the parts
unfoldable pub changed : Session → Change → Session
changed s (Stands st) = record { standing = st; parts = s.parts }
changed s (Opens st rank part) =
    record { standing = st; parts = insert_at s.parts s.standing.opened rank part }
changed s (Closes st rank) = record { standing = st; parts = remove_at s.parts s.standing.opened rank 1 }
changed s (WaferOpens st rank wafer) =
    record { standing = st; parts = insert_at s.parts (most_open + s.standing.wafers) (most_open + rank) wafer }
changed s (WaferCloses st rank) =
    record { standing = st; parts = remove_at s.parts (most_open + s.standing.wafers) (most_open + rank) 1 }

-- a refusal changes nothing
unfoldable pub after : Session → Verdict → Session
after s (Refused a) = s
after s (Taken change) = changed s change
after s (Wanted change key) = changed s change

-- every accepted PRR counts as one part
abbrev pub counted_parts : Verdict → ℕ
counted_parts (Refused a) = 0
counted_parts (Taken change) = 0
counted_parts (Wanted change key) = 1

-- ---- what may be settled

abbrev pub Within : Standing → Change → Type 0
Within st (Stands next) = Unit
Within st (Opens next rank part) = (rank ≤ st.opened) × (st.opened < most_open)
Within st (Closes next rank) = (rank + 1 ≤ st.opened) × (st.opened ≤ most_open)
Within st (WaferOpens next rank wafer) = (rank ≤ st.wafers) × (st.wafers < most_wafers)
Within st (WaferCloses next rank) = (rank + 1 ≤ st.wafers) × (st.wafers ≤ most_wafers)

abbrev pub Settles : Standing → Verdict → Type 0
Settles st (Refused a) = Unit
Settles st (Taken change) = Within st change
Settles st (Wanted change key) = Within st change
