-- The three demands, over any sequence of calls from a fresh house: statements only. Each is proved in proofs/, under
-- its name in small letters (docs/DEMANDS.md says which clause of which demand each one states). Document 01, "The
-- house, its slots and its rows" and "How the promises are held to account".
--
--   needs      the rows that a session needs at a call
--   assured    the replies to a session while it is open and needs no more rows than its floor
-- Assumes nothing.
use Rattle.std.specs.Prelude.{◌≡◌, Bool, true, false, cond, not, ◌&&◌, List, [], ◌∷◌, ◌++◌, ℕ, ◌+◌, ◌-◌, ◌≤◌, ◌<◌, leb, ltb, eqb, length, get_or, drop}
use Rattle.prelude.specs.Checks.{◌else◌, number_by}
use Rattle.numbers.specs.Laws.{Bytes}
use Rattle.answers.specs.declared.Answer.TheVariants.{Done, NoRoom, NotSound}
use Rattle.answers.specs.Numbers.{number_of}
use Rattle.rows.specs.Rows.{slot_count, slot_of, row_key, held_by}
use Rattle.rows.specs.Counts.{keys_in}
use Rattle.rising.specs.Rising.{rising, held}
use Rattle.session.specs.declared.Verdict.{Verdict}
use Rattle.session.specs.declared.Verdict.TheVariants.{Refused, Taken, Wanted}
use Rattle.session.specs.Verdicts.{verdict_number}
use Rattle.judging.specs.Judge.{verdict_on}
use Rattle.house.specs.declared.House.{House}
use Rattle.house.specs.declared.Row.{Row}
use Rattle.house.specs.House as house
use Rattle.house.specs.House.{row_count, fresh, keys_of, free, sound}
use Rattle.house.specs.Deliver.{granted}
use Rattle.house.specs.Calls.{slot_at, open_slot, close_slot, deliver, room_of, figures_of}
use Rattle.house.specs.Report.{row_at, reported, listed, filled}
use Rattle.house.specs.History.{Call, Open, Deliver, Report, Close, Figured, Reply, Listed, answer_of, reply}
use Rattle.house.specs.History.{Said, after, reached, history, names, named, Sent, AllSent}
use Rattle.house.specs.Tally.{told_of, tallied, holding, over, free_by, promised_by}

-- ---- demand 1: a refusal changes nothing

-- .. of any house, whatever it is asked
abbrev pub RefusedKeeps : Type 0
RefusedKeeps = (h : House) (c : Call) → (answer_of (reply h c) ≡ Done → ⊥) → after h c ≡ h

-- .. nor of the slice that a report is written into; a report that is done changes no more than its rows
abbrev pub RefusedWrites : Type 0
RefusedWrites = (h : House) (slot : ℕ) (out : List Row) → ((reported h slot (length out)).answer ≡ Done → ⊥)
    → filled (row_at h slot) (reported h slot (length out)).rows out ≡ out

abbrev pub ReportWrites : Type 0
ReportWrites = (h : House) (slot : ℕ) (out : List Row)
    → filled (row_at h slot) (reported h slot (length out)).rows out
    ≡ listed (row_at h slot) (reported h slot (length out)).rows ++ drop (reported h slot (length out)).rows out

-- ---- demand 1: its number is that of the first check that fails, in document 01's order

abbrev pub OpenNumber : Type 0
OpenNumber = (h : House) (slot floor : ℕ)
    → number_of (open_slot h slot floor).answer
    ≡ number_by
    ((sound h else 15)
    ∷ (ltb slot slot_count else 1)
    ∷ (leb floor row_count else 16)
    ∷ (not (slot_at h slot).taken else 2)
    ∷ (leb floor (free h - house.promised h) else 13)
    ∷ [])

-- a part result asks for a row, and room, 13, comes last: a record's own number is session's to say, by FirstNumber of
-- first_record and LaterNumber of later_records
abbrev pub room_for : House → ℕ → Verdict → Bool
room_for h slot (Refused a) = true
room_for h slot (Taken change) = true
room_for h slot (Wanted change key) = granted (room_of h slot) (keys_of h) (row_key slot key)

abbrev pub DeliverNumber : Type 0
DeliverNumber = (h : House) (slot : ℕ) (rec : List ℕ)
    → let v = verdict_on (slot_at h slot).session rec in
    number_of (deliver h slot rec).answer
    ≡ number_by
    ((sound h else 15)
    ∷ (ltb slot slot_count else 1)
    ∷ ((slot_at h slot).taken else 2)
    ∷ (eqb (verdict_number v) 0 else verdict_number v)
    ∷ (room_for h slot v else 13)
    ∷ [])

abbrev pub ReportNumber : Type 0
ReportNumber = (h : House) (slot long : ℕ)
    → number_of (reported h slot long).answer
    ≡ number_by
    ((sound h else 15)
    ∷ (ltb slot slot_count else 1)
    ∷ ((slot_at h slot).taken else 2)
    ∷ (leb (held_by slot (keys_of h)) long else 17)
    ∷ [])

abbrev pub CloseNumber : Type 0
CloseNumber = (h : House) (slot : ℕ)
    → number_of (close_slot h slot).answer
    ≡ number_by ((sound h else 15) ∷ (ltb slot slot_count else 1) ∷ ((slot_at h slot).taken else 2) ∷ [])

abbrev pub FiguresNumber : Type 0
FiguresNumber = (h : House) → number_of (figures_of h).answer ≡ number_by ((sound h else 15) ∷ [])

-- ---- demand 2: what is accepted, and the tally

-- a record is accepted exactly if the house is sound, the slot open, the session allows it and there is room
abbrev pub Accepted : Type 0
Accepted = (h : House) (slot : ℕ) (rec : List ℕ)
    → let v = verdict_on (slot_at h slot).session rec in
    eqb (number_of (deliver h slot rec).answer) 0
    ≡ (sound h && (ltb slot slot_count && ((slot_at h slot).taken && (eqb (verdict_number v) 0 && room_for h slot v))))

-- a report is the tally that the calls and their answers tell
abbrev pub TallyReported : Type 0
TallyReported = (calls : List Call) (slot long : ℕ) → AllSent calls
    → answer_of (reply (reached fresh calls) (Report slot long)) ≡ Done
    → reply (reached fresh calls) (Report slot long) ≡ Listed Done (tallied slot (history fresh calls))

-- ---- demand 3: the rooms

-- no call is ever answered with 15
abbrev pub NeverUnsound : Type 0
NeverUnsound = (calls : List Call) (c : Call) → AllSent calls → Sent c
    → answer_of (reply (reached fresh calls) c) ≡ NotSound → ⊥

-- each row that is in use is held by one slot, the upper part of its key, and that slot is open
abbrev pub RowsHeld : Type 0
RowsHeld = (calls : List Call) (i : ℕ) → AllSent calls → i < (reached fresh calls).used
    → (slot_at (reached fresh calls) (slot_of (get_or (reached fresh calls).keys i 0))).taken ≡ true

-- no two rows have one key, so no session holds two for one
abbrev pub KeysDiffer : Type 0
KeysDiffer = (calls : List Call) (i j : ℕ) → AllSent calls → i < j → j < (reached fresh calls).used
    → get_or (reached fresh calls).keys i 0 < get_or (reached fresh calls).keys j 0

-- the same over the tallies: no tally has two rows for one key, a slot that is not open has none, and every row is free
-- or one of a tally
abbrev pub TallyKeys : Type 0
TallyKeys = (slot : ℕ) (es : List Said) → rising (keys_in (told_of slot es).rows) ≡ true

abbrev pub ShutNone : Type 0
ShutNone = (slot : ℕ) (calls : List Call) → AllSent calls → (told_of slot (history fresh calls)).opened ≡ false
    → tallied slot (history fresh calls) ≡ []

abbrev pub RowsTallied : Type 0
RowsTallied = (calls : List Call) → AllSent calls
    → free_by (history fresh calls) + over holding slot_count 0 (history fresh calls) ≡ row_count

-- the figures are those of the tallies
abbrev pub FiguresTallied : Type 0
FiguresTallied = (calls : List Call) → AllSent calls
    → figures_of (reached fresh calls)
    ≡ record {
      answer = Done;
      free = free_by (history fresh calls);
      promised = promised_by (history fresh calls);
    }

-- free rows are never fewer than the rows still promised
abbrev pub FreePromised : Type 0
FreePromised = (calls : List Call) → AllSent calls
    → promised_by (history fresh calls) ≤ free_by (history fresh calls)

-- a session below its floor is never refused for room
abbrev pub NeverRefused : Type 0
NeverRefused = (calls : List Call) (slot : ℕ) (rec : List ℕ) → AllSent calls → Bytes rec
    → holding (told_of slot (history fresh calls)) < (told_of slot (history fresh calls)).floor
    → answer_of (reply (reached fresh calls) (Deliver slot rec)) ≡ NoRoom → ⊥

-- ---- demand 3: on its own calls alone

-- the rows it holds and, at a PRR judged for room, the new one it asks for, granted or not
abbrev pub asking : ℕ → List ℕ → Verdict → ℕ
asking slot keys (Refused a) = 0
asking slot keys (Taken change) = 0
asking slot keys (Wanted change key) = cond (held (row_key slot key) keys) 0 1

abbrev pub needs : House → ℕ → Call → ℕ
needs h slot (Open i floor) = held_by slot (keys_of h)
needs h slot (Deliver i rec) =
    held_by slot (keys_of h) + asking slot (keys_of h) (verdict_on (slot_at h slot).session rec)
needs h slot (Report i long) = held_by slot (keys_of h)
needs h slot (Close i) = held_by slot (keys_of h)
needs h slot Figured = held_by slot (keys_of h)

-- the replies to the calls that name a slot, while it is open, up to the first at which it needs more than its floor
abbrev pub assured : ℕ → House → List Call → List Reply
assured slot h [] = []
assured slot h (c ∷ cs) =
    cond (names slot c)
    (cond ((slot_at h slot).taken && leb (needs h slot c) (slot_at h slot).floor)
    (reply h c ∷ assured slot (after h c) cs) [])
    (assured slot (after h c) cs)

-- once its opening is granted, they are the same in any two histories that agree on the calls that name it
abbrev pub Isolated : Type 0
Isolated = (past other : List Call) (slot floor : ℕ) (cs ds : List Call) → AllSent past → AllSent other → AllSent cs
    → AllSent ds → (open_slot (reached fresh past) slot floor).answer ≡ Done
    → (open_slot (reached fresh other) slot floor).answer ≡ Done → named slot cs ≡ named slot ds
    → assured slot (after (reached fresh past) (Open slot floor)) cs
    ≡ assured slot (after (reached fresh other) (Open slot floor)) ds
