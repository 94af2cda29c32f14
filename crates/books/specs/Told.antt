-- What every call is answered, told by the calls before it and their answers alone: statements only, over any sequence
-- of calls from a fresh house. Each is proved in proofs/Told.antt, in proofs/Whole.antt those of a whole report, or in
-- proofs/Rooms.antt those of demand 3, under its name in small letters. Document 01, "Order of checks", and "The house,
-- its slots and its rows". What is told is told by books: nothing right of an equation is of a house, a session or a
-- row's key.
--
--   seen_in         what a book tells of a stream
--   record_checks   the checks of a record by itself, and room_to whether the house has room for it
--   carried_by      what an answer with a number carries beside it, and Smallest what that is of 12
--   needs          the rows that a session needs at a call
--   assured        the replies to a session while it is open and needs no more rows than its floor
-- Assumes nothing.
use Rattle.std.specs.Prelude.{◌≡◌, Bool, true, false, cond, not, ◌&&◌, ◌||◌, List, [], ◌∷◌, ◌++◌, map, ℕ, ◌+◌, ◌-◌, ◌≤◌, ◌<◌, eqb, leb, ltb, length, Option, Some, None}
use Rattle.prelude.specs.Checks.{Check, ◌else◌, number_by}
use Rattle.answers.specs.declared.Answer.TheVariants.{Done, NoRoom}
use Rattle.answers.specs.Numbers.{number_of, values_of}
use Rattle.numbers.specs.Laws.{Bytes}
use Rattle.session.specs.Session.{is_start}
use Rattle.first_record.specs.Laws.{first_checks}
use Rattle.kind_effects.specs.Laws.{Seen}
use Rattle.later_records.specs.Laws.{later_checks}
use Rattle.rows.specs.Rows.{slot_count}
use Rattle.house.specs.House.{row_count, fresh}
use Rattle.house.specs.History.{Call, Open, Deliver, Report, Close, Figured, Reply, Listed, Read, answer_of, reply}
use Rattle.house.specs.History.{Said, after, reached, history, names, named, Sent, AllSent}
use Rattle.tallies.specs.Results.{PartResult, among, tally_of}
use Rattle.books.specs.Book.{Part, Book, is_open, on_head, part, precedes, smallest_of, opened_with, said_in}
use Rattle.books.specs.Book.{results_in, heard, book_of, rows_in, over, free_by, promised_by}

abbrev pub number_told : List Call → Call → ℕ
number_told calls c = number_of (answer_of (reply (reached fresh calls) c))

abbrev pub values_told : List Call → Call → Option (ℕ × ℕ)
values_told calls c = values_of (answer_of (reply (reached fresh calls) c))

-- ---- open

-- Order of checks, Open: 1, 16, 2, 13; granted exactly if floor is at most free less promised
abbrev pub OpenTold : Type 0
OpenTold = (calls : List Call) (slot floor : ℕ) → AllSent calls
    → let es = history fresh calls in
    number_told calls (Open slot floor)
    ≡ number_by
    ((ltb slot slot_count else 1)
    ∷ (leb floor row_count else 16)
    ∷ (not (book_of slot es).opened else 2)
    ∷ (leb floor (free_by es - promised_by es) else 13)
    ∷ [])

-- ---- deliver

-- all that a record's own checks look at; #103: a wafer is open on a head, with a site group, and how many are
abbrev pub seen_in : Book → Seen
seen_in b =
    record {
      is_open = is_open b.parts;
      opened = length b.parts;
      results = length b.results;
      pcr = b.pcr;
      on_head = on_head b.wafers;
      is_wafer = is_open b.wafers;
      wafers = length b.wafers;
    }

-- the first record of a stream, or a later one
abbrev pub record_checks : Book → List ℕ → List (Check ℕ)
record_checks b rec =
    cond (is_start b.place) (first_checks rec) (later_checks b.order b.place (seen_in b) rec)

-- a PRR whose head, site and bin its session has a row for needs none; else it gets one exactly if the session holds
-- fewer rows than its floor, or free is greater than promised
abbrev pub row_for : ℕ → ℕ → Book → List PartResult → Bool
row_for free promised b [] = true
row_for free promised b (r ∷ rs) =
    among r b.results || (ltb (rows_in b) b.floor || ltb promised free)

abbrev pub room_to : List Said → Book → List ℕ → Bool
room_to es b rec = row_for (free_by es) (promised_by es) b (results_in (said_in b rec))

-- Order of checks, Deliver: 1, 2, then the record, 13 last
abbrev pub DeliverTold : Type 0
DeliverTold = (calls : List Call) (slot : ℕ) (rec : List ℕ) → AllSent calls → Bytes rec
    → let es = history fresh calls in
    let b = book_of slot es in
    number_told calls (Deliver slot rec)
    ≡ number_by
    ((ltb slot slot_count else 1)
    ∷ (b.opened else 2)
    ∷ (record_checks b rec ++ ((room_to es b rec else 13) ∷ [])))

-- ---- #101: what an answer carries beside its number

-- 12 carries the smallest head and site of the slot's open parts, and no other answer carries anything
abbrev pub carried_by : List Said → ℕ → Call → Option (ℕ × ℕ)
carried_by es n (Deliver slot rec) = cond (eqb n 12) (smallest_of (book_of slot es).parts) None
carried_by es n (Open slot floor) = None
carried_by es n (Report slot long) = None
carried_by es n (Close slot) = None
carried_by es n Figured = None

abbrev pub ValuesTold : Type 0
ValuesTold = (calls : List Call) (c : Call) → AllSent calls → Sent c
    → values_told calls c ≡ carried_by (history fresh calls) (number_told calls c) c

-- what 12 names is a part that is open, and no open one precedes it
abbrev pub Smallest : List Part → Option (ℕ × ℕ) → Type 0
Smallest parts None = ⊥
Smallest parts (Some (head, site)) =
    (is_open parts head site ≡ true)
    × ((head' site' : ℕ) → is_open parts head' site' ≡ true → precedes (part head' site') (part head site) ≡ false)

abbrev pub SmallestTold : Type 0
SmallestTold = (calls : List Call) (slot : ℕ) (rec : List ℕ) → AllSent calls → Bytes rec
    → let parts = (book_of slot (history fresh calls)).parts in
    number_told calls (Deliver slot rec) ≡ 12 → Smallest parts (values_told calls (Deliver slot rec))

-- ---- report, close, figures

-- Order of checks, Report: 1, 2, 17
abbrev pub ReportTold : Type 0
ReportTold = (calls : List Call) (slot long : ℕ) → AllSent calls
    → let b = book_of slot (history fresh calls) in
    number_told calls (Report slot long)
    ≡ number_by ((ltb slot slot_count else 1) ∷ (b.opened else 2) ∷ (leb (rows_in b) long else 17) ∷ [])

-- .. and its rows are the tally
abbrev pub ReportListed : Type 0
ReportListed = (calls : List Call) (slot long : ℕ) → AllSent calls
    → answer_of (reply (reached fresh calls) (Report slot long)) ≡ Done
    → reply (reached fresh calls) (Report slot long)
    ≡ Listed Done (tally_of (book_of slot (history fresh calls)).results)

-- an output of 1,024 rows is never too short
abbrev pub ReportWhole : Type 0
ReportWhole = (calls : List Call) (slot : ℕ) → AllSent calls → (book_of slot (history fresh calls)).opened ≡ true
    → reply (reached fresh calls) (Report slot row_count)
    ≡ Listed Done (tally_of (book_of slot (history fresh calls)).results)

-- so who opens a slot of a fresh house with all its rows, as the tally program does, can read the tally at any time
abbrev pub AloneListed : Type 0
AloneListed = (records : List (List ℕ))
    → let calls = Open 0 row_count ∷ map (Deliver 0) records in
    AllSent calls → reply (reached fresh calls) (Report 0 row_count)
    ≡ Listed Done (tally_of (book_of 0 (history fresh calls)).results)

-- Order of checks, Close: 1, 2
abbrev pub CloseTold : Type 0
CloseTold = (calls : List Call) (slot : ℕ) → AllSent calls
    → number_told calls (Close slot)
    ≡ number_by ((ltb slot slot_count else 1) ∷ ((book_of slot (history fresh calls)).opened else 2) ∷ [])

abbrev pub FiguresTold : Type 0
FiguresTold = (calls : List Call) → AllSent calls
    → let es = history fresh calls in
    reply (reached fresh calls) Figured
    ≡ Read (record { answer = Done; free = free_by es; promised = promised_by es })

-- ---- demand 3: the rooms

-- each row is free or one of a tally
abbrev pub RowsKept : Type 0
RowsKept = (calls : List Call) → AllSent calls
    → free_by (history fresh calls) + over rows_in slot_count 0 (history fresh calls) ≡ row_count

-- a slot that is not open has no row, and is owed none
abbrev pub ShutNone : Type 0
ShutNone = (slot : ℕ) (calls : List Call) → AllSent calls
    → let b = book_of slot (history fresh calls) in
    b.opened ≡ false → (b.floor ≡ 0) × (b.results ≡ [])

-- free rows are never fewer than the rows still promised
abbrev pub FreePromised : Type 0
FreePromised = (calls : List Call) → AllSent calls
    → promised_by (history fresh calls) ≤ free_by (history fresh calls)

-- a session below its floor is never refused for room; #103: that is answer 13 to a record, and no other
abbrev pub NeverRefused : Type 0
NeverRefused = (calls : List Call) (slot : ℕ) (rec : List ℕ) → AllSent calls → Bytes rec
    → let b = book_of slot (history fresh calls) in
    rows_in b < b.floor → answer_of (reply (reached fresh calls) (Deliver slot rec)) ≡ NoRoom → ⊥

-- ---- demand 3: on its own calls alone

-- the rows it holds and, at a PRR judged for room, the new one it asks for, granted or not
abbrev pub asked : Book → List PartResult → ℕ
asked b [] = 0
asked b (r ∷ rs) = cond (among r b.results) 0 1

abbrev pub needs : Book → Call → ℕ
needs b (Open slot floor) = rows_in b
needs b (Deliver slot rec) =
    rows_in b + cond (eqb (number_by (record_checks b rec)) 0) (asked b (results_in (said_in b rec))) 0
needs b (Report slot long) = rows_in b
needs b (Close slot) = rows_in b
needs b Figured = rows_in b

-- the replies to the calls that name a slot, while it is open, up to the first at which it needs more than its floor
abbrev pub assured : ℕ → Book → List Said → List Reply
assured slot b [] = []
assured slot b (e ∷ es) =
    cond (names slot e.call)
    (cond (b.opened && leb (needs b e.call) b.floor) (e.reply ∷ assured slot (heard slot e b) es) [])
    (assured slot b es)

-- once its opening is granted, they are the same in any two histories that agree on the calls that name it
abbrev pub Isolated : Type 0
Isolated = (past other : List Call) (slot floor : ℕ) (cs ds : List Call) → AllSent past → AllSent other → AllSent cs
    → AllSent ds → answer_of (reply (reached fresh past) (Open slot floor)) ≡ Done
    → answer_of (reply (reached fresh other) (Open slot floor)) ≡ Done → named slot cs ≡ named slot ds
    → assured slot (opened_with floor) (history (after (reached fresh past) (Open slot floor)) cs)
    ≡ assured slot (opened_with floor) (history (after (reached fresh other) (Open slot floor)) ds)
