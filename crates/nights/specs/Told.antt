-- What every call of a night is answered, told by calls and their answers alone: statements only, over any sequence of
-- calls from a fresh night, feeds among them. Each is proved in proofs/Told.antt, or in proofs/Feeds.antt those of a
-- feed, under its name in small letters. Document 01, "Order of checks", and "The house, its slots and its rows";
-- document 02, #102. They are those of crate books, over the calls that are told: each feed as the deliveries of its
-- records. That calls and answers alone tell these, and what is held, is ToldAlone of specs/Telling.antt.
--
--   book_at         the book of a slot
--   record_number   the number that a record is answered, by what was told before it
--   hearing_by      what is heard of a stream, by what was told before it
--   feed_walk       the walk over the bytes that are held and a chunk, so heard
--   Refusing       where a feed was refused: at the last of its records
-- Assumes nothing.
use Rattle.std.specs.Prelude.{◌≡◌, true, false, cond, not, List, [], ◌∷◌, ◌++◌, ℕ, ◌+◌, ◌-◌, ◌≤◌, ◌<◌, eqb, leb, ltb, length, None}
use Rattle.prelude.specs.All.{all}
use Rattle.prelude.specs.Checks.{◌else◌, tests, checked, number_by}
use Rattle.answers.specs.declared.Answer.TheVariants.{Done, NoRoom}
use Rattle.answers.specs.declared.Saying.{Saying}
use Rattle.answers.specs.Numbers.{saying_of, number_of, values_of}
use Rattle.numbers.specs.Laws.{Bytes}
use Rattle.bodies.specs.declared.Wafer.{Wafer}
use Rattle.bodies.specs.declared.Record.TheVariants as body
use Rattle.session.specs.declared.Standing.{Standing}
use Rattle.rows.specs.Rows.{slot_count}
use Rattle.cutting.specs.Needed.{longest}
use Rattle.cutting.specs.Walk.{Heard, Kept, Turned, Machine, Walked, Waits, Stops, walked, cutting}
use Rattle.house.specs.House as house
use Rattle.house.specs.House.{row_count, carry_length}
use Rattle.house.specs.Feeding.{feed_checks}
use Rattle.house.specs.History as asked
use Rattle.house.specs.History.{Open, Deliver, Report, Close, Figured, Told, Listed, Read, Said, said}
use Rattle.tallies.specs.Results.{tally_of}
use Rattle.books.specs.Book.{Book, book_of, rows_in, over, free_by, promised_by}
use Rattle.books.specs.Told.{record_checks, room_to, carried_by, Smallest}
use Rattle.books.specs.Wafers.{Arrives, wir_number, wrr_number, mrr_number, WafersRight}
use Rattle.nights.specs.Night.{fresh, held_at, Call, Asked, Feed, End, Reply, Replied, Took, Ended, answer_of}
use Rattle.nights.specs.Night.{reply, reached, AllSent}
use Rattle.nights.specs.Spelled.{delivers, spelled_by, spelled, told}

abbrev pub book_at : ℕ → List Call → Book
book_at slot calls = book_of slot (told calls)

abbrev pub number_told : List Call → Call → ℕ
number_told calls c = number_of (answer_of (reply (reached fresh calls) c))

-- ---- the calls of a house

-- Order of checks, Open: 1, 16, 2, 13
abbrev pub OpenTold : Type 0
OpenTold = (calls : List Call) (slot floor : ℕ) → AllSent calls
    → number_told calls (Asked (Open slot floor))
    ≡ number_by
    ((ltb slot slot_count else 1)
    ∷ (leb floor row_count else 16)
    ∷ (not (book_at slot calls).opened else 2)
    ∷ (leb floor (free_by (told calls) - promised_by (told calls)) else 13)
    ∷ [])

-- Order of checks, Deliver: 1, 2, then the record, 13 last
abbrev pub record_number : List Said → ℕ → List ℕ → ℕ
record_number es slot rec =
    let b = book_of slot es in
    number_by
    ((ltb slot slot_count else 1)
    ∷ (b.opened else 2)
    ∷ (record_checks b rec ++ ((room_to es b rec else 13) ∷ [])))

abbrev pub DeliverTold : Type 0
DeliverTold = (calls : List Call) (slot : ℕ) (rec : List ℕ) → AllSent calls → Bytes rec
    → number_told calls (Asked (Deliver slot rec)) ≡ record_number (told calls) slot rec

-- #101: 12 carries the smallest open part, and no other answer carries anything
abbrev pub ValuesTold : Type 0
ValuesTold = (calls : List Call) (c : asked.Call) → AllSent calls → asked.Sent c
    → values_of (answer_of (reply (reached fresh calls) (Asked c)))
    ≡ carried_by (told calls) (number_told calls (Asked c)) c

-- #103, wafers: where the checks before them hold, WIR is 22, 23, WRR is 22, and MRR is 12, 33, 20
abbrev pub WirTold : Type 0
WirTold = (calls : List Call) (slot : ℕ) (rec : List ℕ) (w : Wafer) → AllSent calls → Bytes rec
    → Arrives (book_at slot calls) slot rec (body.Wir w)
    → number_told calls (Asked (Deliver slot rec)) ≡ wir_number (book_at slot calls) w

abbrev pub WrrTold : Type 0
WrrTold = (calls : List Call) (slot : ℕ) (rec : List ℕ) (w : Wafer) → AllSent calls → Bytes rec
    → Arrives (book_at slot calls) slot rec (body.Wrr w)
    → number_told calls (Asked (Deliver slot rec)) ≡ wrr_number (book_at slot calls) w

abbrev pub MrrTold : Type 0
MrrTold = (calls : List Call) (slot : ℕ) (rec : List ℕ) → AllSent calls → Bytes rec
    → Arrives (book_at slot calls) slot rec body.Mrr
    → number_told calls (Asked (Deliver slot rec)) ≡ mrr_number (book_at slot calls)

-- at most 8 wafers are open, one a head, and none but in the body of an open slot's stream
abbrev pub WafersKept : Type 0
WafersKept = (calls : List Call) (slot : ℕ) → AllSent calls → WafersRight (book_at slot calls)

-- Order of checks, Report: 1, 2, 17
abbrev pub ReportTold : Type 0
ReportTold = (calls : List Call) (slot long : ℕ) → AllSent calls
    → let b = book_at slot calls in
    number_told calls (Asked (Report slot long))
    ≡ number_by ((ltb slot slot_count else 1) ∷ (b.opened else 2) ∷ (leb (rows_in b) long else 17) ∷ [])

-- .. and its rows are the tally of the accepted part results, fed or delivered
abbrev pub ReportListed : Type 0
ReportListed = (calls : List Call) (slot long : ℕ) → AllSent calls
    → answer_of (reply (reached fresh calls) (Asked (Report slot long))) ≡ Done
    → reply (reached fresh calls) (Asked (Report slot long))
    ≡ Replied (Listed Done (tally_of (book_at slot calls).results))

-- Order of checks, Close: 1, 2
abbrev pub CloseTold : Type 0
CloseTold = (calls : List Call) (slot : ℕ) → AllSent calls
    → number_told calls (Asked (Close slot))
    ≡ number_by ((ltb slot slot_count else 1) ∷ ((book_at slot calls).opened else 2) ∷ [])

abbrev pub FiguresTold : Type 0
FiguresTold = (calls : List Call) → AllSent calls
    → reply (reached fresh calls) (Asked Figured)
    ≡ Replied (Read (record { answer = Done; free = free_by (told calls); promised = promised_by (told calls) }))

-- ---- demand 3: the rooms

-- each row is free or one of a tally
abbrev pub RowsKept : Type 0
RowsKept = (calls : List Call) → AllSent calls
    → free_by (told calls) + over rows_in slot_count 0 (told calls) ≡ row_count

-- a slot that is not open has no row, and is owed none
abbrev pub ShutNone : Type 0
ShutNone = (slot : ℕ) (calls : List Call) → AllSent calls → (book_at slot calls).opened ≡ false
    → ((book_at slot calls).floor ≡ 0) × ((book_at slot calls).results ≡ [])

-- free rows are never fewer than the rows still promised
abbrev pub FreePromised : Type 0
FreePromised = (calls : List Call) → AllSent calls → promised_by (told calls) ≤ free_by (told calls)

-- a session below its floor is never refused for room, which is answer 13 to a record and no other (#103): one that is
-- delivered ..
abbrev pub NeverRefused : Type 0
NeverRefused = (calls : List Call) (slot : ℕ) (rec : List ℕ) → AllSent calls → Bytes rec
    → rows_in (book_at slot calls) < (book_at slot calls).floor
    → answer_of (reply (reached fresh calls) (Asked (Deliver slot rec))) ≡ NoRoom → ⊥

-- .. and one that is fed: a feed that judged records and is not done was refused at the last of them
pub record Refusing (calls : List Call) (slot : ℕ) (c : Call) : Type 0 where
  pub before : List (List ℕ)
  pub rec : List ℕ
  pub spells : spelled_by (reached fresh calls) c ≡ delivers slot before ++ (Deliver slot rec ∷ [])
  pub answer : asked.reply (asked.reached house.fresh (spelled fresh calls ++ delivers slot before)) (Deliver slot rec)
      ≡ Told (answer_of (reply (reached fresh calls) c))

-- all that was told before that record
abbrev pub told_before : (calls : List Call) (slot : ℕ) (c : Call) → Refusing calls slot c → List Said
told_before calls slot c r = asked.history house.fresh (spelled fresh calls ++ delivers slot r.before)

abbrev pub FeedRefusing : Type 0
FeedRefusing = (calls : List Call) (slot long : ℕ) (chunk : List ℕ) → AllSent calls → Bytes chunk
    → all (tests (feed_checks (reached fresh calls).house slot long)) ≡ true
    → (answer_of (reply (reached fresh calls) (Feed slot long chunk)) ≡ Done → ⊥)
    → Refusing calls slot (Feed slot long chunk)

-- .. and if it was refused for room, its session held no fewer rows than its floor before that record
pub record RoomRefused (calls : List Call) (slot : ℕ) (c : Call) : Type 0 where
  pub where_refused : Refusing calls slot c
  pub above : let b = book_of slot (told_before calls slot c where_refused) in b.floor ≤ rows_in b

abbrev pub FeedNeverRefused : Type 0
FeedNeverRefused = (calls : List Call) (slot long : ℕ) (chunk : List ℕ) → AllSent calls → Bytes chunk
    → answer_of (reply (reached fresh calls) (Feed slot long chunk)) ≡ NoRoom
    → RoomRefused calls slot (Feed slot long chunk)

-- #101: where a feed is refused with 12, that names the smallest part open before the record, and no other
pub record PartNamed (calls : List Call) (slot : ℕ) (c : Call) : Type 0 where
  pub where_refused : Refusing calls slot c
  pub named : Smallest (book_of slot (told_before calls slot c where_refused)).parts
      (values_of (answer_of (reply (reached fresh calls) c)))

abbrev pub FeedSmallest : Type 0
FeedSmallest = (calls : List Call) (slot long : ℕ) (chunk : List ℕ) → AllSent calls → Bytes chunk
    → number_told calls (Feed slot long chunk) ≡ 12 → PartNamed calls slot (Feed slot long chunk)

-- ---- a feed, by what was told

-- where a stream stands
abbrev pub standing_in : Book → Standing
standing_in b =
    record {
      place = b.place;
      order = b.order;
      opened = length b.parts;
      pcr = b.pcr;
      results = length b.results;
      wafers = length b.wafers;
    }

-- a record is accepted, and told; or refused, with its number and what that carries
abbrev pub heard_by : ℕ → List Said → List ℕ → Heard (List Said) Saying
heard_by slot es rec =
    let n = record_number es slot rec in
    cond (eqb n 0) (Kept (es ++ (said (Deliver slot rec) (Told Done) ∷ [])))
    (Turned (n, carried_by es n (Deliver slot rec)))

abbrev pub hearing_by : ℕ → Machine (List Said) Saying
hearing_by slot = cutting (λ es. standing_in (book_of slot es)) longest (3, None) (heard_by slot)

abbrev pub feed_walk : List Call → ℕ → List ℕ → Walked (List Said) Saying
feed_walk calls slot chunk =
    walked (hearing_by slot) (Waits (told calls) []) (held_at (reached fresh calls) slot ++ chunk)

-- what a reply says: a number and what it carries, and how many bytes were taken
pub record Says : Type 0 where
  pub saying : Saying
  pub taken : ℕ

abbrev pub says : Saying → ℕ → Says
says s n = record { saying = s; taken = n }

abbrev pub says_of : Reply → Says
says_of (Replied r) = says (saying_of (asked.answer_of r)) 0
says_of (Took a taken) = says (saying_of a) taken
says_of (Ended a) = says (saying_of a) 0

-- of a chunk of so many bytes all are taken, or those up to the end of a refused record
abbrev pub walk_says : ℕ → Walked (List Said) Saying → Says
walk_says n (Waits es part) = says (0, None) n
walk_says n (Stops es rec s rest) = says s (n - length rest)

-- Order of checks, Feed: 1, 2, 17, then the records, up to the first that is refused
abbrev pub FeedTold : Type 0
FeedTold = (calls : List Call) (slot long : ℕ) (chunk : List ℕ) → AllSent calls → Bytes chunk
    → says_of (reply (reached fresh calls) (Feed slot long chunk))
    ≡ checked (λ (n : ℕ). says (n, None) 0)
    ((ltb slot slot_count else 1) ∷ ((book_at slot calls).opened else 2) ∷ (eqb long carry_length else 17) ∷ [])
    (walk_says (length chunk) (feed_walk calls slot chunk))

-- Order of checks, End of feeding: 1, 2, 3 while the carry holds bytes
abbrev pub EndTold : Type 0
EndTold = (calls : List Call) (slot : ℕ) → AllSent calls
    → number_told calls (End slot)
    ≡ number_by
    ((ltb slot slot_count else 1)
    ∷ ((book_at slot calls).opened else 2)
    ∷ (eqb (length (held_at (reached fresh calls) slot)) 0 else 3)
    ∷ [])
