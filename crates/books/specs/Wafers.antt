-- Open wafers, by the book of a slot. Document 02, #103. Definitions and statements, over any sequence of calls from a
-- fresh house; each is proved in proofs/Wafers.antt under its name in small letters. What the open wafers are, of the
-- accepted records, is WafersMean of specs/Meaning.antt.
--
--   Arrives      that a record passes every check before those of its kind's own
--   wir_number    what a WIR is then answered, wrr_number a WRR, mrr_number an MRR
--   WafersRight  at most 8, one a head, none but in the body of an open slot's stream
-- Assumes nothing.
use Rattle.std.specs.Prelude.{◌≡◌, true, false, not, ◌||◌, List, [], ◌∷◌, ℕ, ◌≤◌, ◌<◌, eqb, ltb, length}
use Rattle.prelude.specs.Checks.{◌else◌, number_by}
use Rattle.numbers.specs.Laws.{Bytes}
use Rattle.bodies.specs.declared.Wafer.{Wafer}
use Rattle.bodies.specs.declared.Record.{Record}
use Rattle.bodies.specs.declared.Record.TheVariants as said
use Rattle.order.specs.Order.{goes, in_place}
use Rattle.order.specs.Laws.{before, ended}
use Rattle.session.specs.Session.{most_wafers, is_start}
use Rattle.rows.specs.Rows.{slot_count}
use Rattle.house.specs.House.{fresh}
use Rattle.house.specs.History.{Call, Deliver, history, AllSent}
use Rattle.books.specs.Book.{Book, is_open, on_head, kind_in, said_in, book_of}
use Rattle.books.specs.Told.{number_told}
use Rattle.books.specs.Meaning.{LaterRight}

-- ---- what a record is answered

-- the slot is open, its stream has begun, and the record is one, in its place, whose body fits and says r
pub record Arrives (b : Book) (slot : ℕ) (rec : List ℕ) (r : Record) : Type 0 where
  pub inside : slot < slot_count
  pub opened : b.opened ≡ true
  pub begun : is_start b.place ≡ false
  pub right : LaterRight b.order rec
  pub placed : in_place (goes b.place (kind_in rec)) ≡ true
  pub says : said_in b rec ≡ r

-- 22 while a wafer is open on its head, then 23 while 8 are open
abbrev pub wir_number : Book → Wafer → ℕ
wir_number b w =
    number_by ((not (on_head b.wafers w.head) else 22) ∷ (ltb (length b.wafers) most_wafers else 23) ∷ [])

-- 22 unless the wafer of its head is open, with its site group
abbrev pub wrr_number : Book → Wafer → ℕ
wrr_number b w = number_by ((is_open b.wafers w.head w.group else 22) ∷ [])

-- 12 while a part is open, then 33 while a wafer is, then 20 while no PCR was accepted
abbrev pub mrr_number : Book → ℕ
mrr_number b =
    number_by ((eqb (length b.parts) 0 else 12) ∷ (eqb (length b.wafers) 0 else 33) ∷ (b.pcr else 20) ∷ [])

abbrev pub WirTold : Type 0
WirTold = (calls : List Call) (slot : ℕ) (rec : List ℕ) (w : Wafer) → AllSent calls → Bytes rec
    → let b = book_of slot (history fresh calls) in
    Arrives b slot rec (said.Wir w) → number_told calls (Deliver slot rec) ≡ wir_number b w

abbrev pub WrrTold : Type 0
WrrTold = (calls : List Call) (slot : ℕ) (rec : List ℕ) (w : Wafer) → AllSent calls → Bytes rec
    → let b = book_of slot (history fresh calls) in
    Arrives b slot rec (said.Wrr w) → number_told calls (Deliver slot rec) ≡ wrr_number b w

abbrev pub MrrTold : Type 0
MrrTold = (calls : List Call) (slot : ℕ) (rec : List ℕ) → AllSent calls → Bytes rec
    → let b = book_of slot (history fresh calls) in
    Arrives b slot rec said.Mrr → number_told calls (Deliver slot rec) ≡ mrr_number b

-- ---- which wafers are open

-- a slot that is closed, or was just opened, has the book of a stream that has not begun
pub record WafersRight (b : Book) : Type 0 where
  pub few : length b.wafers ≤ most_wafers
  pub apart : (head group group' : ℕ) → is_open b.wafers head group ≡ true → is_open b.wafers head group' ≡ true
      → group ≡ group'
  pub none : (before b.place || ended b.place) ≡ true → b.wafers ≡ []

abbrev pub WafersKept : Type 0
WafersKept = (calls : List Call) (slot : ℕ) → AllSent calls → WafersRight (book_of slot (history fresh calls))
