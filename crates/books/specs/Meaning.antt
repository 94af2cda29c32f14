-- What the book of a slot means, said of the records that were accepted: of their kinds, and of what their bytes say.
-- Document 01, "Order of a stream" and "Record frame and kinds". Definitions and statements; each is proved in
-- proofs/Meaning.antt or, over calls from a fresh house, in proofs/Spelling.antt and proofs/Right.antt, under its name
-- in small letters.
--
--   accepted    the records of a slot that were accepted since its opening, the last first
--   kinds_of     their kinds, the first first
--   told_order   the byte order that the first of them told
--   readings    what those behind the first say in that order, the last first
--   last_opens   whether the last of effects that is about a part, or a wafer, opened it
--   any_pcr      whether one of the readings is a PCR; results_of, the part results among them
--   EachRight   that each of the accepted records is right in itself; some_kind, whether the kind of one passes a test
-- Assumes nothing.
use Rattle.std.specs.Prelude.{◌≡◌, Bool, true, false, cond, ◌&&◌, ◌||◌, List, [], ◌∷◌, ◌++◌, map, reverse, ℕ, eqb}
use Rattle.numbers.specs.declared.Order.{Order}
use Rattle.numbers.specs.declared.Order.TheVariants.{HighFirst}
use Rattle.numbers.specs.Laws.{Bytes}
use Rattle.kinds.specs.declared.Kind.{Kind}
use Rattle.kinds.specs.declared.Kind.TheVariants.{Far, Atr, Mir, Mrr, Pcr, Hbr, Sbr, Rdr, Sdr, Pir, Prr, Wir, Wrr}
use Rattle.kinds.specs.declared.Kind.TheVariants.{Remaining, Custom, Unknown}
use Rattle.kinds.specs.Kinds.{known}
use Rattle.frames.specs.Frames.{body, is_record}
use Rattle.bodies.specs.declared.Record.{Record}
use Rattle.bodies.specs.Bodies.{read_body, fitting, said_of}
use Rattle.order.specs.declared.Place.TheVariants.{Start}
use Rattle.order.specs.Laws.{ended}
use Rattle.order.specs.Spelled.{is, spells, ends_with, led}
use Rattle.first_record.specs.First.{order_in}
use Rattle.first_record.specs.Laws.{FirstRight}
use Rattle.house.specs.House.{fresh}
use Rattle.house.specs.History.{Call, Open, Deliver, Report, Close, Figured, Said, names, history, AllSent}
use Rattle.tallies.specs.Results.{PartResult}
use Rattle.house.specs.Tally.{is_done}
use Rattle.books.specs.Book.{is_open, kind_in, results_in, Effect, Opening, Closing, Neither, on_parts, on_wafers}
use Rattle.books.specs.Book.{is_pcr, book_of}
use Rattle.books.specs.Told.{number_told}

-- ---- the accepted records

-- what a call that is done makes of them: a slot opened starts anew
abbrev pub taken_by : Call → List (List ℕ) → List (List ℕ)
taken_by (Open slot floor) recs = []
taken_by (Deliver slot rec) recs = rec ∷ recs
taken_by (Report slot long) recs = recs
taken_by (Close slot) recs = []
taken_by Figured recs = recs

abbrev pub taken : ℕ → Said → List (List ℕ) → List (List ℕ)
taken slot e recs = cond (names slot e.call && is_done e) (taken_by e.call recs) recs

abbrev pub accepted_from : ℕ → List Said → List (List ℕ) → List (List ℕ)
accepted_from slot [] recs = recs
accepted_from slot (e ∷ es) recs = accepted_from slot es (taken slot e recs)

abbrev pub accepted : ℕ → List Said → List (List ℕ)
accepted slot es = accepted_from slot es []

-- ---- what they are, and what they say

abbrev pub kinds_of : List (List ℕ) → List Kind
kinds_of recs = reverse (map kind_in recs)

abbrev pub told_order : List (List ℕ) → Order
told_order [] = HighFirst
told_order (rec ∷ []) = order_in rec
told_order (rec ∷ before ∷ recs) = told_order (before ∷ recs)

-- the first tells the order, and no more
abbrev pub readings : List (List ℕ) → List Record
readings [] = []
readings (rec ∷ []) = []
readings (rec ∷ before ∷ recs) =
    said_of (read_body (told_order (before ∷ recs)) (kind_in rec) (body rec)) ∷ readings (before ∷ recs)

-- an effect is about a part, or a wafer, that it opens or closes
abbrev pub about : ℕ → ℕ → Effect → Bool
about head site (Opening h s) = eqb h head && eqb s site
about head site (Closing h s) = eqb h head && eqb s site
about head site Neither = false

abbrev pub is_opening : Effect → Bool
is_opening (Opening h s) = true
is_opening (Closing h s) = false
is_opening Neither = false

-- the last that is about it opened it; what none is about is not open
abbrev pub last_opens : ℕ → ℕ → List Effect → Bool
last_opens head site [] = false
last_opens head site (x ∷ xs) = cond (about head site x) (is_opening x) (last_opens head site xs)

abbrev pub any_pcr : List Record → Bool
any_pcr [] = false
any_pcr (r ∷ rs) = is_pcr r || any_pcr rs

abbrev pub results_of : List Record → List PartResult
results_of [] = []
results_of (r ∷ rs) = results_in r ++ results_of rs

-- ---- what the book means, whatever was called and answered

-- the open parts are those that a PIR opened and no PRR has closed since
abbrev pub PartsMean : Type 0
PartsMean = (slot : ℕ) (es : List Said) (head site : ℕ)
    → is_open (book_of slot es).parts head site ≡ last_opens head site (map on_parts (readings (accepted slot es)))

-- #103: the open wafers are those that a WIR opened and no WRR of their head and site group has closed since
abbrev pub WafersMean : Type 0
WafersMean = (slot : ℕ) (es : List Said) (head group : ℕ)
    → is_open (book_of slot es).wafers head group ≡ last_opens head group (map on_wafers (readings (accepted slot es)))

-- a PCR was accepted exactly if one stands among the records
abbrev pub PcrMeans : Type 0
PcrMeans = (slot : ℕ) (es : List Said) → (book_of slot es).pcr ≡ any_pcr (readings (accepted slot es))

-- the part results are the PRRs among them
abbrev pub ResultsMean : Type 0
ResultsMean = (slot : ℕ) (es : List Said) → (book_of slot es).results ≡ results_of (readings (accepted slot es))

-- the place is where their kinds lead
abbrev pub PlaceMeans : Type 0
PlaceMeans = (slot : ℕ) (es : List Said) → (book_of slot es).place ≡ led Start (kinds_of (accepted slot es))

-- ---- what it means over calls from a fresh house

-- the kinds of the accepted records spell the order of a stream, which has ended exactly if the last is MRR
abbrev pub KindsSpell : Type 0
KindsSpell = (calls : List Call) (slot : ℕ) → AllSent calls
    → let es = history fresh calls in
    (spells (kinds_of (accepted slot es)) ≡ true)
    × (ended (book_of slot es).place ≡ ends_with (is Mrr) (kinds_of (accepted slot es)))

-- each such order is accepted as far as its places go: where one more kind spells on, the answer is not 8
abbrev pub SpellsOn : Type 0
SpellsOn = (calls : List Call) (slot : ℕ) (rec : List ℕ) → AllSent calls → Bytes rec
    → spells (kinds_of (rec ∷ accepted slot (history fresh calls))) ≡ true
    → number_told calls (Deliver slot rec) ≡ 8 → ⊥

-- every accepted record is exactly one record and its body fits, in the byte order that the first of them told; the
-- first is a FAR, and each later one of a known kind
pub record LaterRight (order : Order) (rec : List ℕ) : Type 0 where
  pub one : is_record order rec ≡ true
  pub named : known (kind_in rec) ≡ true
  pub fits : fitting (read_body order (kind_in rec) (body rec)) ≡ true

abbrev pub EachRight : List (List ℕ) → Type 0
EachRight [] = Unit
EachRight (rec ∷ []) = FirstRight rec
EachRight (rec ∷ before ∷ recs) = LaterRight (told_order (before ∷ recs)) rec × EachRight (before ∷ recs)

abbrev pub AcceptedRight : Type 0
AcceptedRight = (calls : List Call) (slot : ℕ) → AllSent calls → EachRight (accepted slot (history fresh calls))

-- so by their kinds alone: a PCR was accepted exactly if one of them is of that kind
abbrev pub pcr_kind : Kind → Bool
pcr_kind Pcr = true
pcr_kind Far = false
pcr_kind Atr = false
pcr_kind Mir = false
pcr_kind Mrr = false
pcr_kind Hbr = false
pcr_kind Sbr = false
pcr_kind Rdr = false
pcr_kind Sdr = false
pcr_kind Pir = false
pcr_kind Prr = false
pcr_kind Wir = false
pcr_kind Wrr = false
pcr_kind (Remaining k) = false
pcr_kind Custom = false
pcr_kind Unknown = false

abbrev pub some_kind : (Kind → Bool) → List (List ℕ) → Bool
some_kind test [] = false
some_kind test (rec ∷ recs) = test (kind_in rec) || some_kind test recs

abbrev pub PcrStands : Type 0
PcrStands = (calls : List Call) (slot : ℕ) → AllSent calls
    → let es = history fresh calls in
    (book_of slot es).pcr ≡ some_kind pcr_kind (accepted slot es)
