-- Sequences of calls. Document 01, "The house, its slots and its rows", Calls: what is asked of a house, what it
-- answers, and the house after it.
--
--   Call, Reply     the five calls, and what each is answered
--   reply, after    a house's reply to a call, and the house after it
--   reached         the house after a sequence of calls
--   history         the calls of a sequence, each with its reply
--   names, named    whether a call names a slot, and the calls that do
--   AllSent         that what is delivered is bytes
-- Assumes nothing.
use Rattle.std.specs.Prelude.{Bool, false, cond, List, [], ◌∷◌, ℕ, eqb}
use Rattle.numbers.specs.Laws.{Bytes}
use Rattle.answers.specs.declared.Answer.{Answer}
use Rattle.house.specs.declared.House.{House}
use Rattle.house.specs.declared.Row.{Row}
use Rattle.house.specs.declared.Figures.{Figures}
use Rattle.house.specs.Calls.{open_slot, close_slot, deliver, figures_of}
use Rattle.house.specs.Report.{row_at, reported, listed}

-- a report is asked for with the room that there is for its rows
pub data Call : Type 0 where
  Open : ℕ → ℕ → Call
  Deliver : ℕ → List ℕ → Call
  Report : ℕ → ℕ → Call
  Close : ℕ → Call
  Figured : Call

pub data Reply : Type 0 where
  Told : Answer → Reply
  Listed : Answer → List Row → Reply
  Read : Figures → Reply

abbrev pub answer_of : Reply → Answer
answer_of (Told a) = a
answer_of (Listed a rows) = a
answer_of (Read f) = f.answer

abbrev pub reply : House → Call → Reply
reply h (Open slot floor) = Told (open_slot h slot floor).answer
reply h (Deliver slot rec) = Told (deliver h slot rec).answer
reply h (Report slot long) =
    Listed (reported h slot long).answer (listed (row_at h slot) (reported h slot long).rows)
reply h (Close slot) = Told (close_slot h slot).answer
reply h Figured = Read (figures_of h)

-- report and figures give no house back, so they change none
abbrev pub after : House → Call → House
after h (Open slot floor) = (open_slot h slot floor).house
after h (Deliver slot rec) = (deliver h slot rec).house
after h (Report slot long) = h
after h (Close slot) = (close_slot h slot).house
after h Figured = h

abbrev pub reached : House → List Call → House
reached h [] = h
reached h (c ∷ cs) = reached (after h c) cs

pub record Said : Type 0 where
  pub call : Call
  pub reply : Reply

abbrev pub said : Call → Reply → Said
said c r = record { call = c; reply = r }

abbrev pub history : House → List Call → List Said
history h [] = []
history h (c ∷ cs) = said c (reply h c) ∷ history (after h c) cs

-- figures name no slot: they are the operator's
abbrev pub names : ℕ → Call → Bool
names slot (Open i floor) = eqb i slot
names slot (Deliver i rec) = eqb i slot
names slot (Report i long) = eqb i slot
names slot (Close i) = eqb i slot
names slot Figured = false

abbrev pub named : ℕ → List Call → List Call
named slot [] = []
named slot (c ∷ cs) = cond (names slot c) (c ∷ named slot cs) (named slot cs)

abbrev pub Sent : Call → Type 0
Sent (Open slot floor) = Unit
Sent (Deliver slot rec) = Bytes rec
Sent (Report slot long) = Unit
Sent (Close slot) = Unit
Sent Figured = Unit

abbrev pub AllSent : List Call → Type 0
AllSent [] = Unit
AllSent (c ∷ cs) = Sent c × AllSent cs
