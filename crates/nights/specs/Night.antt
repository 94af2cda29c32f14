-- A night: a house and, for each of its slots, what its session lends. Document 02, #102; document 01, Calls.
-- Statements over sequences of calls take what is lent as that slot's last call left it.
--
--   Night           the house, and of each carry the bytes that were left in it
--   held_at          the bytes of a slot's carry that are held: its first, as many as the house says
--   Call, Reply     a call of the house, a feed and the end of feeding, and what each is answered
--   next            a night's reply to a call, and the night after it; reply, after
--   reached         the night after a sequence of calls
--   history         the calls of a sequence, each with its reply
--   names, named    whether a call names a slot, and the calls that do
--   AllSent         that what is delivered and fed is bytes
-- Assumes nothing.
use Rattle.std.specs.Prelude.{Bool, cond, List, [], ◌∷◌, ℕ, eqb, get_or, set, replicate}
use Rattle.prelude.specs.Checks.{checked}
use Rattle.numbers.specs.Laws.{Bytes}
use Rattle.answers.specs.declared.Answer.{Answer}
use Rattle.rows.specs.Rows.{slot_count}
use Rattle.house.specs.declared.House.{House}
use Rattle.house.specs.House as house
use Rattle.house.specs.Feeding.{held_in, fed_to, feed_checks, end_feed}
use Rattle.house.specs.History as calls

-- Of a carry, the bytes that its slot's last feed left there. What stands behind them in the lent memory is not read by
-- any call (FeedLent), and no promise says what it is.
pub record Night : Type 0 where
  pub house : House
  pub carries : List (List ℕ)

abbrev pub night : House → List (List ℕ) → Night
night h carries = record { house = h; carries = carries }

-- nothing was lent yet
abbrev pub fresh : Night
fresh = night house.fresh (replicate slot_count [])

abbrev pub carry_at : Night → ℕ → List ℕ
carry_at n slot = get_or n.carries slot []

abbrev pub held_at : Night → ℕ → List ℕ
held_at n slot = held_in n.house slot (carry_at n slot)

-- ---- calls

-- a feed is told the slot, how many bytes are lent as its carry, and the chunk
pub data Call : Type 0 where
  Asked : calls.Call → Call
  Feed : ℕ → ℕ → List ℕ → Call
  End : ℕ → Call

-- a feed is answered with the bytes that it took
pub data Reply : Type 0 where
  Replied : calls.Reply → Reply
  Took : Answer → ℕ → Reply
  Ended : Answer → Reply

abbrev pub answer_of : Reply → Answer
answer_of (Replied r) = calls.answer_of r
answer_of (Took a taken) = a
answer_of (Ended a) = a

pub record Next : Type 0 where
  pub reply : Reply
  pub night : Night

abbrev pub next_as : Reply → Night → Next
next_as r n = record { reply = r; night = n }

-- the records that the held bytes and the chunk are cut into, up to the first refused
abbrev pub feed_done : Night → ℕ → List ℕ → Next
feed_done n slot chunk =
    let f = fed_to n.house slot (held_at n slot) chunk in
    next_as (Took f.answer f.taken) (night f.house (set n.carries slot f.held))

unfoldable pub feed_next : Night → ℕ → ℕ → List ℕ → Next
feed_next n slot long chunk =
    checked (λ (a : Answer). next_as (Took a 0) n) (feed_checks n.house slot long) (feed_done n slot chunk)

-- a call of the house touches no carry: when a slot is opened or closed, the house says that no byte is held
abbrev pub next : Night → Call → Next
next n (Asked c) = next_as (Replied (calls.reply n.house c)) (night (calls.after n.house c) n.carries)
next n (Feed slot long chunk) = feed_next n slot long chunk
next n (End slot) = next_as (Ended (end_feed n.house slot)) n

abbrev pub reply : Night → Call → Reply
reply n c = (next n c).reply

abbrev pub after : Night → Call → Night
after n c = (next n c).night

-- ---- sequences of calls

abbrev pub reached : Night → List Call → Night
reached n [] = n
reached n (c ∷ cs) = reached (after n c) cs

pub record Said : Type 0 where
  pub call : Call
  pub reply : Reply

abbrev pub said : Call → Reply → Said
said c r = record { call = c; reply = r }

abbrev pub history : Night → List Call → List Said
history n [] = []
history n (c ∷ cs) = said c (reply n c) ∷ history (after n c) cs

abbrev pub names : ℕ → Call → Bool
names slot (Asked c) = calls.names slot c
names slot (Feed i long chunk) = eqb i slot
names slot (End i) = eqb i slot

abbrev pub named : ℕ → List Call → List Call
named slot [] = []
named slot (c ∷ cs) = cond (names slot c) (c ∷ named slot cs) (named slot cs)

abbrev pub Sent : Call → Type 0
Sent (Asked c) = calls.Sent c
Sent (Feed slot long chunk) = Bytes chunk
Sent (End slot) = Unit

abbrev pub AllSent : List Call → Type 0
AllSent [] = Unit
AllSent (c ∷ cs) = Sent c × AllSent cs
