-- All that a night's calls and their answers tell, by them alone: no definition here looks at a house or a carry.
-- Document 02, #102. What specs/Told.antt says of the calls that are told and of the bytes that are held, it so says of
-- calls and answers. Definitions and a statement, proved in proofs/Telling.antt under its name in small letters.
--
--   Telling    the calls of the house and their replies, the records of feeds among them, and the bytes held of each
--              slot
--   told_by     .. after one more call and its reply
--   telling    .. after all of a history
-- Assumes nothing.
use Rattle.std.specs.Prelude.{◌≡◌, Bool, cond, ◌&&◌, List, [], ◌∷◌, ◌++◌, ℕ, ◌-◌, ◌<◌, eqb, ltb, length, take, get_or, set, replicate}
use Rattle.answers.specs.declared.Answer.{Answer}
use Rattle.answers.specs.declared.Saying.{Saying}
use Rattle.rows.specs.Rows.{slot_count}
use Rattle.cutting.specs.Walk.{Walked, Waits, Stops, walked}
use Rattle.house.specs.House.{carry_length}
use Rattle.house.specs.History as asked
use Rattle.house.specs.History.{Open, Deliver, Report, Close, Figured, Told, said}
use Rattle.house.specs.Tally.{is_done}
use Rattle.books.specs.Book.{book_of}
use Rattle.nights.specs.Night.{fresh, held_at, Call, Asked, Feed, End, Reply, Replied, Took, Ended, answer_of}
use Rattle.nights.specs.Night.{reached, Said, history, AllSent}
use Rattle.nights.specs.Spelled.{told}
use Rattle.nights.specs.Told.{hearing_by}

pub record Telling : Type 0 where
  pub past : List asked.Said
  pub held : List (List ℕ)

abbrev pub nothing_told : Telling
nothing_told = record { past = []; held = replicate slot_count [] }

abbrev pub held_of : Telling → ℕ → List ℕ
held_of t slot = get_or t.held slot []

-- ---- a call of the house

-- no byte is held for a slot just opened or closed
abbrev pub emptied : asked.Call → List (List ℕ) → List (List ℕ)
emptied (Open slot floor) held = set held slot []
emptied (Deliver slot rec) held = held
emptied (Report slot long) held = held
emptied (Close slot) held = set held slot []
emptied Figured held = held

abbrev pub asked_by : asked.Said → Telling → Telling
asked_by e t =
    record { past = t.past ++ (e ∷ []); held = cond (is_done e) (emptied e.call t.held) t.held }

abbrev pub replied_by : Reply → asked.Reply
replied_by (Replied r) = r
replied_by (Took a taken) = Told a
replied_by (Ended a) = Told a

-- ---- a feed

-- the records accepted, then the refused one with the answer to the feed
abbrev pub walk_past : ℕ → Answer → Walked (List asked.Said) Saying → List asked.Said
walk_past slot a (Waits es part) = es
walk_past slot a (Stops es rec s rest) = es ++ (said (Deliver slot rec) (Told a) ∷ [])

-- a record that is not whole, or a refused one with what was held behind it
abbrev pub walk_held : ℕ → Walked (List asked.Said) Saying → List ℕ
walk_held n (Waits es part) = part
walk_held n (Stops es rec s rest) = rec ++ take (length rest - n) rest

abbrev pub fed_by : ℕ → List ℕ → Answer → Telling → Telling
fed_by slot chunk a t =
    let w = walked (hearing_by slot) (Waits t.past []) (held_of t slot ++ chunk) in
    record { past = walk_past slot a w; held = set t.held slot (walk_held (length chunk) w) }

-- whether a record is judged: the slot is there and open, and its carry as long as it must be
abbrev pub judges : Telling → ℕ → ℕ → Bool
judges t slot long = ltb slot slot_count && ((book_of slot t.past).opened && eqb long carry_length)

-- ---- all calls

abbrev pub told_by : Call → Reply → Telling → Telling
told_by (Asked c) r t = asked_by (said c (replied_by r)) t
told_by (Feed slot long chunk) r t = cond (judges t slot long) (fed_by slot chunk (answer_of r) t) t
told_by (End slot) r t = t

abbrev pub telling_from : List Said → Telling → Telling
telling_from [] t = t
telling_from (e ∷ es) t = telling_from es (told_by e.call e.reply t)

abbrev pub telling : List Said → Telling
telling es = telling_from es nothing_told

-- so calls and answers tell the calls that feeds are spelled out as, their replies, and the bytes held
abbrev pub ToldAlone : Type 0
ToldAlone = (calls : List Call) → AllSent calls
    → ((telling (history fresh calls)).past ≡ told calls)
    × ((slot : ℕ) → slot < slot_count → held_of (telling (history fresh calls)) slot ≡ held_at (reached fresh calls) slot)
