-- A night's calls with each feed spelled out as the deliveries of its records: what the demands of document 01, stated
-- over the calls of a house, are taken over where streams are fed. Document 02, #102. Definitions and statements; each
-- is proved in proofs/Spelled.antt under its name in small letters.
--
--   delivers    records delivered to a slot, one after the other
--   judged_in    the records that a feed judges
--   spelled     the calls of a sequence, each feed as its deliveries
--   told        .. with the replies of a house to them: all that calls and answers tell
-- Assumes nothing.
use Rattle.std.specs.Prelude.{◌≡◌, cond, List, [], ◌∷◌, ◌++◌, map, ℕ}
use Rattle.prelude.specs.All.{all}
use Rattle.prelude.specs.Checks.{tests}
use Rattle.cutting.specs.Walk.{Waits, records}
use Rattle.house.specs.House as house
use Rattle.house.specs.Feeding.{hearing, feed_checks}
use Rattle.house.specs.History as asked
use Rattle.house.specs.Laws.{bare}
use Rattle.nights.specs.Night.{Night, fresh, held_at, Call, Asked, Feed, End, Replied, reply, after, reached}
use Rattle.nights.specs.Night.{AllSent}

abbrev pub delivers : ℕ → List (List ℕ) → List asked.Call
delivers slot recs = map (asked.Deliver slot) recs

-- those that the held bytes and the chunk are cut into, up to the first that is refused, which is among them
abbrev pub judged_in : Night → ℕ → List ℕ → List (List ℕ)
judged_in n slot chunk = records (hearing slot) (Waits n.house []) (held_at n slot ++ chunk)

-- a feed that is refused before a record is judged delivers none; the end of feeding changes nothing
abbrev pub spelled_by : Night → Call → List asked.Call
spelled_by n (Asked c) = c ∷ []
spelled_by n (Feed slot long chunk) =
    cond (all (tests (feed_checks n.house slot long))) (delivers slot (judged_in n slot chunk)) []
spelled_by n (End slot) = []

abbrev pub spelled : Night → List Call → List asked.Call
spelled n [] = []
spelled n (c ∷ cs) = spelled_by n c ++ spelled (after n c) cs

-- what is delivered so is bytes
abbrev pub SpelledSent : Type 0
SpelledSent = (calls : List Call) → AllSent calls → asked.AllSent (spelled fresh calls)

-- the house is the one that these deliveries make, but for what is held
abbrev pub SpelledOut : Type 0
SpelledOut = (calls : List Call) → AllSent calls
    → bare (reached fresh calls).house ≡ asked.reached house.fresh (spelled fresh calls)

-- .. so a call of the house is answered as after them
abbrev pub AskedTold : Type 0
AskedTold = (calls : List Call) (c : asked.Call) → AllSent calls
    → reply (reached fresh calls) (Asked c)
    ≡ Replied (asked.reply (asked.reached house.fresh (spelled fresh calls)) c)

-- all that calls and answers tell, the records of feeds among them
abbrev pub told : List Call → List asked.Said
told calls = asked.history house.fresh (spelled fresh calls)
