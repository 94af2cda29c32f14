-- Demand 3 with feeds: statements only, each proved in proofs/ under its name in small letters, in Alone.antt or
-- Whole.antt. Document 01, "How the promises are held to account"; document 02, #102: chunks, other chunks and whole
-- records come to the same while the session needs no more rows than its floor.
--
--   Seat, seat_at    what a record reads and changes of its slot: floor, session and rows
--   within          whether an open session needs no more rows than its floor at a call, at each record of a feed
--   course          how it goes with a session while it is open and within its floor: each reply, and the seat after it
--   assured         the replies of a course
--   ended           what is the same however the bytes are cut: what is reported, up to the first refusal, and the seat
--   Exact           records of the length that their session needs, each at its turn
-- Assumes nothing.
use Rattle.std.specs.Prelude.{◌≡◌, Bool, true, cond, ◌&&◌, List, [], ◌∷◌, ◌++◌, map, ℕ, leb, eqb, length}
use Rattle.answers.specs.declared.Answer.{Answer}
use Rattle.answers.specs.declared.Answer.TheVariants.{Done}
use Rattle.answers.specs.Numbers.{number_of}
use Rattle.rows.specs.Rows.{held_by}
use Rattle.rows.specs.Counts.{Count, rows_by}
use Rattle.session.specs.declared.Session.{Session}
use Rattle.session.specs.Session.{begun}
use Rattle.session.specs.Verdicts.{verdict_number}
use Rattle.settling.specs.Settling as settling
use Rattle.judging.specs.Judge.{verdict_on}
use Rattle.cutting.specs.Needed.{needed}
use Rattle.cutting.specs.Walk.{Waits, all_fit, joined}
use Rattle.house.specs.declared.House.{House}
use Rattle.house.specs.declared.Row.{Row}
use Rattle.house.specs.House.{carry_length, keys_of, counts_of}
use Rattle.house.specs.Calls.{slot_at}
use Rattle.house.specs.Feeding.{hearing}
use Rattle.house.specs.Demands.{needs}
use Rattle.house.specs.History as calls
use Rattle.nights.specs.Night.{Night, fresh, held_at, Call, Asked, Feed, End, Reply, Replied, Took, Ended}
use Rattle.nights.specs.Night.{answer_of, reply, after, reached, names, named, AllSent}

-- ---- a slot by itself

pub record Seat : Type 0 where
  pub floor : ℕ
  pub session : Session
  pub rows : List Count

abbrev pub seat_at : Night → ℕ → Seat
seat_at n slot =
    let h = n.house in
    record {
      floor = (slot_at h slot).floor;
      session = (slot_at h slot).session;
      rows = rows_by slot (keys_of h) (counts_of h);
    }

-- ---- within its floor

-- at a record of a feed it needs what it would need were the record delivered
abbrev pub fits_in : ℕ → House → List ℕ → Bool
fits_in slot h rec = leb (needs h slot (calls.Deliver slot rec)) (slot_at h slot).floor

-- at a feed: the rows that it holds and, at each record judged in it, the new one that it asks for, granted or not;
-- with a carry of another length, 17, none is judged
abbrev pub within : Night → ℕ → Call → Bool
within n slot (Asked c) = leb (needs n.house slot c) (slot_at n.house slot).floor
within n slot (Feed i long chunk) =
    leb (held_by slot (keys_of n.house)) (slot_at n.house slot).floor
    && cond (eqb long carry_length)
    (all_fit (hearing slot) (fits_in slot) (Waits n.house []) (held_at n slot ++ chunk)) true
within n slot (End i) = leb (held_by slot (keys_of n.house)) (slot_at n.house slot).floor

-- No call is left; or the next finds the slot closed or needs more rows than its floor, and nothing is promised from
-- there on; or a call is answered, and it goes on.
pub data Course : Type 0 where
  Stays : Seat → Course
  Beyond : Course
  Goes : Reply → Seat → Course → Course

-- of the calls that name a slot, whatever the calls of others between them
abbrev pub course : ℕ → Night → List Call → Course
course slot n [] = Stays (seat_at n slot)
course slot n (c ∷ cs) =
    cond (names slot c)
    (cond ((slot_at n.house slot).taken && within n slot c)
    (Goes (reply n c) (seat_at (after n c) slot) (course slot (after n c) cs)) Beyond)
    (course slot (after n c) cs)

abbrev pub replies : Course → List Reply
replies (Stays s) = []
replies Beyond = []
replies (Goes r s next) = r ∷ replies next

abbrev pub assured : ℕ → Night → List Call → List Reply
assured slot n cs = replies (course slot n cs)

-- ---- demand 3: on its own calls alone

abbrev pub opening : ℕ → ℕ → Call
opening slot floor = Asked (calls.Open slot floor)

abbrev pub opened : List Call → ℕ → ℕ → Night
opened past slot floor = after (reached fresh past) (opening slot floor)

abbrev pub Granted : List Call → ℕ → ℕ → Type 0
Granted past slot floor = answer_of (reply (reached fresh past) (opening slot floor)) ≡ Done

-- once its opening is granted, how it goes with a session is the same in any two nights that agree on the calls that
-- name it, ..
abbrev pub SameCourse : Type 0
SameCourse = (past other : List Call) (slot floor : ℕ) (cs ds : List Call) → AllSent past → AllSent other → AllSent cs
    → AllSent ds → Granted past slot floor → Granted other slot floor → named slot cs ≡ named slot ds
    → course slot (opened past slot floor) cs ≡ course slot (opened other slot floor) ds

-- .. so that its answers, its reports and the bytes taken of it are
abbrev pub Isolated : Type 0
Isolated = (past other : List Call) (slot floor : ℕ) (cs ds : List Call) → AllSent past → AllSent other → AllSent cs
    → AllSent ds → Granted past slot floor → Granted other slot floor → named slot cs ≡ named slot ds
    → assured slot (opened past slot floor) cs ≡ assured slot (opened other slot floor) ds

-- ---- #102: chunks, other chunks and whole records

-- How a course ends: beyond its floor or closed; at the first refusal, or with its last call, 0, and the seat then.
-- Reports are kept on the way.
pub data Ends : Type 0 where
  Over : Ends
  At : Answer → Seat → Ends
  Lists : List Row → Ends → Ends

abbrev pub end_on : Answer → Seat → Ends → Ends
end_on a s next = cond (eqb (number_of a) 0) next (At a s)

abbrev pub end_by : Reply → Seat → Ends → Ends
end_by (Replied (calls.Told a)) s next = end_on a s next
end_by (Replied (calls.Listed a rows)) s next = end_on a s (Lists rows next)
end_by (Replied (calls.Read f)) s next = end_on f.answer s next
end_by (Took a taken) s next = end_on a s next
end_by (Ended a) s next = end_on a s next

abbrev pub ended : Course → Ends
ended (Stays s) = At Done s
ended Beyond = Over
ended (Goes r s next) = end_by r s (ended next)

-- whole records: each is as long as its session needs, once the one before it passed all checks but that for room
abbrev pub Exact : Session → List (List ℕ) → Type 0
Exact s [] = Unit
Exact s (r ∷ rs) =
    (needed s.standing r ≡ length r)
    × (verdict_number (verdict_on s r) ≡ 0 → Exact (settling.after s (verdict_on s r)) rs)

abbrev pub feeds : ℕ → List (List ℕ) → List Call
feeds slot chunks = map (λ (c : List ℕ). Feed slot carry_length c) chunks

abbrev pub deliveries : ℕ → List (List ℕ) → List Call
deliveries slot rs = map (λ (r : List ℕ). Asked (calls.Deliver slot r)) rs

-- Two sessions opened with one floor, among any other sessions' calls. One is fed chunks, the other delivered the same
-- bytes as whole records, and then both are asked the same: they end the same, with the same answer and reports, at the
-- same place, with the same rows.
abbrev pub FedAsWhole : Type 0
FedAsWhole = (past other : List Call) (slot floor : ℕ) (cs ds : List Call) (chunks rs : List (List ℕ))
    (later : List Call) → AllSent past → AllSent other → AllSent cs → AllSent ds → Granted past slot floor
    → Granted other slot floor → named slot cs ≡ feeds slot chunks ++ later
    → named slot ds ≡ deliveries slot rs ++ later → Exact begun rs → joined chunks ≡ joined rs
    → ended (course slot (opened past slot floor) cs) ≡ ended (course slot (opened other slot floor) ds)

-- .. and so are two that are fed the same bytes, cut in any two ways, the last record whole or not
abbrev pub FedCuttings : Type 0
FedCuttings = (past other : List Call) (slot floor : ℕ) (cs ds : List Call) (chunks pieces : List (List ℕ))
    (later : List Call) → AllSent past → AllSent other → AllSent cs → AllSent ds → Granted past slot floor
    → Granted other slot floor → named slot cs ≡ feeds slot chunks ++ later
    → named slot ds ≡ feeds slot pieces ++ later → joined chunks ≡ joined pieces
    → ended (course slot (opened past slot floor) cs) ≡ ended (course slot (opened other slot floor) ds)
