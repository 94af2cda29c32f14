-- What is shown of nights: statements only. Document 02, #102. Each is proved in proofs/, under its name in small
-- letters: in Keeping.antt that nights stay fine, and refusals; in Joins.antt what is lent, and cutting; in
-- Records.antt that a feed delivers records, and the bytes taken.
--
--   Fine                                            what every night reached from a fresh one is
--   taken_of, onward, fed_all                         bytes taken; feeds one after the other, up to the first refusal
--   delivered_all                                    records delivered one after the other, up to the first refusal
--   AskedRefused, FeedRefused, FeedNumber,          what a refusal leaves, and its number
--   EndNumber, EndKeeps
--   FeedLent                                        lent bytes behind those held
--   FeedJoined, AnyCutting                          cutting does not matter
--   FeedAll, FeedTaken, FeedPast, Blocked           the bytes taken, and the refused record held
--   FeedDelivers, RecordFed, RecordsFed,            a feed delivers the records that its bytes are cut into
--   CutRecordsFed
-- Assumes nothing.
use Rattle.std.specs.Prelude.{◌≡◌, true, false, cond, List, [], ◌∷◌, ◌++◌, ℕ, ◌+◌, ◌≤◌, ◌<◌, eqb, ltb, length, take}
use Rattle.prelude.specs.All.{all}
use Rattle.prelude.specs.Checks.{◌else◌, tests, number_by}
use Rattle.numbers.specs.Laws.{Bytes}
use Rattle.answers.specs.declared.Answer.TheVariants.{Done, NotSound}
use Rattle.answers.specs.Numbers.{number_of}
use Rattle.rows.specs.Rows.{slot_count}
use Rattle.cutting.specs.Needed.{needed}
use Rattle.cutting.specs.Walk.{Waits, joined, records, accepted}
use Rattle.cutting.specs.Laws.{AllBytes}
use Rattle.house.specs.declared.House.{House}
use Rattle.house.specs.declared.Answered.{Answered}
use Rattle.house.specs.House.{carry_length, sound}
use Rattle.house.specs.Calls.{slot_at, answered, deliver}
use Rattle.house.specs.Feeding.{standing_at, hearing, held_in, with_held, fed_to, feed_checks, feed}
use Rattle.house.specs.History as calls
use Rattle.house.specs.Laws.{Shaped}
use Rattle.nights.specs.Night.{Night, fresh, carry_at, held_at, Call, Asked, Feed, End, Reply, Replied, Took, Ended}
use Rattle.nights.specs.Night.{answer_of, Next, next_as, next, reply, after, reached, Sent, AllSent}

-- the house is sound, and of each slot's carry there are the bytes that the house says are held
pub record Fine (n : Night) : Type 0 where
  pub shaped : Shaped n.house
  pub sound : sound n.house ≡ true
  pub carries : length n.carries ≡ slot_count
  pub bytes : (i : ℕ) → Bytes (carry_at n i)
  pub lent : (i : ℕ) → i < slot_count → (slot_at n.house i).held ≤ length (carry_at n i)

abbrev pub FreshFine : Type 0
FreshFine = Fine fresh

-- .. and every call keeps a night so, whatever it is asked
abbrev pub AfterFine : Type 0
AfterFine = (n : Night) (c : Call) → Sent c → Fine n → Fine (after n c)

abbrev pub ReachedFine : Type 0
ReachedFine = (calls : List Call) → AllSent calls → Fine (reached fresh calls)

-- no call is ever answered with 15
abbrev pub NeverUnsound : Type 0
NeverUnsound = (calls : List Call) (c : Call) → AllSent calls → Sent c
    → answer_of (reply (reached fresh calls) c) ≡ NotSound → ⊥

-- ---- refusals

abbrev pub taken_of : Reply → ℕ
taken_of (Replied r) = 0
taken_of (Took a taken) = taken
taken_of (Ended a) = 0

-- a call of document 01 that is refused changes no night
abbrev pub AskedRefused : Type 0
AskedRefused = (n : Night) (c : calls.Call) → (calls.answer_of (calls.reply n.house c) ≡ Done → ⊥)
    → after n (Asked c) ≡ n

-- a feed that is refused before a record is judged takes no byte and changes nothing, the carry included
abbrev pub FeedRefused : Type 0
FeedRefused = (n : Night) (slot long : ℕ) (chunk : List ℕ)
    → all (tests (feed_checks n.house slot long)) ≡ false
    → (after n (Feed slot long chunk) ≡ n) × (taken_of (reply n (Feed slot long chunk)) ≡ 0)

-- the number is that of the first check that fails: 15, 1, 2, 17 (after 2), then that of the record refused
abbrev pub FeedNumber : Type 0
FeedNumber = (n : Night) (slot long : ℕ) (chunk : List ℕ)
    → let number = number_of (fed_to n.house slot (held_at n slot) chunk).answer in
    number_of (answer_of (reply n (Feed slot long chunk)))
    ≡ number_by
    ((sound n.house else 15)
    ∷ (ltb slot slot_count else 1)
    ∷ ((slot_at n.house slot).taken else 2)
    ∷ (eqb long carry_length else 17)
    ∷ (eqb number 0 else number)
    ∷ [])

-- the end of feeding is 3 while bytes are held, else 0, and changes nothing
abbrev pub EndNumber : Type 0
EndNumber = (n : Night) (slot : ℕ)
    → number_of (answer_of (reply n (End slot)))
    ≡ number_by
    ((sound n.house else 15)
    ∷ (ltb slot slot_count else 1)
    ∷ ((slot_at n.house slot).taken else 2)
    ∷ (eqb (slot_at n.house slot).held 0 else 3)
    ∷ [])

abbrev pub EndKeeps : Type 0
EndKeeps = (n : Night) (slot : ℕ) → after n (End slot) ≡ n

-- ---- what is lent

-- The call on any lent carry whose first bytes are those held is the night's: bytes behind them are not read.
abbrev pub FeedLent : Type 0
FeedLent = (n : Night) (slot : ℕ) (carry chunk : List ℕ) → Fine n → Bytes chunk
    → held_in n.house slot carry ≡ held_at n slot
    → let f = feed n.house slot carry chunk in
    let x = next n (Feed slot (length carry) chunk) in
    (x.reply ≡ Took f.answer f.taken) × (x.night.house ≡ f.house) × (held_at x.night slot ≡ f.held)

-- ---- cutting does not matter

-- what comes next, where the first was done; bytes taken add up
abbrev pub besides : ℕ → Reply → Reply
besides taken (Replied r) = Replied r
besides taken (Took a more) = Took a (taken + more)
besides taken (Ended a) = Ended a

abbrev pub onward : Next → Next → Next
onward x y =
    cond (eqb (number_of (answer_of x.reply)) 0) (next_as (besides (taken_of x.reply) y.reply) y.night) x

-- two chunks fed one after the other, the second if the first was done, are both fed at once: the same answer, bytes
-- taken and night, whatever the floor, where no other call comes between
abbrev pub FeedJoined : Type 0
FeedJoined = (n : Night) (slot long : ℕ) (a b : List ℕ) → Fine n → Bytes a → Bytes b
    → next n (Feed slot long (a ++ b))
    ≡ onward (next n (Feed slot long a)) (next (after n (Feed slot long a)) (Feed slot long b))

-- chunks fed up to the first refusal: at least one, since an empty chunk judges a held record again
abbrev pub fed_all : Night → ℕ → ℕ → List ℕ → List (List ℕ) → Next
fed_all n slot long c [] = next n (Feed slot long c)
fed_all n slot long c (d ∷ ds) = onward (next n (Feed slot long c)) (fed_all (after n (Feed slot long c)) slot long d ds)

-- .. so every cutting of the same bytes comes to the same
abbrev pub AnyCutting : Type 0
AnyCutting = (n : Night) (slot long : ℕ) (c : List ℕ) (cs : List (List ℕ)) → Fine n → Bytes c → AllBytes cs
    → fed_all n slot long c cs ≡ next n (Feed slot long (c ++ joined cs))

-- ---- bytes taken, and the refused record

-- all of a chunk, where it is done
abbrev pub FeedAll : Type 0
FeedAll = (n : Night) (slot long : ℕ) (chunk : List ℕ) → answer_of (reply n (Feed slot long chunk)) ≡ Done
    → taken_of (reply n (Feed slot long chunk)) ≡ length chunk

-- every byte held or taken is one of a record accepted, or held after
abbrev pub FeedTaken : Type 0
FeedTaken = (n : Night) (slot long : ℕ) (chunk : List ℕ) → Fine n → Bytes chunk
    → all (tests (feed_checks n.house slot long)) ≡ true
    → held_at n slot ++ take (taken_of (reply n (Feed slot long chunk))) chunk
    ≡ joined (accepted (hearing slot) (Waits n.house []) (held_at n slot ++ chunk))
    ++ held_at (after n (Feed slot long chunk)) slot

-- none past a refused record: where any is taken, what is held is that record and no more
abbrev pub FeedPast : Type 0
FeedPast = (n : Night) (slot long : ℕ) (chunk : List ℕ) → Fine n → Bytes chunk
    → (answer_of (reply n (Feed slot long chunk)) ≡ Done → ⊥) → 0 < taken_of (reply n (Feed slot long chunk))
    → let m = after n (Feed slot long chunk) in
    length (held_at m slot) ≡ needed (standing_at slot m.house) (held_at m slot)

-- it blocks: the next feed judges it again, with any chunk or none, and nothing is taken until another call changes
-- what it is judged by
abbrev pub Blocked : Type 0
Blocked = (n : Night) (slot long : ℕ) (chunk more : List ℕ) → Fine n → Bytes chunk → Bytes more
    → (answer_of (reply n (Feed slot long chunk)) ≡ Done → ⊥)
    → let x = next n (Feed slot long chunk) in
    next x.night (Feed slot long more) ≡ next_as (Took (answer_of x.reply) 0) x.night

-- ---- a feed delivers records

-- records delivered one after the other, up to the first that is refused
abbrev pub delivered_all : House → ℕ → List (List ℕ) → Answered
delivered_all h slot [] = answered Done h
delivered_all h slot (r ∷ rs) =
    cond (eqb (number_of (deliver h slot r).answer) 0) (delivered_all (deliver h slot r).house slot rs)
    (deliver h slot r)

-- the answer of such deliveries, and their house but for the count of bytes held
abbrev pub SameAs : ℕ → Next → Answered → Type 0
SameAs slot x o =
    (answer_of x.reply ≡ o.answer)
    × (x.night.house ≡ with_held o.house slot (length (held_at x.night slot)))

-- a feed delivers the records that its bytes are cut into
abbrev pub FeedDelivers : Type 0
FeedDelivers = (n : Night) (slot long : ℕ) (chunk : List ℕ) → Fine n → Bytes chunk
    → all (tests (feed_checks n.house slot long)) ≡ true
    → SameAs slot (next n (Feed slot long chunk))
    (delivered_all n.house slot (records (hearing slot) (Waits n.house []) (held_at n slot ++ chunk)))

-- one record in a chunk of its own, with no byte held: all of it is taken, and it is answered as deliver answers it;
-- the house is the same but for the count where it is refused, and it is held then
abbrev pub RecordFed : Type 0
RecordFed = (n : Night) (slot long : ℕ) (rec : List ℕ) → Fine n → Bytes rec
    → all (tests (feed_checks n.house slot long)) ≡ true → (slot_at n.house slot).held ≡ 0
    → length rec ≡ needed (standing_at slot n.house) rec
    → let o = deliver n.house slot rec in
    let x = next n (Feed slot long rec) in
    let done = eqb (number_of o.answer) 0 in
    (x.reply ≡ Took o.answer (length rec))
    × (x.night.house ≡ cond done o.house (with_held o.house slot (length rec)))
    × (held_at x.night slot ≡ cond done [] rec)

-- records each as long as the place of the stream needs, up to the first that is refused
abbrev pub Whole : House → ℕ → List (List ℕ) → Type 0
Whole h slot [] = Unit
Whole h slot (r ∷ rs) =
    (length r ≡ needed (standing_at slot h) r)
    × (number_of (deliver h slot r).answer ≡ 0 → Whole (deliver h slot r).house slot rs)

-- whole records in one chunk are delivered; where all are accepted, no byte is held
abbrev pub RecordsFed : Type 0
RecordsFed = (n : Night) (slot long : ℕ) (rs : List (List ℕ)) → Fine n → AllBytes rs
    → all (tests (feed_checks n.house slot long)) ≡ true → (slot_at n.house slot).held ≡ 0
    → Whole n.house slot rs
    → let x = next n (Feed slot long (joined rs)) in
    SameAs slot x (delivered_all n.house slot rs)
    × (answer_of x.reply ≡ Done → held_at x.night slot ≡ [])

-- .. and in any cutting: one record a chunk, or pieces of records
abbrev pub CutRecordsFed : Type 0
CutRecordsFed = (n : Night) (slot long : ℕ) (rs : List (List ℕ)) (c : List ℕ) (cs : List (List ℕ)) → Fine n
    → AllBytes rs → Bytes c → AllBytes cs → all (tests (feed_checks n.house slot long)) ≡ true
    → (slot_at n.house slot).held ≡ 0 → Whole n.house slot rs → c ++ joined cs ≡ joined rs
    → SameAs slot (fed_all n slot long c cs) (delivered_all n.house slot rs)
