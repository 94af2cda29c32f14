-- A stream fed as the network delivers it: chunks cut records anywhere. Document 02, #102; document 01, "Order of
-- checks".
--
--   hearing    what is heard of a stream: each record, once it is whole, is delivered to its slot
--   poured     what bytes that are held and a chunk behind them come to, over any state
--   feed       what the call answers, how much of the chunk it takes, the house after it and the bytes held then
--   end_feed    what the call that ends feeding answers
-- Assumes nothing.
use Rattle.std.specs.Prelude.{ℕ, ◌-◌, cond, List, [], ◌∷◌, ◌++◌, eqb, length, take}
use Rattle.prelude.specs.Checks.{Check, ◌else◌, checked}
use Rattle.answers.specs.declared.Answer.{Answer}
use Rattle.answers.specs.declared.Answer.TheVariants.{Done, NotOneRecord, OutputTooShort}
use Rattle.answers.specs.Numbers.{number_of}
use Rattle.session.specs.declared.Standing.{Standing}
use Rattle.cutting.specs.Needed.{longest}
use Rattle.cutting.specs.Walk.{Heard, Kept, Turned, Machine, Walked, Waits, Stops, walked, cutting}
use Rattle.house.specs.declared.House.{House}
use Rattle.house.specs.declared.Answered.{Answered}
use Rattle.house.specs.declared.Fed.{Fed}
use Rattle.house.specs.House.{carry_length}
use Rattle.house.specs.Calls.{slot_at, with_slot, slot_checks, deliver}

-- ---- a record of the stream

abbrev pub standing_at : ℕ → House → Standing
standing_at slot h = (slot_at h slot).session.standing

-- it is accepted, 0, or refused, and a refusal changes nothing
unfoldable pub heard : Answered → Heard House Answer
heard a = cond (eqb (number_of a.answer) 0) (Kept a.house) (Turned a.answer)

-- The first record is six bytes, a later one its header and REC_LEN in the session's order. It is judged when it is
-- whole, as deliver judges it, and not before. No record is longer than the longest, so none is turned away for its
-- length.
abbrev pub hearing : ℕ → Machine House Answer
hearing slot = cutting (standing_at slot) longest NotOneRecord (λ h r. heard (deliver h slot r))

-- ---- bytes held, and a chunk

pub record Poured (S : Type 0) : Type 0 where
  pub state : S
  pub answer : Answer
  pub held : List ℕ
  pub taken : ℕ

-- Of a chunk of so many bytes: where no record is refused all are taken, and those of a record that is not whole are
-- held. A refused record is held, with what was held behind it; taken are the bytes up to its end, none if it was whole
-- before (`◌-◌` stops at 0).
abbrev pub poured : {S : Type 0} → ℕ → Walked S Answer → Poured S
poured n (Waits s part) = record { state = s; answer = Done; held = part; taken = n }
poured n (Stops s r a rest) =
    record { state = s; answer = a; held = r ++ take (length rest - n) rest; taken = n - length rest }

-- the records are cut from the held bytes followed by the chunk
abbrev pub poured_to : House → ℕ → List ℕ → List ℕ → Poured House
poured_to h slot held chunk = poured (length chunk) (walked (hearing slot) (Waits h []) (held ++ chunk))

-- ---- the calls

-- how many bytes the carry holds stands in the house; the first of its bytes are they
abbrev pub held_in : House → ℕ → List ℕ → List ℕ
held_in h slot carry = take (slot_at h slot).held carry

abbrev pub with_held : House → ℕ → ℕ → House
with_held h slot n =
    let s = slot_at h slot in
    with_slot h slot (record { taken = s.taken; floor = s.floor; session = s.session; held = n })

pub record Feed : Type 0 where
  pub answer : Answer
  pub taken : ℕ
  pub house : House
  pub held : List ℕ

-- what a feed gives back, beside the bytes held in the carry after it
abbrev pub fed_with : Fed → List ℕ → Feed
fed_with f held = record { answer = f.answer; taken = f.taken; house = f.house; held = held }

abbrev pub fed_to : House → ℕ → List ℕ → List ℕ → Feed
fed_to h slot held chunk =
    let p = poured_to h slot held chunk in
    record {
      answer = p.answer;
      taken = p.taken;
      house = with_held p.state slot (length p.held);
      held = p.held;
    }

-- refused before a record is judged: nothing is taken, and nothing changes
abbrev pub unfed : House → List ℕ → Answer → Feed
unfed h held a = record { answer = a; taken = 0; house = h; held = held }

-- Order of checks, Feed: 15, 1, 2, 17 (a carry of another length than 65,539), then the records
abbrev pub feed_checks : House → ℕ → ℕ → List (Check Answer)
feed_checks h slot long = slot_checks h slot ++ ((eqb long carry_length else OutputTooShort) ∷ [])

unfoldable pub feed : House → ℕ → List ℕ → List ℕ → Feed
feed h slot carry chunk =
    let held = held_in h slot carry in
    checked (unfed h held) (feed_checks h slot (length carry)) (fed_to h slot held chunk)

-- Order of checks, End of feeding: 15, 1, 2, 3 while the carry holds bytes
abbrev pub end_checks : House → ℕ → List (Check Answer)
end_checks h slot = slot_checks h slot ++ ((eqb (slot_at h slot).held 0 else NotOneRecord) ∷ [])

unfoldable pub end_feed : House → ℕ → Answer
end_feed h slot = checked (λ (a : Answer). a) (end_checks h slot) Done
