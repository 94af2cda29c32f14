-- A whole stream, delivered to slot 0 of a house where it alone is open. Document 01, "Tally program".
--
--   Reached     the house, and how many records were accepted
--   hearing     each record is delivered to slot 0; one of more than 65,536 bytes is too long
--   Progress    how far a stream was followed: what has become of it, and the bytes of a record that is not whole
--   followed    .. and any bytes more
--   begun       before the first byte: slot 0 is open with floor 1,024
-- Assumes nothing.
use Rattle.std.specs.Prelude.{ℕ, ◌+◌, cond, List, [], eqb, Option, Some, None}
use Rattle.answers.specs.Numbers.{number_of}
use Rattle.session.specs.declared.Standing.{Standing}
use Rattle.house.specs.declared.House.{House}
use Rattle.house.specs.declared.Answered.{Answered}
use Rattle.house.specs.House.{row_count, fresh}
use Rattle.house.specs.Calls.{slot_at, open_slot, deliver}
use Rattle.cutting.specs.Walk.{Heard, Kept, Turned, Machine, Walked, Waits, Stops, walked, cutting}
use Rattle.walking.specs.declared.Stop.{Stop}
use Rattle.walking.specs.declared.Stop.TheVariants.{Refused, TooLong}

-- too long: a record whose header says over 65,536 bytes
abbrev pub most_length : ℕ
most_length = 65_536

pub record Reached : Type 0 where
  pub house : House
  pub accepted : ℕ

abbrev pub reached : House → ℕ → Reached
reached h k = record { house = h; accepted = k }

abbrev pub standing : House → Standing
standing h = (slot_at h 0).session.standing

-- a record delivered to slot 0: accepted, 0, or refused
unfoldable pub heard : ℕ → Answered → Heard Reached Stop
heard k a =
    cond (eqb (number_of a.answer) 0) (Kept (reached a.house (k + 1))) (Turned (Refused a.answer))

-- too long is judged before all else; a record that is not whole waits
abbrev pub hearing : Machine Reached Stop
hearing =
    cutting (λ p. standing p.house) most_length TooLong (λ p r. heard p.accepted (deliver p.house 0 r))

pub record Progress : Type 0 where
  pub house : House
  pub accepted : ℕ
  pub fate : Option Stop
  pub held : List ℕ

abbrev pub progress : House → ℕ → Option Stop → List ℕ → Progress
progress h k fate held = record { house = h; accepted = k; fate = fate; held = held }

-- what stops a stream is final: no byte is kept
abbrev pub seen : Walked Reached Stop → Progress
seen (Waits p part) = progress p.house p.accepted None part
seen (Stops p r why rest) = progress p.house p.accepted (Some why) []

abbrev pub resumed_by : Option Stop → Reached → List ℕ → Walked Reached Stop
resumed_by None p held = Waits p held
resumed_by (Some why) p held = Stops p [] why []

abbrev pub resumed : Progress → Walked Reached Stop
resumed p = resumed_by p.fate (reached p.house p.accepted) p.held

abbrev pub followed : Progress → List ℕ → Progress
followed p bytes = seen (walked hearing (resumed p) bytes)

-- slot 0, floor 1,024
abbrev pub begun : Progress
begun = progress (open_slot fresh 0 row_count).house 0 None []
