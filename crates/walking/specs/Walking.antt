-- A stream delivered to one slot, record after record. Document 01, "Tally program", and Calls, Deliver.
--
--   Progress     what a slot sees of a house and may change, and how many records were accepted
--   delivering   each record is delivered to the slot that sees this room; one of more than `most` bytes is too long
--   ends_by       how far a stream was walked, as a stage of the walk tells it
-- Assumes nothing.
use Rattle.std.specs.Prelude.{Bool, cond, List, ℕ, ◌+◌, eqb, take, drop, Option, Some, None}
use Rattle.answers.specs.Numbers.{number_of}
use Rattle.session.specs.declared.Standing.{Standing}
use Rattle.house.specs.declared.Room.{Room}
use Rattle.house.specs.Deliver.{Core, core, Outcome, delivered}
use Rattle.cutting.specs.Needed.{cut}
use Rattle.cutting.specs.Walk.{Heard, Kept, Turned, Machine, Walked, Waits, Stops, cutting}
use Rattle.walking.specs.declared.Stop.{Stop}
use Rattle.walking.specs.declared.Stop.TheVariants.{Refused, TooLong}
use Rattle.walking.specs.declared.Stage.{Stage}

pub record Progress : Type 0 where
  pub core : Core
  pub accepted : ℕ

abbrev pub progress : Core → ℕ → Progress
progress c k = record { core = c; accepted = k }

abbrev pub standing : Progress → Standing
standing p = p.core.standing

-- a record is accepted, 0, or refused
unfoldable pub heard : ℕ → Outcome → Heard Progress Stop
heard k o =
    cond (eqb (number_of o.answer) 0) (Kept (progress o.core (k + 1))) (Turned (Refused o.answer))

abbrev pub delivering : Room → ℕ → Machine Progress Stop
delivering room most = cutting standing most TooLong (λ p r. heard p.accepted (delivered room p.core r))

-- ---- a stage of the walk

abbrev pub stage : ℕ → Standing → ℕ → Option Stop → ℕ → Bool → Stage
stage used st k fate at more =
    record {
      used = used;
      place = st.place;
      order = st.order;
      opened = st.opened;
      pcr = st.pcr;
      results = st.results;
      wafers = st.wafers;
      accepted = k;
      fate = fate;
      at = at;
      more = more;
    }

abbrev pub stage_standing : Stage → Standing
stage_standing s =
    record {
      place = s.place;
      order = s.order;
      opened = s.opened;
      pcr = s.pcr;
      results = s.results;
      wafers = s.wafers;
    }

-- what its rows and parts, which are lent, and its fields make
abbrev pub stage_progress : List ℕ → List ℕ → List ℕ → Stage → Progress
stage_progress keys counts parts s = progress (core keys counts s.used (stage_standing s) parts) s.accepted

-- the bytes that are not walked over yet
abbrev pub rest : Stage → List ℕ → List ℕ
rest s bytes = drop s.at bytes

-- they are those of a record that is not whole; or they begin with the record that stopped the walk
abbrev pub ends_by : Option Stop → ℕ → Progress → List ℕ → Walked Progress Stop
ends_by None most p bytes = Waits p bytes
ends_by (Some why) most p bytes =
    let n = cut most (standing p) bytes in
    Stops p (take n bytes) why (drop n bytes)
