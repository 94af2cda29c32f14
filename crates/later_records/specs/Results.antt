-- What a record tells by itself, before any house has looked at it. Document 01, "Record frame and kinds" and demand 2:
-- a tally is the count of accepted part results.
--
--   result_of    the part result that a record is, by its key, or none: PRR's head, site and hardware bin
-- Assumes nothing.
use Rattle.std.specs.Prelude.{ℕ, List, Option}
use Rattle.std.specs.Prelude as std
use Rattle.numbers.specs.declared.Order.{Order}
use Rattle.kinds.specs.Kinds.{kind_of}
use Rattle.frames.specs.Frames.{rec_typ, rec_sub, body}
use Rattle.bodies.specs.declared.Record.{Record}
use Rattle.bodies.specs.declared.Record.TheVariants as said
use Rattle.bodies.specs.Bodies.{read_body}
use Rattle.session.specs.Session.{key_of}

pub data Result : Type 0 where
  None : Result
  Part : ℕ → Result

abbrev pub result_in : Record → Result
result_in (said.Prr p) = Part (key_of p.head p.site p.bin)
result_in (said.Far f) = None
result_in said.Mir = None
result_in said.Mrr = None
result_in (said.Pcr p) = None
result_in (said.Bin b) = None
result_in (said.Pir p) = None
result_in (said.Wir w) = None
result_in (said.Wrr w) = None
result_in said.Unread = None

abbrev pub result_read : Option Record → Result
result_read (std.Some r) = result_in r
result_read std.None = None

-- every accepted PRR counts as one part
abbrev pub result_of : Order → List ℕ → Result
result_of order rec = result_read (read_body order (kind_of (rec_typ rec) (rec_sub rec)) (body rec))
