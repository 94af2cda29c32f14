-- What is shown of readings: statements only. Each is proved in proofs/Said.antt, under its name in small letters.
--
--   said_by       what a body of each kind says, where it fits
--   WaferRight   a head and a site group of at most 255
--   Right        what is known of a part or a wafer that it says
-- Assumes nothing.
use Rattle.std.specs.Prelude.{◌≡◌, true, false, List, ℕ, ◌<◌, Some}
use Rattle.numbers.specs.declared.Order.{Order}
use Rattle.numbers.specs.Laws.{Bytes}
use Rattle.kinds.specs.declared.Kind.{Kind}
use Rattle.kinds.specs.declared.Kind.TheVariants as kind
use Rattle.count_bodies.specs.Counts.{pcr_of, bin_count_of}
use Rattle.part_bodies.specs.Parts.{pir_of, prr_of}
use Rattle.part_bodies.specs.Laws.{PirRight, PrrRight}
use Rattle.bodies.specs.declared.Wafer.{Wafer}
use Rattle.bodies.specs.declared.Record.{Record}
use Rattle.bodies.specs.declared.Record.TheVariants as said
use Rattle.bodies.specs.Bodies.{far_of, wafer_of, read_body}

abbrev pub said_by : Order → Kind → List ℕ → Record
said_by order kind.Far b = said.Far (far_of b)
said_by order kind.Atr b = said.Unread
said_by order kind.Mir b = said.Mir
said_by order kind.Mrr b = said.Mrr
said_by order kind.Pcr b = said.Pcr (pcr_of order b)
said_by order kind.Hbr b = said.Bin (bin_count_of false order b)
said_by order kind.Sbr b = said.Bin (bin_count_of true order b)
said_by order kind.Rdr b = said.Unread
said_by order kind.Sdr b = said.Unread
said_by order kind.Pir b = said.Pir (pir_of b)
said_by order kind.Prr b = said.Prr (prr_of order b)
said_by order kind.Wir b = said.Wir (wafer_of b)
said_by order kind.Wrr b = said.Wrr (wafer_of b)
said_by order (kind.Remaining k) b = said.Unread
said_by order kind.Custom b = said.Unread
said_by order kind.Unknown b = said.Unread

-- a body that fits says what its kind says
abbrev pub SaidBy : Type 0
SaidBy = (order : Order) (k : Kind) (b : List ℕ) (r : Record) → read_body order k b ≡ Some r → r ≡ said_by order k b

abbrev pub WaferRight : Wafer → Type 0
WaferRight w = (w.head < 256) × (w.group < 256)

-- what is known of a part, opened or with its result, and of a wafer
abbrev pub Right : Record → Type 0
Right (said.Pir p) = PirRight p
Right (said.Prr p) = PrrRight p
Right (said.Wir w) = WaferRight w
Right (said.Wrr w) = WaferRight w
Right (said.Far f) = Unit
Right said.Mir = Unit
Right said.Mrr = Unit
Right (said.Pcr p) = Unit
Right (said.Bin b) = Unit
Right said.Unread = Unit

abbrev pub SaidRight : Type 0
SaidRight = (order : Order) (k : Kind) (b : List ℕ) (r : Record) → Bytes b → read_body order k b ≡ Some r → Right r
