-- What is read of a body of each kind. Document 01, "Record frame and kinds", bodies read; #103, WIR and WRR.
--
--   read_far .. read_wrr   the reading of each body that is read
--   read_body             the reading of any body of any kind
--   fitting, said_of      whether a body fits, 7 where it does not, and what it says
-- Assumes nothing.
use Rattle.std.specs.Prelude.{ℕ, Bool, true, false, cond, List, Option, Some, None}
use Rattle.numbers.specs.declared.Order.{Order}
use Rattle.kinds.specs.declared.Kind.{Kind}
use Rattle.kinds.specs.declared.Kind.TheVariants as kind
use Rattle.fields.specs.Tables.{fits_body, far, mir, mrr, pcr, wir, wrr}
use Rattle.count_bodies.specs.Counts.{pcr_of, bin_count_of, bin_body_fits}
use Rattle.part_bodies.specs.Parts.{pir_of, prr_of, pir_body_fits, prr_body_fits}
use Rattle.bodies.specs.declared.Far.{Far}
use Rattle.bodies.specs.declared.Wafer.{Wafer}
use Rattle.bodies.specs.declared.Record.{Record}
use Rattle.bodies.specs.declared.Record.TheVariants as body
-- what stands in a field, for those who read a FAR before its order is known
pub use Rattle.fields.specs.Tables.{byte_of}

abbrev pub far_of : List ℕ → Far
far_of b = record { cpu = byte_of far 0 b; version = byte_of far 1 b }

-- #103: a WIR and a WRR begin alike
abbrev pub wafer_of : List ℕ → Wafer
wafer_of b = record { head = byte_of wir 0 b; group = byte_of wir 1 b }

-- ---- the reading

abbrev pub reading : Bool → Record → Option Record
reading fits r = cond fits (Some r) None

abbrev pub read_far : Order → List ℕ → Option Record
read_far order b = reading (fits_body order far b) (body.Far (far_of b))

abbrev pub read_mir : Order → List ℕ → Option Record
read_mir order b = reading (fits_body order mir b) body.Mir

abbrev pub read_mrr : Order → List ℕ → Option Record
read_mrr order b = reading (fits_body order mrr b) body.Mrr

abbrev pub read_pcr : Order → List ℕ → Option Record
read_pcr order b = reading (fits_body order pcr b) (body.Pcr (pcr_of order b))

abbrev pub read_bin : Bool → Order → List ℕ → Option Record
read_bin soft order b = reading (bin_body_fits order b) (body.Bin (bin_count_of soft order b))

abbrev pub read_pir : Order → List ℕ → Option Record
read_pir order b = reading (pir_body_fits order b) (body.Pir (pir_of b))

abbrev pub read_prr : Order → List ℕ → Option Record
read_prr order b = reading (prr_body_fits order b) (body.Prr (prr_of order b))

-- #103: no value of a WIR or WRR is judged
abbrev pub read_wir : Order → List ℕ → Option Record
read_wir order b = reading (fits_body order wir b) (body.Wir (wafer_of b))

abbrev pub read_wrr : Order → List ℕ → Option Record
read_wrr order b = reading (fits_body order wrr b) (body.Wrr (wafer_of b))

-- bodies of other kinds aren't read
unfoldable pub read_body : Order → Kind → List ℕ → Option Record
read_body order kind.Far b = read_far order b
read_body order kind.Mir b = read_mir order b
read_body order kind.Mrr b = read_mrr order b
read_body order kind.Pcr b = read_pcr order b
read_body order kind.Hbr b = read_bin false order b
read_body order kind.Sbr b = read_bin true order b
read_body order kind.Pir b = read_pir order b
read_body order kind.Prr b = read_prr order b
read_body order kind.Wir b = read_wir order b
read_body order kind.Wrr b = read_wrr order b
read_body order kind.Atr b = Some body.Unread
read_body order kind.Rdr b = Some body.Unread
read_body order kind.Sdr b = Some body.Unread
read_body order (kind.Remaining k) b = Some body.Unread
read_body order kind.Custom b = Some body.Unread
read_body order kind.Unknown b = Some body.Unread

-- 7: the body doesn't fit its kind
abbrev pub fitting : Option Record → Bool
fitting (Some r) = true
fitting None = false

-- what a body that fits says; asked only of one that does
abbrev pub said_of : Option Record → Record
said_of (Some r) = r
said_of None = body.Unread
