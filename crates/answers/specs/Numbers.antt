-- The number of each answer, and the values that it carries. Document 01, "Refusal numbers", row for row.
--
--   saying_of              both
--   number_of, values_of    either
--   OfBytes               that values are bytes, as the code's are
-- Assumes nothing.
use Rattle.std.specs.Prelude.{ℕ, ◌<◌, Option, Some, None}
use Rattle.answers.specs.declared.Answer.{Answer}
use Rattle.answers.specs.declared.Answer.TheVariants.{
  Done,
  NoSuchSlot,
  SlotTaken,
  SlotClosed,
  NotOneRecord,
  UnknownOrder,
  WrongVersion,
  UnknownKind,
  BodyMisfit,
  OutOfPlace,
  PartOpen,
  PartNotOpen,
  TooManyParts,
  StillOpen,
  NoRoom,
  TooManyResults,
  NotSound,
  FloorTooHigh,
  OutputTooShort,
  NotACountLine,
  NameNotText,
  NoPcr,
  NoTime,
  WrongWafer,
  TooManyWafers,
  WaferOpen,
}
use Rattle.answers.specs.declared.Saying.{Saying}

abbrev pub saying_of : Answer → Saying
saying_of Done = (0, None)
saying_of NoSuchSlot = (1, None)
saying_of SlotTaken = (2, None)  -- opened twice
saying_of SlotClosed = (2, None)  -- any other call, where nothing is open
saying_of NotOneRecord = (3, None)
saying_of UnknownOrder = (4, None)
saying_of WrongVersion = (5, None)
saying_of UnknownKind = (6, None)
saying_of BodyMisfit = (7, None)
saying_of OutOfPlace = (8, None)
saying_of PartOpen = (9, None)
saying_of PartNotOpen = (10, None)
saying_of TooManyParts = (11, None)
saying_of (StillOpen head site) = (12, Some (head, site))  -- #101: MRR while a part is open, with the smallest one
saying_of NoRoom = (13, None)
saying_of TooManyResults = (14, None)
saying_of NotSound = (15, None)
saying_of FloorTooHigh = (16, None)
saying_of OutputTooShort = (17, None)
saying_of NotACountLine = (18, None)
saying_of NameNotText = (19, None)
saying_of NoPcr = (20, None)  -- #101: MRR while no part is open and no PCR was accepted
saying_of NoTime = (21, None)  -- #103: a line whose required time is 0
saying_of WrongWafer = (22, None)  -- #103: WIR while its head's wafer is open, WRR while no such wafer is
saying_of TooManyWafers = (23, None)  -- #103: a ninth wafer
saying_of WaferOpen = (33, None)  -- #103: MRR while no part is open and a wafer is

abbrev pub number_of : Answer → ℕ
number_of a = (saying_of a).0

abbrev pub values_of : Answer → Option (ℕ × ℕ)
values_of a = (saying_of a).1

abbrev pub OfBytes : Option (ℕ × ℕ) → Type 0
OfBytes None = Unit
OfBytes (Some (head, site)) = (head < 256) × (site < 256)
