-- The first record of a stream. Document 01, "Order of checks", First record.
--
--   judge_first   what it does to a session that stands at its start
--   order_in      the byte order that it tells
-- Assumes nothing.
use Rattle.std.specs.Prelude.{ℕ, ◌&&◌, List, eqb, leb, length, Option, Some, None}
use Rattle.prelude.specs.Choice.{◌unless◌then◌}
use Rattle.answers.specs.declared.Answer.TheVariants as answer
use Rattle.numbers.specs.declared.Order.{Order}
use Rattle.numbers.specs.declared.Order.TheVariants.{HighFirst}
use Rattle.numbers.specs.Orders.{order_of}
use Rattle.frames.specs.Frames.{header, rec_len, rec_typ, rec_sub, body}
use Rattle.fields.specs.Tables.{far}
use Rattle.bodies.specs.Bodies.{byte_of}
use Rattle.order.specs.declared.Place.TheVariants.{Header}
use Rattle.session.specs.declared.Standing.{Standing}
use Rattle.session.specs.declared.Verdict.{Verdict}
use Rattle.session.specs.declared.Verdict.TheVariants.{Refused, Taken}
use Rattle.session.specs.Verdicts.{stands}

abbrev pub in_order : Standing → Order → Standing
in_order st order = record st { place = Header; order = order }

-- .. then a length field that isn't 2 in the CPU's order is 3; then 5
unfoldable pub judge_in : Standing → List ℕ → Order → Verdict
judge_in st rec order =
    Refused answer.NotOneRecord unless eqb (rec_len order rec) 2 then
    Refused answer.WrongVersion unless eqb (byte_of far 1 (body rec)) 4 then
    Taken (stands (in_order st order))

abbrev pub judge_ordered : Standing → List ℕ → Option Order → Verdict
judge_ordered st rec None = Refused answer.UnknownOrder
judge_ordered st rec (Some order) = judge_in st rec order

-- First record: length under 4 is 3; bytes 2 and 3 not 0 and 10 is 8; length not 6 is 3; then 4 ..
unfoldable pub judge_first : Standing → List ℕ → Verdict
judge_first st rec =
    Refused answer.NotOneRecord unless leb header (length rec) then
    Refused answer.OutOfPlace unless (eqb (rec_typ rec) 0 && eqb (rec_sub rec) 10) then
    Refused answer.NotOneRecord unless eqb (length rec) 6 then
    judge_ordered st rec (order_of (byte_of far 0 (body rec)))

-- the byte order that a CPU_TYPE tells; asked only of one that tells any
abbrev pub order_told : Option Order → Order
order_told (Some order) = order
order_told None = HighFirst

-- CPU_TYPE of FAR
abbrev pub order_in : List ℕ → Order
order_in rec = order_told (order_of (byte_of far 0 (body rec)))
