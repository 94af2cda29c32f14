-- What is shown of a first record: statements only, each proved in proofs/Checks.antt, or in proofs/Accepted.antt those
-- of an accepted one, under its name in small letters.
--
--   first_checks   its order of checks, as a list
--   FirstRight    what an accepted one is
-- Assumes nothing.
use Rattle.numbers.specs.declared.Order.{Order}
use Rattle.std.specs.Prelude.{◌≡◌, Bool, true, false, ◌&&◌, List, [], ◌∷◌, ℕ, eqb, leb, length, Option, Some, None}
use Rattle.prelude.specs.Checks.{Check, ◌else◌, number_by}
use Rattle.numbers.specs.Orders.{order_of}
use Rattle.kinds.specs.declared.Kind.TheVariants.{Far}
use Rattle.kinds.specs.Kinds.{kind_of}
use Rattle.frames.specs.Frames.{header, rec_len, rec_typ, rec_sub, body, is_record}
use Rattle.fields.specs.Tables.{far}
use Rattle.bodies.specs.Bodies.{byte_of, read_body, fitting}
use Rattle.order.specs.declared.Place.TheVariants.{Start}
use Rattle.order.specs.Order.{goes, in_place}
use Rattle.session.specs.declared.Standing.{Standing}
use Rattle.session.specs.Verdicts.{verdict_number}
use Rattle.first_record.specs.First.{judge_first, order_in}

abbrev pub is_known : Option Order → Bool
is_known (Some order) = true
is_known None = false

-- First record: under 4 bytes 3; not FAR 8; not 6 bytes 3; 4; a length field that isn't 2 in the CPU's order 3; 5
abbrev pub first_checks : List ℕ → List (Check ℕ)
first_checks rec =
    (leb header (length rec) else 3)
    ∷ ((eqb (rec_typ rec) 0 && eqb (rec_sub rec) 10) else 8)
    ∷ (eqb (length rec) 6 else 3)
    ∷ (is_known (order_of (byte_of far 0 (body rec))) else 4)
    ∷ (eqb (rec_len (order_in rec) rec) 2 else 3)
    ∷ (eqb (byte_of far 1 (body rec)) 4 else 5)
    ∷ []

abbrev pub FirstNumber : Type 0
FirstNumber = (st : Standing) (rec : List ℕ) → verdict_number (judge_first st rec) ≡ number_by (first_checks rec)

-- ---- an accepted first record

-- exactly one record, in the byte order that it tells; a FAR; and its body fits
pub record FirstRight (rec : List ℕ) : Type 0 where
  pub one : is_record (order_in rec) rec ≡ true
  pub far : kind_of (rec_typ rec) (rec_sub rec) ≡ Far
  pub fits : fitting (read_body (order_in rec) Far (body rec)) ≡ true

abbrev pub FirstAccepted : Type 0
FirstAccepted = (st : Standing) (rec : List ℕ) → verdict_number (judge_first st rec) ≡ 0 → FirstRight rec

-- bytes 2 and 3 are 0 and 10 exactly if the kind that they name may begin a stream: 8 is for the same as later on
abbrev pub FirstInPlace : Type 0
FirstInPlace = (typ sub : ℕ) → in_place (goes Start (kind_of typ sub)) ≡ (eqb typ 0 && eqb sub 10)
