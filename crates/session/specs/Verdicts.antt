-- What a record may do to a session. Document 01, "Order of checks", Deliver: the record.
--
--   stands          the change to a standing alone
--   still_open       answer 12, which names the smallest of the open parts
--   verdict_answer   the answer of a verdict, and verdict_number its number
--   ByItself        what a record by itself may be refused with, where these parts are open: its number is one of
--                   own_number, and it carries what carried says
-- Assumes nothing.
use Rattle.std.specs.Prelude.{ℕ, ◌≡◌, Bool, true, cond, ◌&&◌, ◌||◌, List, eqb, leb, Option, None}
use Rattle.answers.specs.declared.Answer.{Answer}
use Rattle.answers.specs.declared.Answer.TheVariants as answer
use Rattle.answers.specs.Numbers.{number_of, values_of}
use Rattle.session.specs.declared.Standing.{Standing}
use Rattle.session.specs.declared.Change.{Change}
use Rattle.session.specs.declared.Change.TheVariants.{Stands}
use Rattle.session.specs.declared.Verdict.{Verdict}
use Rattle.session.specs.declared.Verdict.TheVariants.{Refused, Taken, Wanted}
use Rattle.session.specs.Session.{part_head, part_site, smallest}

-- most records move the standing, if anything, and no part or wafer
abbrev pub stands : Standing → Change
stands st = Stands st

-- #101, 12: the smallest head and site of the open parts
abbrev pub still_open : List ℕ → Answer
still_open parts = answer.StillOpen (part_head (smallest parts)) (part_site (smallest parts))

-- a part result that passes all these is still to be judged for room
abbrev pub verdict_answer : Verdict → Answer
verdict_answer (Refused a) = a
verdict_answer (Taken change) = answer.Done
verdict_answer (Wanted change key) = answer.Done

abbrev pub verdict_number : Verdict → ℕ
verdict_number v = number_of (verdict_answer v)

-- 3 to 12, 14, 20, 22, 23 and 33: room, 13, is the house's to judge, and the rest are not about a record
abbrev pub own_number : ℕ → Bool
own_number n = (leb 3 n && leb n 12) || (eqb n 14 || (eqb n 20 || (eqb n 22 || (eqb n 23 || eqb n 33))))

-- 12 carries a part, and no other number carries anything
abbrev pub carried : ℕ → List ℕ → Option (ℕ × ℕ)
carried n parts = cond (eqb n 12) (values_of (still_open parts)) None

abbrev pub ByItself : List ℕ → Answer → Type 0
ByItself parts a = (own_number (number_of a) ≡ true) × (values_of a ≡ carried (number_of a) parts)
