-- A word as a decimal number. The desk, src/main.rt: a number is one digit or more, however many. What digits are worth
-- is the crate digits' own.
--
--   capped     a number, up to a greatest one
--   number_of   what a word says as a number
-- Assumes nothing.
use Rattle.std.specs.Prelude.{cond, List, ℕ, ◌-◌, leb, length, Option, Some, None}
use Prim.Native.Char.{code}
use Rattle.prelude.specs.Choice.{◌unless◌then◌}
use Rattle.prelude.specs.Each.{each}
use Rattle.digits.specs.Digits.{is_digit, decimal}

-- A place that holds no number above `most` takes `most` for each that is greater. What is answered by a limit below
-- `most` stays what it was (specs/Laws.antt): no great number counts as a small one.
unfoldable pub capped : ℕ → ℕ → ℕ
capped most n = cond (leb n most) n most

-- the greatest number that eight bytes hold
abbrev pub most_number : ℕ
most_number = 18_446_744_073_709_551_615

-- leading zeros are digits, and any count of digits is a number
unfoldable pub number_of : List ℕ → Option ℕ
number_of w =
    None unless leb 1 (length w) then
    None unless each is_digit w then
    Some (capped most_number (decimal w))

-- a digit's value
unfoldable pub digit_of : ℕ → Option ℕ
digit_of b = cond (is_digit b) (Some (b - code "0")) None
