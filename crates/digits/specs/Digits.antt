-- Decimal text of a number. Document 01, "Count lines", Written, decimal without leading zeros, and Read, one to ten
-- digits.
--
--   digits     the text of a number, by recursion on the quotient
--   two        the two digits of a number below a hundred
--   is_digit    which bytes are digits
--   decimal    what digits are worth
--   numeral    what text says as a number
-- Assumes nothing.
use Rattle.std.specs.Prelude.{ℕ, zero, suc, ◌+◌, ◌-◌, ◌*◌, ◌/◌, ◌%◌, Bool, true, false, ◌&&◌, List, [], ◌∷◌, ◌++◌, leb, ltb, length, Option, Some, None}
use Prim.Native.Char.{code}
use Rattle.prelude.specs.Choice.{◌unless◌then◌}
use Rattle.prelude.specs.Each.{each}

-- the digit of a number below ten
abbrev pub digit : ℕ → ℕ
digit n = n + code "0"

-- The digits of the quotient by ten, then that of the remainder. The first argument bounds how deep the quotients go;
-- the second says whether the number is below ten, and is matched on, since a call under a choice is computed though
-- not chosen.
abbrev pub digits_within : ℕ → Bool → ℕ → List ℕ
digits_within zero small n = []
digits_within (suc depth) true n = digit n ∷ []
digits_within (suc depth) false n = digits_within depth (ltb (n / 10) 10) (n / 10) ++ digit (n % 10) ∷ []

-- a number is deep enough for itself
unfoldable pub digits : ℕ → List ℕ
digits n = digits_within (suc n) (ltb n 10) n

-- #103, minute and second have two digits; #104, two a step
abbrev pub two : ℕ → List ℕ
two n = digit (n / 10) ∷ digit (n % 10) ∷ []

unfoldable pub is_digit : ℕ → Bool
is_digit b = leb (code "0") b && leb b (code "9")

-- what digits are worth behind digits that are worth n
abbrev pub decimal_from : ℕ → List ℕ → ℕ
decimal_from n [] = n
decimal_from n (b ∷ bs) = decimal_from (n * 10 + (b - code "0")) bs

abbrev pub decimal : List ℕ → ℕ
decimal s = decimal_from 0 s

-- Read, numbers are one to ten digits, leading zeros allowed
unfoldable pub numeral : List ℕ → Option ℕ
numeral s =
    None unless leb 1 (length s) then
    None unless leb (length s) 10 then
    None unless each is_digit s then
    Some (decimal s)
