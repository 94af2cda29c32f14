-- What is shown of decimal text: statements only. Each is proved in proofs/Laws.antt, under its name in small letters.
-- Assumes nothing.
use Rattle.std.specs.Prelude.{◌≡◌, true, ◌++◌, ℕ, ◌/◌, ◌%◌, ◌≤◌, ◌<◌, ◌^◌, length, get_or, Some}
use Prim.Native.Char.{code}
use Rattle.prelude.specs.Each.{each}
use Rattle.digits.specs.Digits.{digits, two, is_digit, decimal, numeral}

-- #104, two a step: two steps of the definition are one of the code's, for every number that has hundreds
abbrev pub TwoSteps : Type 0
TwoSteps = (n : ℕ) → 100 ≤ n → digits n ≡ digits (n / 100) ++ two (n % 100)

-- a number of four bytes has at most ten digits
abbrev pub DigitsMost : Type 0
DigitsMost = (n : ℕ) → n < 2 ^ 32 → length (digits n) ≤ 10

-- one of eight bytes at most twenty
abbrev pub DigitsLong : Type 0
DigitsLong = (n : ℕ) → n < 2 ^ 64 → length (digits n) ≤ 20

-- and every number has one
abbrev pub DigitsSome : Type 0
DigitsSome = (n : ℕ) → 1 ≤ length (digits n)

-- decimal without leading zeros: only 0 begins with one
abbrev pub NoLeadingZero : Type 0
NoLeadingZero = (n : ℕ) → 1 ≤ n → code "0" < get_or (digits n) 0 0

-- every byte is a digit
abbrev pub DigitsDigits : Type 0
DigitsDigits = (n : ℕ) → each is_digit (digits n) ≡ true

-- the digits of a number are worth the number
abbrev pub DecimalDigits : Type 0
DecimalDigits = (n : ℕ) → decimal (digits n) ≡ n

-- a number, written and read back, is the number
abbrev pub NumeralDigits : Type 0
NumeralDigits = (n : ℕ) → n < 2 ^ 32 → numeral (digits n) ≡ Some n
