-- What is shown of a word as a number: statements only. Each is proved in proofs/DecimalLaws.antt, under its name in small
-- letters.
-- Assumes nothing.
use Rattle.std.specs.Prelude.{◌≡◌, ◌++◌, ℕ, ◌≤◌, leb, ltb, replicate, Some}
use Prim.Native.Char.{code}
use Rattle.digits.specs.Digits.{digits}
use Rattle.numerals.specs.Decimals.{capped, most_number, number_of}

-- a number, written with any zeros before it, is that number
abbrev pub NumberDigits : Type 0
NumberDigits = (n zeros : ℕ) → number_of (replicate zeros (code "0") ++ digits n) ≡ Some (capped most_number n)

-- a number that a place holds is itself there
abbrev pub CappedLow : Type 0
CappedLow = (most n : ℕ) → n ≤ most → capped most n ≡ n

-- a number is below a limit exactly if what stands for it is, where the place holds the limit
abbrev pub CappedBelow : Type 0
CappedBelow = (most n limit : ℕ) → limit ≤ most → ltb (capped most n) limit ≡ ltb n limit
