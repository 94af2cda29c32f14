-- `numerals::decimals::number_of` meets its contract: what is left of the word says what the whole said, behind the
-- digits passed, up to the greatest number.
-- Assumes nothing.
use mathlib.Core.Path.{◌≡◌}
use Prim.Native.Nat.{◌≤◌}
use lib.ListN.{drop}
use Rattle.prelude.specs.Each.{each}
use Rattle.digits.specs.Digits.{is_digit, decimal, decimal_from}
use Rattle.numerals.specs.Decimals.{capped, most_number}
use Rattle.numerals.proofs.decimals.number_of.Given as goal

abbrev pub invariant-loop-b : goal.invariant-loop-b
invariant-loop-b l = record {
  fits : l.n ≤ most_number;
  digits_left : each is_digit l.word ≡ each is_digit (drop l.b-index l.word);
  worth : capped most_number (decimal l.word) ≡ capped most_number (decimal_from l.n (drop l.b-index l.word));
}
