-- `digits::read_number` meets its contract: what is left of the text says what the whole said, behind the digits
-- passed.
-- Assumes nothing.
use mathlib.Core.Path.{◌≡◌}
use Prim.Native.Nat.{◌<◌}
use lib.ListN.{drop}
use Rattle.prelude.specs.Each.{each}
use Rattle.digits.specs.Digits.{is_digit, decimal, decimal_from}
use Rattle.digits.proofs.Laws.{ceiling}
use Rattle.digits.proofs.read_number.Given as goal

abbrev pub invariant-loop-b : goal.invariant-loop-b
invariant-loop-b l = record {
  below : l.n < ceiling l.b-index;
  rest_is : each is_digit l.s ≡ each is_digit (drop l.b-index l.s);
  worth : decimal l.s ≡ decimal_from l.n (drop l.b-index l.s);
}
