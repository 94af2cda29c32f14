-- `digits::read_number` meets its contract: what is left of the text says what the whole said, behind the digits
-- passed.
-- Assumes nothing.
use Rattle.std.specs.Prelude.{Some}
use mathlib.Core.Path.{◌≡◌, sym, ap, ◌∙◌}
use mathlib.Core.Bool.{true}
use Prim.Native.Nat.{ℕ, ◌-◌, ◌<◌}
use native.Mathlib.Omega.{arith}
use borrow.Author.Rules.{rules}
use lib.ListN.{length, get_or}
use Rattle.prelude.proofs.Each.{each_ends, each_fails, each_on}
use Rattle.digits.specs.Digits.{is_digit}
use Rattle.digits.proofs.Laws.{numeral_empty, numeral_long, numeral_no, numeral_value, decimal_on}
use Rattle.digits.proofs.Laws.{decimal_ends, digit_least, digit_most, ceiling_more, ceiling_most}
use Rattle.digits.proofs.read_number.Goals as goal
use Rattle.digits.proofs.read_number.Goals.{then-is_empty-via-then-is_empty, then-is_empty-via-else-is_empty+then-s-gt10}

pub returns-then-is_empty : goal.returns-then-is_empty
returns-then-is_empty c =
    elim c.then-is_empty.branch [
      | then-is_empty-via-then-is_empty w ↦ numeral_empty _ (search rules)
      | then-is_empty-via-else-is_empty+then-s-gt10 w ↦ numeral_long _ (search rules) w.if-s-gt10.true
    ]

pub returns-then-not-is_digit : goal.returns-then-not-is_digit
returns-then-not-is_digit c =
    numeral_no c.args.s.now (search rules) c.if-s-gt10.false
    (c.loop-b.invariant.rest_is ∙ each_fails ℕ is_digit c.args.s.now c.loop-b.b-index 0 c.loop-b-test.true (sym c.is_digit.ensures ∙ c.if-not-is_digit.true))

pub overflow_sub-b : goal.overflow_sub-b
overflow_sub-b c = digit_least _ (sym c.is_digit.ensures ∙ c.if-not-is_digit.false)

pub loop-b-preserved : goal.loop-b-preserved
loop-b-preserved c =
    let s = c.args.s.now in
    let i = c.loop-b.b-index in
    let n = c.loop-b.n in
    let is : is_digit (get_or s i 0) ≡ true = sym c.is_digit.ensures ∙ c.if-not-is_digit.false in
    rw c.from.ensures (record {
      below = ceiling_more i n (get_or s i 0 - 48) c.loop-b.invariant.below (omega (arith, digit_most (get_or s i 0) is));
      rest_is = c.loop-b.invariant.rest_is ∙ each_on ℕ is_digit s i 0 c.loop-b-test.true is;
      worth = c.loop-b.invariant.worth ∙ decimal_on s i n c.loop-b-test.true;
    })

pub returns : goal.returns
returns c =
    let s = c.args.s.now in
    let i = c.loop-b.b-index in
    ap Some (sym (c.loop-b.invariant.worth ∙ decimal_ends s i c.loop-b.n c.loop-b-test.false))
    ∙ numeral_value s (search rules) c.if-s-gt10.false
    (c.loop-b.invariant.rest_is ∙ each_ends ℕ is_digit s i 0 c.loop-b-test.false)
