-- `numerals::decimals::number_of` meets its contract: what is left of the word says what the whole said, behind the
-- digits passed, up to the greatest number.
-- Assumes nothing.
use Rattle.std.specs.Prelude.{Some}
use mathlib.Core.Path.{◌≡◌, sym, ap, ◌∙◌}
use Prim.Native.Nat.{ℕ, ◌+◌, ◌-◌, ◌*◌, ◌≤◌}
use native.Mathlib.Omega.{arith}
use borrow.Author.Rules.{rules}
use lib.ListN.{get_or, drop, length}
use Rattle.prelude.proofs.Each.{each_ends, each_fails, each_on}
use Rattle.digits.specs.Digits.{is_digit, decimal, decimal_from}
use Rattle.digits.proofs.Laws.{decimal_on, decimal_ends}
use Rattle.numerals.specs.Decimals.{capped, most_number}
use Rattle.numerals.proofs.DecimalLaws.{number_empty, number_no, number_is, digit_told, digit_not}
use Rattle.numerals.proofs.DecimalLaws.{capped_low, capped_most, capped_on}
use Rattle.numerals.proofs.decimals.number_of.Goals as goal

pub returns-then-is_empty : goal.returns-then-is_empty
returns-then-is_empty c = number_empty c.args.word.now (search rules)

pub returns-in_err-digit : goal.returns-in_err-digit
returns-in_err-digit c =
    let w = c.args.word.now in
    let some : 1 ≤ length w = search rules in
    c.from_residual.ensures ∙ number_no w some
    (c.loop-b.invariant.digits_left
    ∙ each_fails ℕ is_digit w c.loop-b.b-index 0 c.loop-b-test.true
    (digit_not (get_or w c.loop-b.b-index 0) (sym c.digit.ensures ∙ c.in_err-digit.was)))

pub loop-b-preserved : goal.loop-b-preserved
loop-b-preserved c =
    let w = c.args.word.now in
    let i = c.loop-b.b-index in
    let n = c.loop-b.n in
    let b = get_or w i 0 in
    let inside = c.loop-b-test.true in
    let told = digit_told b c.in_ok-digit.field-0 (sym c.digit.ensures ∙ c.in_ok-digit.was) in
    let next : c.with_digit-n.result ≡ capped most_number (n * 10 + (b - 48)) =
    c.with_digit-n.ensures ∙ ap (λ (d : ℕ). capped most_number (n * 10 + d)) told.1 in
    record {
      fits = omega (arith, next, capped_most most_number (n * 10 + (b - 48)));
      digits_left = c.loop-b.invariant.digits_left ∙ each_on ℕ is_digit w i 0 inside told.0;
      worth =
          c.loop-b.invariant.worth
          ∙ ap (capped most_number) (decimal_on w i n inside)
          ∙ capped_on most_number (n * 10 + (b - 48)) (drop (i + 1) w)
          ∙ ap (λ (k : ℕ). capped most_number (decimal_from k (drop (i + 1) w))) (sym next);
    }

pub returns : goal.returns
returns c =
    let w = c.args.word.now in
    let i = c.loop-b.b-index in
    let n = c.loop-b.n in
    let past = c.loop-b-test.false in
    let some : 1 ≤ length w = search rules in
    let all : capped most_number (decimal w) ≡ n =
    c.loop-b.invariant.worth ∙ ap (capped most_number) (decimal_ends w i n past)
    ∙ capped_low most_number n c.loop-b.invariant.fits in
    ap Some (sym all) ∙ number_is w some (c.loop-b.invariant.digits_left ∙ each_ends ℕ is_digit w i 0 past)
