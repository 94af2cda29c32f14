-- The statements of specs/Laws.antt, proved; and laws of numbers: one an answer, in the order of the tests.
-- Assumes nothing.
use Rattle.std.specs.Prelude.{Some, None}
use mathlib.Core.Path.{◌≡◌, refl, sym, ◌∙◌}
use mathlib.Core.Bool.{Bool, true, false, cond}
use mathlib.Core.List.{List, [], ◌∷◌, ◌++◌}
use Prim.Native.Nat.{ℕ, zero, suc, ◌+◌, ◌-◌, ◌*◌, ◌≤◌, ◌<◌}
use Prim.Native.Char.{code}
use native.Mathlib.Omega.{arith}
use borrow.Author.Tests.{le-leb, lt-leb, le-ltb, leb-true, leb-false}
use lib.Dec.{leb, ltb}
use lib.ListN.{length, replicate, length-append}
use Rattle.prelude.specs.Each.{each}
use Rattle.digits.specs.Digits.{digits, is_digit, decimal, decimal_from}
use Rattle.digits.proofs.Laws.{is_digit_lem, digits_some, digits_digits, decimal_digits}
use Rattle.numerals.specs.Decimals.{capped, most_number, number_of, digit_of}
use Rattle.numerals.specs.Laws.{NumberDigits, CappedLow, CappedBelow}

-- ---- a number in a place that holds none above `most`

pub capped_low : CappedLow
unfolding capped
capped_low most n h = rw (le-leb n most h)

module _ (most n : ℕ) where
  pub capped_high : most < n → capped most n ≡ most
  unfolding capped
  capped_high h = rw (lt-leb n most h)

  -- `most` itself, too
  capped_from : most ≤ n → capped most n ≡ most
  unfolding capped
  capped_from h = go (leb n most) refl
    where
      go : (t : Bool) → leb n most ≡ t → capped most n ≡ most
      go true e = capped_low most n (leb-true n most e) ∙ omega (arith, h, leb-true n most e)
      go false e = capped_high (leb-false n most e)

  -- what holds of a number that the place holds, and of one that it does not, holds of any
  pub capped_by : (P : ℕ → Type 0) → (n ≤ most → P n) → (most < n → P most) → P (capped most n)
  capped_by P low high = go (leb n most) refl
    where
      go : (t : Bool) → leb n most ≡ t → P (capped most n)
      go true e = rw (capped_low most n (leb-true n most e)) (low (leb-true n most e))
      go false e = rw (capped_high (leb-false n most e)) (high (leb-false n most e))

pub capped_most : (most n : ℕ) → capped most n ≤ most
capped_most most n = capped_by most n (λ (k : ℕ). k ≤ most) (λ low. low) (λ high. omega arith)

-- a place in a place that holds more
pub capped_twice : (least most n : ℕ) → least ≤ most → capped least (capped most n) ≡ capped least n
capped_twice least most n h =
    capped_by most n (λ (k : ℕ). capped least k ≡ capped least n) (λ low. refl)
    (λ high. capped_from least most h ∙ sym (capped_from least n (omega (arith, h, high))))

pub capped_below : CappedBelow
capped_below most n limit h =
    capped_by most n (λ (k : ℕ). ltb k limit ≡ ltb n limit) (λ low. refl)
    (λ high. le-ltb most limit h ∙ sym (le-ltb n limit (omega (arith, h, high))))

-- ---- whether a byte is a digit, by its value

pub digit_told : (b d : ℕ) → digit_of b ≡ Some d → (is_digit b ≡ true) × (d ≡ b - 48)
unfolding digit_of
digit_told b d h = go (is_digit b) refl h
  where
    go : (t : Bool) → is_digit b ≡ t → cond t (Some (b - 48)) None ≡ Some d → (is_digit b ≡ true) × (d ≡ b - 48)
    go true e h = (e, cc)
    go false e h = let never : ◌≡◌ {A = ℕ} 0 1 = cc in absurd (omega arith)

pub digit_not : (b : ℕ) → digit_of b ≡ None → is_digit b ≡ false
unfolding digit_of
digit_not b h = go (is_digit b) refl h
  where
    go : (t : Bool) → is_digit b ≡ t → cond t (Some (b - 48)) None ≡ None → is_digit b ≡ false
    go true e h = let never : ◌≡◌ {A = ℕ} 0 1 = cc in absurd (omega arith)
    go false e h = e

-- ---- a word

-- more digits make no smaller number
decimal_grows : (n : ℕ) (s : List ℕ) → n ≤ decimal_from n s
decimal_grows n [] = omega arith
decimal_grows n (b ∷ bs) = omega (arith, decimal_grows (n * 10 + (b - code "0")) bs)

-- so a number that is capped on the way is capped as the whole is
pub capped_on : (most n : ℕ) (s : List ℕ)
    → capped most (decimal_from n s) ≡ capped most (decimal_from (capped most n) s)
capped_on most n s =
    capped_by most n (λ (k : ℕ). capped most (decimal_from n s) ≡ capped most (decimal_from k s)) (λ low. refl)
    (λ high. capped_from most (decimal_from n s) (omega (arith, high, decimal_grows n s))
    ∙ sym (capped_from most (decimal_from most s) (decimal_grows most s)))

module _ (w : List ℕ) where
  pub number_empty : length w < 1 → None ≡ number_of w
  unfolding number_of
  number_empty h = rw (lt-leb 1 (length w) h)

  module _ (some : 1 ≤ length w) where
    pub number_no : each is_digit w ≡ false → None ≡ number_of w
    unfolding number_of
    number_no e = rw (le-leb 1 (length w) some, e)

    pub number_is : each is_digit w ≡ true → Some (capped most_number (decimal w)) ≡ number_of w
    unfolding number_of
    number_is e = rw (le-leb 1 (length w) some, e)

-- ---- leading zeros

zeros_each : (zeros : ℕ) (s : List ℕ) → each is_digit (replicate zeros (code "0") ++ s) ≡ each is_digit s
zeros_each zero s = refl
zeros_each (suc zeros) s = rw (is_digit_lem 48 (omega arith) (omega arith)) (zeros_each zeros s)

zeros_decimal : (zeros : ℕ) (s : List ℕ) → decimal (replicate zeros (code "0") ++ s) ≡ decimal s
zeros_decimal zero s = refl
zeros_decimal (suc zeros) s = zeros_decimal zeros s

pub number_digits : NumberDigits
number_digits n zeros =
    let w = replicate zeros (code "0") ++ digits n in
    sym (number_is w (omega (arith, length-append (replicate zeros (code "0")) (digits n), digits_some n))
    (zeros_each zeros (digits n) ∙ digits_digits n))
    ∙ rw (zeros_decimal zeros (digits n), decimal_digits n)
