-- The statements of specs/Laws.antt, proved; how digits go on with the quotient; and how a numeral is read, digit by
-- digit.
-- Assumes nothing.
use Rattle.std.specs.Prelude.{Some, None}
use mathlib.Core.Path.{◌≡◌, refl, ap}
use mathlib.Core.Logic.{◌⊎◌, ⊎_elim, inl, inr}
use mathlib.Core.Bool.{Bool, true, false}
use mathlib.Core.List.{List, [], ◌∷◌, ◌++◌, append_assoc}
use Prim.Native.Nat.{ℕ, zero, suc, ◌+◌, ◌-◌, ◌*◌, ◌/◌, ◌%◌, ◌≤◌, ◌<◌}
use Prim.Native.Char.{code}
use native.Mathlib.Numerals.{add-one}
use native.Mathlib.Omega.{arith}
use borrow.Author.Tests.{lt-ltb, le-ltb, ltb-true, ltb-false, le-leb, lt-leb, leb-true}
use lib.Dec.{ltb, leb}
use lib.ListN.{length, get_or, drop, length-append, get_or-append, drop_of_length-le}
use lib.Seq.{drop-cons}
use Rattle.prelude.specs.Each.{each}
use Rattle.prelude.proofs.Both.{both_left, both_right}
use Rattle.prelude.proofs.Each.{each_append}
use Rattle.digits.specs.Digits.{digit, digits_within, digits, two, is_digit, decimal_from, decimal, numeral}
use Rattle.digits.specs.Laws.{TwoSteps, DigitsMost, DigitsLong, DigitsSome, NoLeadingZero, DigitsDigits}
use Rattle.digits.specs.Laws.{DecimalDigits, NumeralDigits}

-- ---- digits, by the quotient

small_or_not : (n : ℕ) → (n < 10) ⊎ (10 ≤ n)
small_or_not n = go (ltb n 10) refl
  where
    go : (t : Bool) → ltb n 10 ≡ t → (n < 10) ⊎ (10 ≤ n)
    go true e = inl (ltb-true n 10 e)
    go false e = inr (ltb-false n 10 e)

-- any depth that is enough gives the same digits
within_same : (f g n : ℕ) → n ≤ f → n ≤ g → digits_within (suc f) (ltb n 10) n ≡ digits_within (suc g) (ltb n 10) n
within_same zero g n p q = rw (lt-ltb n 10 (omega arith))
within_same (suc f) zero n p q = rw (lt-ltb n 10 (omega arith))
within_same (suc f) (suc g) n p q =
    ⊎_elim (λ (h : n < 10). rw (lt-ltb n 10 h))
    (λ (h : 10 ≤ n). rw (le-ltb n 10 h)
    (ap (λ (l : List ℕ). l ++ digit (n % 10) ∷ []) (within_same f g (n / 10) (omega arith) (omega arith))))
    (small_or_not n)

pub digits_one : (n : ℕ) → n < 10 → digits n ≡ digit n ∷ []
unfolding digits
digits_one n h = rw (lt-ltb n 10 h)

pub digits_more : (n : ℕ) → 10 ≤ n → digits n ≡ digits (n / 10) ++ digit (n % 10) ∷ []
unfolding digits
digits_more zero h = absurd (omega arith)
digits_more (suc n) h =
    rw (le-ltb (suc n) 10 h)
    (ap (λ (l : List ℕ). l ++ digit (suc n % 10) ∷ []) (within_same n (suc n / 10) (suc n / 10) (omega arith)
    (omega arith)))

-- ---- .. and by a hundred: two digits a step

pub digits_two : (n : ℕ) → 10 ≤ n → n < 100 → digits n ≡ two n
digits_two n h g = rw (digits_more n h, digits_one (n / 10) (omega arith))

pub two_steps : TwoSteps
two_steps n h =
    let hundreds : n / 10 / 10 ≡ n / 100 = omega arith in
    let tens : n / 10 % 10 ≡ n % 100 / 10 = omega arith in
    let ones : n % 10 ≡ n % 100 % 10 = omega arith in
    rw (digits_more n (omega arith), digits_more (n / 10) (omega arith), hundreds, tens, ones)
    (append_assoc (digits (n / 100)) (digit (n % 100 / 10) ∷ []) (digit (n % 100 % 10) ∷ []))

-- ---- how many digits

pub length_one : (n : ℕ) → n < 10 → length (digits n) ≡ 1
length_one n h = rw (digits_one n h)

pub length_more : (n : ℕ) → 10 ≤ n → length (digits n) ≡ length (digits (n / 10)) + 1
length_more n h = rw (digits_more n h, length-append)

-- what holds of numbers below ten, and of every other where it does of the quotient, holds of all
module _ (P : ℕ → Type 0) (one : (n : ℕ) → n < 10 → P n) (more : (n : ℕ) → 10 ≤ n → P (n / 10) → P n) where
  by_depth : (depth n : ℕ) → n ≤ depth → P n
  by_depth zero n h = one n (omega arith)
  by_depth (suc depth) n h =
      ⊎_elim (λ (s : n < 10). one n s) (λ (s : 10 ≤ n). more n s (by_depth depth (n / 10) (omega arith)))
      (small_or_not n)

  pub by_quotient : (n : ℕ) → P n
  by_quotient n = by_depth n n (omega arith)

-- ten, k times
abbrev tens : ℕ → ℕ
tens zero = 1
tens (suc k) = 10 * tens k

tens_some : (k : ℕ) → 1 ≤ tens k
tens_some zero = omega arith
tens_some (suc k) = omega (arith, tens_some k)

length_within : (k n : ℕ) → n < tens (suc k) → length (digits n) ≤ suc k
length_within zero n h = omega (arith, length_one n (omega arith))
length_within (suc k) n h =
    ⊎_elim (λ (s : n < 10). omega (arith, length_one n s))
    (λ (s : 10 ≤ n). omega (arith, length_more n s, length_within k (n / 10) (omega arith)))
    (small_or_not n)

pub digits_some : DigitsSome
digits_some = by_quotient (λ (n : ℕ). 1 ≤ length (digits n)) (λ n s. omega (arith, length_one n s))
    (λ n s ih. omega (arith, length_more n s))

-- a number below a power of ten has no more digits than that power has noughts
pub digits_below : (k n : ℕ) → 1 ≤ k → n < tens k → length (digits n) ≤ k
digits_below zero n some h = absurd (omega arith)
digits_below (suc k) n some h = length_within k n h

-- .. and one that reaches it has more
pub digits_reach : (k n : ℕ) → tens k ≤ n → suc k ≤ length (digits n)
digits_reach zero n h = digits_some n
digits_reach (suc k) n h =
    let ten : 1 ≤ tens k = tens_some k in
    omega (arith, length_more n (omega (arith, ten)), digits_reach k (n / 10) (omega (arith, ten)))

pub digits_most : DigitsMost
digits_most n h = length_within 9 n (omega arith)

pub digits_long : DigitsLong
digits_long n h = length_within 19 n (omega arith)

pub no_leading_zero : NoLeadingZero
no_leading_zero =
    by_quotient (λ (n : ℕ). 1 ≤ n → code "0" < get_or (digits n) 0 0)
    (λ n s h. rw (digits_one n s) (omega arith))
    (λ n s ih h. rw (
      digits_more n s,
      get_or-append (digits (n / 10)) (digit (n % 10) ∷ []) 0 0
          (digits_some (n / 10)),
    )
    (ih (omega arith)))

-- ---- every byte is a digit, worth what it stands for

pub is_digit_lem : (b : ℕ) → 48 ≤ b → b ≤ 57 → is_digit b ≡ true
unfolding is_digit
is_digit_lem b h g = rw (le-leb 48 b h, le-leb b 57 g)

pub digit_least : (b : ℕ) → is_digit b ≡ true → 48 ≤ b
unfolding is_digit
digit_least b e = leb-true 48 b (both_left (leb 48 b) (leb b 57) e)

pub digit_most : (b : ℕ) → is_digit b ≡ true → b ≤ 57
unfolding is_digit
digit_most b e = leb-true b 57 (both_right (leb 48 b) (leb b 57) e)

pub digits_digits : DigitsDigits
digits_digits =
    by_quotient (λ (n : ℕ). each is_digit (digits n) ≡ true)
    (λ n s. rw (digits_one n s, is_digit_lem (n + 48) (omega arith) (omega arith)))
    (λ n s ih. rw (
      digits_more n s,
      each_append ℕ is_digit (digits (n / 10)) (digit (n % 10) ∷ []),
      ih,
      is_digit_lem (n % 10 + 48) (omega arith) (omega arith),
    ))

decimal_append : (a : ℕ) (xs ys : List ℕ) → decimal_from a (xs ++ ys) ≡ decimal_from (decimal_from a xs) ys
decimal_append a [] ys = refl
decimal_append a (x ∷ xs) ys = decimal_append (a * 10 + (x - code "0")) xs ys

pub decimal_digits : DecimalDigits
decimal_digits =
    by_quotient (λ (n : ℕ). decimal (digits n) ≡ n)
    (λ n s. rw (digits_one n s) (omega arith))
    (λ n s ih. rw (digits_more n s, decimal_append 0 (digits (n / 10)) (digit (n % 10) ∷ []), ih) (omega arith))

-- ---- a numeral

module _ (s : List ℕ) where
  pub numeral_empty : length s < 1 → None ≡ numeral s
  unfolding numeral
  numeral_empty h = rw (lt-leb 1 (length s) h)

  module _ (some : 1 ≤ length s) where
    pub numeral_long : 10 < length s → None ≡ numeral s
    unfolding numeral
    numeral_long h = rw (le-leb 1 (length s) some, lt-leb (length s) 10 h)

    module _ (few : length s ≤ 10) where
      pub numeral_no : each is_digit s ≡ false → None ≡ numeral s
      unfolding numeral
      numeral_no e = rw (le-leb 1 (length s) some, le-leb (length s) 10 few, e)

      pub numeral_value : each is_digit s ≡ true → Some (decimal s) ≡ numeral s
      unfolding numeral
      numeral_value e = rw (le-leb 1 (length s) some, le-leb (length s) 10 few, e)

pub numeral_digits : NumeralDigits
numeral_digits n h =
    rw (← numeral_value (digits n) (digits_some n) (digits_most n h) (digits_digits n), decimal_digits n)

-- ---- the walk over a numeral, at digit i

module _ (s : List ℕ) (i n : ℕ) where
  pub decimal_on : i < length s
      → decimal_from n (drop i s) ≡ decimal_from (n * 10 + (get_or s i 0 - 48)) (drop (i + 1) s)
  decimal_on h = rw (drop-cons s i 0 h, add-one i)

  pub decimal_ends : length s ≤ i → decimal_from n (drop i s) ≡ n
  decimal_ends h = rw (drop_of_length-le s {i = i} h)

-- what i digits are worth is below ten, i times: ten of them do not fill eight bytes
abbrev pub ceiling : ℕ → ℕ
ceiling i = tens i

pub ceiling_next : (i : ℕ) → ceiling (i + 1) ≡ ceiling i * 10
ceiling_next i = rw (add-one i) (omega arith)

pub ceiling_more : (i n d : ℕ) → n < ceiling i → d ≤ 9 → n * 10 + d < ceiling (i + 1)
ceiling_more i n d h g = rw (add-one i) (omega arith)

pub ceiling_most : (i : ℕ) → i ≤ 9 → ceiling i ≤ 1_000_000_000
ceiling_most i h = go i 9 h
  where
    go : (j k : ℕ) → j ≤ k → tens j ≤ tens k
    go zero zero h = omega arith
    go zero (suc k) h = omega (arith, go zero k (omega arith))
    go (suc j) zero h = absurd (omega arith)
    go (suc j) (suc k) h = omega (arith, go j k (omega arith))
