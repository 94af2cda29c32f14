-- Two numbers joined bit by bit.
-- Assumes nothing.
use mathlib.Core.Path.{◌≡◌, refl}
use mathlib.Core.Bool.{Bool, true, false, ◌&&◌}
use Prim.Native.Nat.{ℕ, ◌+◌, ◌/◌, ◌%◌, ◌^◌}
use native.Mathlib.Omega.{arith}
use borrow.Author.Tests.{eqb-true, eqb-false, eq-eqb, ne_eqb}
use lib.Dec.{eqb}
use lib.Bits.{bit_or, bit_and, and_le_l, and_le_r, or_add_and, or_shr, or_mod}
use Rattle.prelude.specs.Bits.{JoinAbove, JoinBit}

-- joined, two numbers are nothing exactly if both are
pub join_none : (a b : ℕ) → eqb (bit_or a b) 0 ≡ (eqb a 0 && eqb b 0)
join_none a b = go (eqb a 0) (eqb b 0) refl refl
  where
    joined : bit_or a b + bit_and a b ≡ a + b
    joined = or_add_and a b

    go : (s t : Bool) → eqb a 0 ≡ s → eqb b 0 ≡ t → eqb (bit_or a b) 0 ≡ (s && t)
    go true true e f = eq-eqb (bit_or a b) 0 (omega (arith, joined, eqb-true a 0 e, eqb-true b 0 f))
    go true false e f = ne_eqb (bit_or a b) 0 (λ q. eqb-false b 0 f (omega (arith, joined, and_le_l a b, q)))
    go false t e f = ne_eqb (bit_or a b) 0 (λ q. eqb-false a 0 e (omega (arith, joined, and_le_r a b, q)))

pub join_above : JoinAbove
join_above k a b = rw (or_shr a b k) (join_none (a / 2 ^ k) (b / 2 ^ k))

pub join_bit : JoinBit
join_bit k a b = rw (or_shr a b k, or_mod (a / 2 ^ k) (b / 2 ^ k) 1) (join_none (a / 2 ^ k % 2) (b / 2 ^ k % 2))
