-- The statements of specs/Laws.antt on parts and keys, proved: of two numbers that are made of a high one and a low one,
-- the low ones below a span, and then of two such in one.
-- Assumes nothing.
use mathlib.Core.Path.{◌≡◌, refl, ◌∙◌}
use mathlib.Core.Bool.{Bool, true, false, ◌&&◌, ◌||◌, and_assoc}
use Prim.Native.Nat.{ℕ, ◌+◌, ◌*◌, ◌≤◌, ◌<◌}
use native.Mathlib.Nat.{mul-le-mul_right}
use native.Mathlib.Omega.{arith}
use borrow.Author.Tests.{lt-ltb, le-ltb, eq-eqb, ne_eqb}
use lib.Dec.{eqb, ltb}
use Rattle.rising.proofs.Laws.{side}
use Rattle.session.specs.Session.{part_of}
use Rattle.session.specs.Laws.{PartSame, PartRises, PartGives, KeySame, KeyRises}

-- of two numbers one is below the other, or they are the same
pub three_ways : {C : Type 0} (a b : ℕ) → (a < b → C) → (a ≡ b → C) → (b < a → C) → C
three_ways a b low same high =
    side a b low (λ (h : b ≤ a). side b a high (λ (g : a ≤ b). same (omega arith)))

-- ---- a high number and a low one

module _ (span a b c d : ℕ) (low : b < span) (low' : d < span) where
  high_same : eqb (a * span + b) (c * span + d) ≡ (eqb a c && eqb b d)
  high_same =
      three_ways a c
      (λ (h : a < c).
      let apart = mul-le-mul_right span h in
      rw (ne_eqb a c (omega arith)) (ne_eqb (a * span + b) (c * span + d) (omega arith)))
      (λ (e : a ≡ c).
      rw (e, eq-eqb c c refl)
      (three_ways b d
      (λ (h : b < d). rw (ne_eqb b d (omega arith)) (ne_eqb (c * span + b) (c * span + d) (omega arith)))
      (λ (h : b ≡ d). rw (eq-eqb b d h) (eq-eqb (c * span + b) (c * span + d) (omega arith)))
      (λ (h : d < b). rw (ne_eqb b d (omega arith)) (ne_eqb (c * span + b) (c * span + d) (omega arith)))))
      (λ (h : c < a).
      let apart = mul-le-mul_right span h in
      rw (ne_eqb a c (omega arith)) (ne_eqb (a * span + b) (c * span + d) (omega arith)))

  high_rises : ltb (a * span + b) (c * span + d) ≡ (ltb a c || (eqb a c && ltb b d))
  high_rises =
      three_ways a c
      (λ (h : a < c).
      let apart = mul-le-mul_right span h in
      rw (lt-ltb a c h) (lt-ltb (a * span + b) (c * span + d) (omega arith)))
      (λ (e : a ≡ c).
      rw (e, le-ltb c c (omega arith), eq-eqb c c refl)
      (side b d
      (λ (h : b < d). rw (lt-ltb b d h) (lt-ltb (c * span + b) (c * span + d) (omega arith)))
      (λ (h : d ≤ b). rw (le-ltb b d h) (le-ltb (c * span + b) (c * span + d) (omega arith)))))
      (λ (h : c < a).
      let apart = mul-le-mul_right span h in
      rw (le-ltb a c (omega arith), ne_eqb a c (omega arith))
      (le-ltb (a * span + b) (c * span + d) (omega arith)))

-- ---- parts and keys

pub part_same : PartSame
part_same head site head' site' s s' = high_same 256 head site head' site' s s'

pub part_rises : PartRises
part_rises head site head' site' s s' = high_rises 256 head site head' site' s s'

pub part_gives : PartGives
part_gives part low = omega arith

pub key_same : KeySame
key_same head site bin head' site' bin' s s' b b' =
    high_same 65_536 (part_of head site) bin (part_of head' site') bin' b b'
    ∙ rw (part_same head site head' site' s s') (and_assoc (eqb head head') (eqb site site') (eqb bin bin'))

pub key_rises : KeyRises
key_rises head site bin head' site' bin' s s' b b' =
    high_rises 65_536 (part_of head site) bin (part_of head' site') bin' b b'
    ∙ rw (part_rises head site head' site' s s', part_same head site head' site' s s')
    (regrouped (ltb head head') (eqb head head') (ltb site site') (eqb site site') (ltb bin bin'))
  where
    regrouped : (h e s f b : Bool) → ((h || (e && s)) || ((e && f) && b)) ≡ (h || (e && (s || (f && b))))
    regrouped true e s f b = refl
    regrouped false true s f b = refl
    regrouped false false s f b = refl
