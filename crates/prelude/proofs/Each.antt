-- The statements of specs/Each.antt, proved; and how a walk over a list goes on.
-- Assumes nothing.
use mathlib.Core.Path.{◌≡◌, refl}
use mathlib.Core.Bool.{Bool, true, false, ◌&&◌}
use mathlib.Core.List.{List, [], ◌∷◌}
use Prim.Native.Nat.{ℕ, zero, suc, ◌+◌, ◌≤◌, ◌<◌}
use native.Mathlib.Numerals.{add-one}
use native.Mathlib.Omega.{arith}
use lib.ListN.{length, get_or, drop, drop_of_length-le}
use lib.Seq.{drop-cons}
use Rattle.prelude.specs.Each.{each, EachAppend, EachTake, EachAt}
use Rattle.prelude.proofs.Both.{both_left, both_right}

both_assoc : (a b c : Bool) → ((a && b) && c) ≡ (a && (b && c))
both_assoc true b c = refl
both_assoc false b c = refl

pub each_append : EachAppend
each_append A passes [] ys = refl
each_append A passes (x ∷ xs) ys =
    rw (each_append A passes xs ys, both_assoc (passes x) (each passes xs) (each passes ys))

pub each_take : EachTake
each_take A passes zero xs e = refl
each_take A passes (suc n) [] e = refl
each_take A passes (suc n) (x ∷ xs) e =
    rw (
      both_left (passes x) (each passes xs) e,
      each_take A passes n xs (both_right (passes x) (each passes xs) e),
    )

pub each_at : EachAt
each_at A passes [] none i e h = absurd (omega arith)
each_at A passes (x ∷ xs) none zero e h = both_left (passes x) (each passes xs) e
each_at A passes (x ∷ xs) none (suc i) e h =
    each_at A passes xs none i (both_right (passes x) (each passes xs) e) (omega arith)

-- ---- the walk, at element i

module _ (A : Type 0) (passes : A → Bool) (xs : List A) (i : ℕ) (none : A) where
  pub each_ends : length xs ≤ i → each passes (drop i xs) ≡ true
  each_ends h = rw (drop_of_length-le xs {i = i} h)

  module _ (h : i < length xs) where
    pub each_fails : passes (get_or xs i none) ≡ false → each passes (drop i xs) ≡ false
    each_fails e = rw (drop-cons xs i none h, e)

    pub each_on : passes (get_or xs i none) ≡ true → each passes (drop i xs) ≡ each passes (drop (i + 1) xs)
    each_on e = rw (drop-cons xs i none h, e, add-one i)
