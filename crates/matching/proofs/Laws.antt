-- The statements of specs/Matching.antt, proved.
-- Assumes nothing.
use mathlib.Core.Path.{◌≡◌, refl}
use mathlib.Core.Bool.{true}
use mathlib.Core.List.{List, [], ◌∷◌}
use Prim.Native.Nat.{ℕ}
use native.Mathlib.Omega.{arith}
use borrow.Author.Tests.{eqb-true, eq-eqb}
use lib.Dec.{eqb}
use Rattle.prelude.proofs.Both.{both_left, both_right}
use Rattle.matching.specs.Matching.{same, SameSelf, SameOnly}

pub same_self : SameSelf
same_self [] = refl
same_self (x ∷ xs) = rw (eq-eqb x x refl, same_self xs)

pub same_only : SameOnly
same_only [] [] e = refl
same_only [] (y ∷ ys) e = let never : ◌≡◌ {A = ℕ} 0 1 = cc in absurd (omega arith)
same_only (x ∷ xs) [] e = let never : ◌≡◌ {A = ℕ} 0 1 = cc in absurd (omega arith)
same_only (x ∷ xs) (y ∷ ys) e =
    let first : x ≡ y = eqb-true x y (both_left (eqb x y) (same xs ys) e) in
    let rest : xs ≡ ys = same_only xs ys (both_right (eqb x y) (same xs ys) e) in
    rw (first, rest)
