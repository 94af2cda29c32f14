-- Laws of things taken in another order: taken twice is taken once by the orders composed, and the order that changes
-- nothing changes nothing.
-- Assumes nothing.
use mathlib.Core.Path.{◌≡◌, refl, ap, sym, ◌∙◌}
use mathlib.Core.Bool.{true}
use mathlib.Core.List.{List, [], ◌∷◌, map}
use Prim.Native.Nat.{ℕ, zero, suc, ◌+◌, ◌<◌}
use native.Mathlib.Omega.{arith}
use borrow.Author.Tests.{ltb-true}
use lib.Dec.{ltb}
use lib.ListN.{length, get_or, drop, drop_of_length-le, get_or-eq_default, get_or-map}
use lib.Seq.{drop-cons}
use Rattle.prelude.proofs.Each.{each_at}
use Rattle.line_layouts.specs.Arranging.{arranged, upto_from, upto, all_below, PutBack}

module _ (A : Type 0) (none : A) where
  pub length_arranged : (order : List ℕ) (xs : List A) → length (arranged none order xs) ≡ length order
  length_arranged [] xs = refl
  length_arranged (i ∷ order) xs = ap suc (length_arranged order xs)

  pub arranged_in : (order : List ℕ) (xs : List A) (j : ℕ) → j < length order
      → get_or (arranged none order xs) j none ≡ get_or xs (get_or order j 0) none
  arranged_in [] xs j h = absurd (omega arith)
  arranged_in (i ∷ order) xs zero h = refl
  arranged_in (i ∷ order) xs (suc j) h = arranged_in order xs j (omega arith)

  -- past the end of an order stands a number past the end of the things
  pub arranged_at : (order : List ℕ) (xs : List A) (j : ℕ)
      → get_or (arranged none order xs) j none ≡ get_or xs (get_or order j (length xs)) none
  arranged_at [] xs j = sym (get_or-eq_default xs none {n = length xs} (omega arith))
  arranged_at (i ∷ order) xs zero = refl
  arranged_at (i ∷ order) xs (suc j) = arranged_at order xs j

  -- of two lists that are alike the same is taken
  pub arranged_same : (order : List ℕ) (xs ys : List A) → ((i : ℕ) → get_or xs i none ≡ get_or ys i none)
      → arranged none order xs ≡ arranged none order ys
  arranged_same [] xs ys e = refl
  arranged_same (i ∷ order) xs ys e =
      ap (λ (a : A). a ∷ arranged none order xs) (e i)
      ∙ ap (λ (l : List A). get_or ys i none ∷ l) (arranged_same order xs ys e)

  arranged_twice : (back order : List ℕ) (xs : List A)
      → arranged none back (arranged none order xs) ≡ arranged none (arranged (length xs) back order) xs
  arranged_twice [] order xs = refl
  arranged_twice (i ∷ back) order xs =
      ap (λ (a : A). a ∷ arranged none back (arranged none order xs)) (arranged_at order xs i)
      ∙ ap (λ (l : List A). get_or xs (get_or order i (length xs)) none ∷ l) (arranged_twice back order xs)

  arranged_from : (n k : ℕ) (xs : List A) → k + n ≡ length xs → arranged none (upto_from k n) xs ≡ drop k xs
  arranged_from zero k xs h = sym (drop_of_length-le xs {i = k} (omega arith))
  arranged_from (suc n) k xs h = rw (drop-cons xs k none (omega arith), arranged_from n (suc k) xs (omega arith))

  arranged_upto : (xs : List A) → arranged none (upto (length xs)) xs ≡ xs
  arranged_upto xs = arranged_from (length xs) 0 xs (omega arith)

pub put_back : PutBack
put_back A none xs order back t =
    arranged_twice A none back order xs
    ∙ ap (λ (o : List ℕ). arranged none o xs) t.again
    ∙ arranged_upto A none xs

-- pictures of things, taken in the same order
pub map_arranged : (A B : Type 0) (f : A → B) (none : A) (order : List ℕ) (xs : List A)
    → map f (arranged none order xs) ≡ arranged (f none) order (map f xs)
map_arranged A B f none [] xs = refl
map_arranged A B f none (i ∷ order) xs =
    ap (λ (b : B). b ∷ map f (arranged none order xs)) (sym (get_or-map f xs i none))
    ∙ ap (λ (l : List B). get_or (map f xs) i (f none) ∷ l) (map_arranged A B f none order xs)

pub below_at : (n : ℕ) (order : List ℕ) (j : ℕ) → all_below n order ≡ true → j < length order → get_or order j 0 < n
below_at n order j e h = ltb-true (get_or order j 0) n (each_at ℕ (λ (i : ℕ). ltb i n) order 0 j e h)
