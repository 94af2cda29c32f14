-- Things of a list taken in another order.
--
--   arranged   the things that an order names, in its order
--   upto       the order that changes nothing
--   Turned     an order of n things and the way back from it: what is asked of such tables, and tested by computation
--   PutBack    what is shown: things taken in an order, and then by the way back, stand as they did
-- Assumes nothing.
use Rattle.std.specs.Prelude.{◌≡◌, Bool, true, List, [], ◌∷◌, map, ℕ, zero, suc, ltb, length, get_or}
use Rattle.prelude.specs.Each.{each}

abbrev pub arranged : {A : Type 0} → A → List ℕ → List A → List A
arranged none order xs = map (λ (i : ℕ). get_or xs i none) order

abbrev pub upto_from : ℕ → ℕ → List ℕ
upto_from k zero = []
upto_from k (suc n) = k ∷ upto_from (suc k) n

abbrev pub upto : ℕ → List ℕ
upto n = upto_from 0 n

-- one of n things each, and none beyond
abbrev pub all_below : ℕ → List ℕ → Bool
all_below n order = each (λ (i : ℕ). ltb i n) order

-- past its end an order names n, which is none of n things
pub record Turned (n : ℕ) (order back : List ℕ) : Type 0 where
  pub order_all : length order ≡ n
  pub order_in : all_below n order ≡ true
  pub back_all : length back ≡ n
  pub back_in : all_below n back ≡ true
  pub again : arranged n back order ≡ upto n

abbrev pub PutBack : Type 1
PutBack = (A : Type 0) (none : A) (xs : List A) (order back : List ℕ) → Turned (length xs) order back
    → arranged none back (arranged none order xs) ≡ xs
