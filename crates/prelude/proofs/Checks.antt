-- A choice in order of its checks: what holds of it, and its number, told by their list.
-- Assumes nothing.
use Prim.Native.Nat.{ℕ}
use mathlib.Core.Path.{◌≡◌, refl}
use mathlib.Core.Bool.{Bool, true, false, cond}
use mathlib.Core.List.{List, [], ◌∷◌, ◌++◌}
use Rattle.prelude.specs.All.{all}
use Rattle.prelude.specs.Choice.{◌unless◌then◌}
use Rattle.prelude.specs.Checks.{Check, tests, checked, number_by, numbered}
use Rattle.prelude.specs.Each.{each}
use Rattle.prelude.proofs.All.{all_first}
use Rattle.prelude.proofs.Both.{both_left, both_right}

-- what holds of a refusal, and of what comes next where the test holds, holds of the choice
pub choice_by : {A : Type 0} (P : A → Type 0) (a : A) (test : Bool) (b : A) → P a → (test ≡ true → P b)
    → P (a unless test then b)
choice_by P a true b refused next = next refl
choice_by P a false b refused next = refused

-- one more check before the others; what comes after it is asked only where it holds
pub check_first : {A : Type 0} (number : A → ℕ) (a : A) (test : Bool) (b : A) (n rest : ℕ) → number a ≡ n
    → (test ≡ true → number b ≡ rest) → number (a unless test then b) ≡ cond test rest n
check_first number a true b n rest is next = next refl
check_first number a false b n rest is next = is

module _ {A O : Type 0} (refuse : A → O) where
  -- what holds of every refusal that the checks may give, and of what is done where all hold, holds of the call
  pub checked_where : (P : O → Type 0) (given : A → Bool) (cs : List (Check A)) (done : O)
      → each (λ (c : Check A). given c.answer) cs ≡ true → ((a : A) → given a ≡ true → P (refuse a))
      → (all (tests cs) ≡ true → P done) → P (checked refuse cs done)
  checked_where P given [] done told refused next = next refl
  checked_where P given (c ∷ cs) done told refused next =
      let rest = each (λ (x : Check A). given x.answer) cs in
      choice_by P (refuse c.answer) c.holds (checked refuse cs done)
      (refused c.answer (both_left (given c.answer) rest told)) (λ e.
      checked_where P given cs done (both_right (given c.answer) rest told) refused (λ es.
      next (all_first c.holds (tests cs) e es)))

  -- .. and so what holds of every refusal
  pub checked_by : (P : O → Type 0) (cs : List (Check A)) (done : O) → ((a : A) → P (refuse a))
      → (all (tests cs) ≡ true → P done) → P (checked refuse cs done)
  checked_by P cs done refused next = checked_where P (λ (a : A). true) cs done (any cs) (λ a told. refused a) next
    where
      any : (cs : List (Check A)) → each (λ (c : Check A). true) cs ≡ true
      any [] = refl
      any (c ∷ cs) = any cs

  -- its number is that of the first check that fails, and where all hold that of what is done
  module _ (of : A → ℕ) (number : O → ℕ) (is : (a : A) → number (refuse a) ≡ of a) where
    pub checked_number : (cs : List (Check A)) (more : List (Check ℕ)) (done : O)
        → (all (tests cs) ≡ true → number done ≡ number_by more)
        → number (checked refuse cs done) ≡ number_by (numbered of cs ++ more)
    checked_number [] more done next = next refl
    checked_number (c ∷ cs) more done next =
        check_first number (refuse c.answer) c.holds (checked refuse cs done) (of c.answer)
        (number_by (numbered of cs ++ more)) (is c.answer) (λ e.
        checked_number cs more done (λ es. next (all_first c.holds (tests cs) e es)))
