-- A call by its list of checks: what holds of it where all of them hold, and where one fails. And 0 is the number of
-- what is done alone.
-- Assumes nothing.
use mathlib.Core.Path.{◌≡◌, refl, sym}
use mathlib.Core.Bool.{Bool, true, false, ◌&&◌, false≢true}
use mathlib.Core.List.{List, [], ◌∷◌}
use native.Mathlib.Omega.{arith}
use Rattle.prelude.specs.All.{all}
use Rattle.prelude.specs.Choice.{◌unless◌then◌}
use Rattle.prelude.specs.Checks.{Check, tests, checked}
use Rattle.prelude.proofs.All.{all_first}
use Rattle.answers.specs.declared.Answer.{Answer}
use Rattle.answers.specs.declared.Answer.TheVariants as answer
use Rattle.answers.specs.declared.Answer.TheVariants.{Done}
use Rattle.answers.specs.Numbers.{number_of}

-- two calls that have the same checks: both are done, or both are refused by the same check
pub checked_both : {A O Q : Type 0} (P : Bool → O → Q → Type 0) (r : A → O) (q : A → Q) (cs : List (Check A)) (d : O)
    (f : Q) → ((a : A) → P false (r a) (q a)) → (all (tests cs) ≡ true → P true d f)
    → P (all (tests cs)) (checked r cs d) (checked q cs f)
checked_both P r q [] d f refused done = done refl
checked_both P r q (c ∷ []) d f refused done = go c.holds refl
  where
    go : (t : Bool) → c.holds ≡ t → P t (r c.answer unless t then d) (q c.answer unless t then f)
    go true e = done e
    go false e = refused c.answer
checked_both P r q (c ∷ n ∷ cs) d f refused done =
    go c.holds refl
    (λ (e : c.holds ≡ true).
    checked_both P r q (n ∷ cs) d f refused (λ es. done (all_first c.holds (tests (n ∷ cs)) e es)))
  where
    go : (t : Bool) → c.holds ≡ t
        → (c.holds ≡ true → P (all (tests (n ∷ cs))) (checked r (n ∷ cs) d) (checked q (n ∷ cs) f))
        → P (t && all (tests (n ∷ cs))) (r c.answer unless t then checked r (n ∷ cs) d)
        (q c.answer unless t then checked q (n ∷ cs) f)
    go true e rest = rest e
    go false e rest = refused c.answer

module _ {A O : Type 0} (refuse : A → O) (cs : List (Check A)) (done : O) where
  -- a call whose checks all hold is done, and another is refused
  pub checked_told : (P : Bool → O → Type 0) → ((a : A) → P false (refuse a)) → (all (tests cs) ≡ true → P true done)
      → P (all (tests cs)) (checked refuse cs done)
  checked_told P refused next =
      checked_both (λ (t : Bool) (o other : O). P t o) refuse refuse cs done done refused next

  pub checked_done : all (tests cs) ≡ true → checked refuse cs done ≡ done
  checked_done =
      checked_told (λ (t : Bool) (o : O). t ≡ true → o ≡ done) (λ a e. absurd (false≢true e)) (λ es e. refl)

  -- where one fails, what is done does not matter
  pub checked_fails : (a : A) → all (tests cs) ≡ false
      → checked refuse cs done ≡ refuse (checked (λ (x : A). x) cs a)
  checked_fails a =
      checked_both (λ (t : Bool) (o : O) (x : A). t ≡ false → o ≡ refuse x) refuse (λ (x : A). x) cs done a
      (λ x e. refl) (λ es e. absurd (false≢true (sym e)))

-- 0 is given to what is done, and to nothing else
pub zero_done : (a : Answer) → number_of a ≡ 0 → a ≡ Done
zero_done answer.Done e = refl
zero_done answer.NoSuchSlot e = absurd (omega (arith, e))
zero_done answer.SlotTaken e = absurd (omega (arith, e))
zero_done answer.SlotClosed e = absurd (omega (arith, e))
zero_done answer.NotOneRecord e = absurd (omega (arith, e))
zero_done answer.UnknownOrder e = absurd (omega (arith, e))
zero_done answer.WrongVersion e = absurd (omega (arith, e))
zero_done answer.UnknownKind e = absurd (omega (arith, e))
zero_done answer.BodyMisfit e = absurd (omega (arith, e))
zero_done answer.OutOfPlace e = absurd (omega (arith, e))
zero_done answer.PartOpen e = absurd (omega (arith, e))
zero_done answer.PartNotOpen e = absurd (omega (arith, e))
zero_done answer.TooManyParts e = absurd (omega (arith, e))
zero_done (answer.StillOpen head site) e = absurd (omega (arith, e))
zero_done answer.NoRoom e = absurd (omega (arith, e))
zero_done answer.TooManyResults e = absurd (omega (arith, e))
zero_done answer.NotSound e = absurd (omega (arith, e))
zero_done answer.FloorTooHigh e = absurd (omega (arith, e))
zero_done answer.OutputTooShort e = absurd (omega (arith, e))
zero_done answer.NotACountLine e = absurd (omega (arith, e))
zero_done answer.NameNotText e = absurd (omega (arith, e))
zero_done answer.NoPcr e = absurd (omega (arith, e))
zero_done answer.NoTime e = absurd (omega (arith, e))
zero_done answer.WrongWafer e = absurd (omega (arith, e))
zero_done answer.TooManyWafers e = absurd (omega (arith, e))
zero_done answer.WaferOpen e = absurd (omega (arith, e))
