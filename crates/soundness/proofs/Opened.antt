-- What `soundness::open_at` tells a call that goes on with its checks.
-- Assumes nothing.
use Prim.Native.Nat.{ℕ, ◌<◌}
use mathlib.Core.Path.{◌≡◌, refl, sym, ap, ◌∙◌}
use mathlib.Core.Bool.{Bool, true, false}
use mathlib.Core.List.{List, [], ◌∷◌, ◌++◌}
use borrow.Author.Tests.{ltb-true}
use Rattle.std.specs.Prelude.{Result, Ok, Err}
use Rattle.prelude.specs.All.{all}
use Rattle.prelude.specs.Checks.{Check, tests, checked}
use Rattle.prelude.proofs.All.{all_first, all_at}
use Rattle.answers.specs.declared.Answer.{Answer}
use Rattle.rows.specs.Rows.{slot_count}
use Rattle.house.specs.declared.House.{House}
use Rattle.house.specs.House.{sound, promised}
use Rattle.house.specs.Calls.{slot_at, slot_checks}

either : {P : Type 0} (b : Bool) → (b ≡ true → P) → (b ≡ false → P) → P
either true f g = f refl
either false f g = g refl

module _ {A B : Type 0} (done : B) where
  -- a refusal of some checks is that of a call that has more of them
  pub stopped : {O : Type 0} (refuse : A → O) (cs more : List (Check A)) (good : O) (a : A)
      → checked Err cs (Ok done) ≡ Err a → checked refuse (cs ++ more) good ≡ refuse a
  stopped refuse [] more good a e = cc
  stopped refuse (c ∷ cs) more good a e =
      either c.holds
      (λ (t : c.holds ≡ true). rw t (stopped refuse cs more good a (rw t at e)))
      (λ (t : c.holds ≡ false).
      let told = rw t at e in
      let same : c.answer ≡ a = cc in
      rw (t, same))

  pub passed : (cs : List (Check A)) (i : B) → checked Err cs (Ok done) ≡ Ok i → (all (tests cs) ≡ true) × (i ≡ done)
  passed [] i e = (refl, cc)
  passed (c ∷ cs) i e =
      either c.holds
      (λ (t : c.holds ≡ true).
      let rest = passed cs i (rw t at e) in
      (all_first c.holds (tests cs) t rest.0, rest.1))
      (λ (t : c.holds ≡ false). let told = rw t at e in cc)

pub record OpenAt (h : House) (slot i owed : ℕ) : Type 0 where
  pub is : i ≡ slot
  pub owes : owed ≡ promised h
  pub fine : sound h ≡ true
  pub inside : slot < slot_count
  pub taken : (slot_at h slot).taken ≡ true

module _ (h : House) (slot : ℕ) (r : Result (ℕ × ℕ) Answer)
    (told : r ≡ checked Err (slot_checks h slot) (Ok (slot, promised h))) where
  pub opened : (i owed : ℕ) → r ≡ Ok (i, owed) → OpenAt h slot i owed
  opened i owed is =
      let all = passed (slot, promised h) (slot_checks h slot) (i, owed) (sym told ∙ is) in
      let at = all_at (tests (slot_checks h slot)) all.0 in
      record {
        is = ap (λ (p : ℕ × ℕ). p.0) all.1;
        owes = ap (λ (p : ℕ × ℕ). p.1) all.1;
        fine = at 0;
        inside = ltb-true slot slot_count (at 1);
        taken = at 2;
      }

  pub refused : {O : Type 0} (refuse : Answer → O) (more : List (Check Answer)) (good : O) (a : Answer) → r ≡ Err a
      → checked refuse (slot_checks h slot ++ more) good ≡ refuse a
  refused refuse more good a is = stopped (slot, promised h) refuse (slot_checks h slot) more good a (sym told ∙ is)
