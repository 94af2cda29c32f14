-- Laws of lines: the bytes before the first stop; a part that is laid stays within its line.
-- Assumes nothing.
use Rattle.std.specs.Prelude.{Result, Ok, Some, None, not, position}
use Rattle.std.specs.Option.{unwrap_or}
use Rattle.std.specs.List.{position_or_len}
use Rattle.answers.specs.declared.Answer.{Answer}
use mathlib.Core.Path.{◌≡◌, refl, sym, ap}
use mathlib.Core.Bool.{Bool, true, false, cond}
use mathlib.Core.List.{List, [], ◌∷◌}
use Prim.Native.Nat.{ℕ, suc, ◌+◌, ◌≤◌}
use native.Mathlib.Omega.{arith}
use borrow.Author.Tests.{ltb-false, leb-true}
use lib.Dec.{eqb, leb, ltb}
use lib.ListN.{length}
use Rattle.answers.specs.declared.Answer.TheVariants.{OutputTooShort}
use Rattle.output.specs.Placed.{Outcome, outcome, placed_at}
use Rattle.output.proofs.Laws.{refused_bytes}
use Rattle.input.specs.Lines.{up_to}

module _ (stop : ℕ) where
  abbrev at : List ℕ → ℕ
  at s = position_or_len (λ b. eqb b stop) s

  up_to_at : (s : List ℕ) → length (up_to stop s) ≡ at s
  unfolding up_to
  up_to_at [] = refl
  up_to_at (b ∷ bs) = go (eqb b stop) (up_to_at bs)
    where
      go : (t : Bool) → length (up_to stop bs) ≡ at bs
          → length (cond t [] (b ∷ up_to stop bs)) ≡ cond (not t) (1 + at bs) 0
      go true e = refl
      go false e = omega (arith, e)

  at_most : (s : List ℕ) → at s ≤ length s
  at_most [] = omega arith
  at_most (b ∷ bs) = go (eqb b stop) (at_most bs)
    where
      go : (t : Bool) → at bs ≤ length bs → cond (not t) (1 + at bs) 0 ≤ suc (length bs)
      go true h = omega arith
      go false h = omega (arith, h)

  pub up_to_first : (s : List ℕ)
      → (unwrap_or (position (λ b. eqb b stop) s) (length s) ≡ length (up_to stop s)) × (length (up_to stop s) ≤ length s)
  up_to_first s = (go (ltb (at s) (length s)) refl, omega (arith, up_to_at s, at_most s))
    where
      go : (t : Bool) → ltb (at s) (length s) ≡ t
          → unwrap_or (cond t (Some (at s)) None) (length s) ≡ length (up_to stop s)
      go true e = sym (up_to_at s)
      go false e = omega (arith, ltb-false (at s) (length s) e, up_to_at s, at_most s)

pub placed_within : (bytes old : List ℕ) (at : ℕ) (written : Result ℕ Answer) (new : List ℕ) (n : ℕ)
    → outcome written new ≡ placed_at bytes old at → written ≡ Ok n → at + n ≤ length old
unfolding placed_at
placed_within bytes old at written new n e is = go (leb (at + length bytes) (length old)) refl
  where
    go : (t : Bool) → leb (at + length bytes) (length old) ≡ t → at + n ≤ length old
    go false f = refused_bytes OutputTooShort old n new (sym (rw (f, is) at e))
    go true f =
        let room = leb-true (at + length bytes) (length old) f in
        let answers : Ok n ≡ Ok (length bytes) = ap (λ (o : Outcome). o.answer) (rw (f, is) at e) in
        let size : n ≡ length bytes = cc in omega arith
