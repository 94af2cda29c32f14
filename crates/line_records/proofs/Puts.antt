-- One reading after another: where both say, what they say.
-- Assumes nothing.
use mathlib.Core.Path.{◌≡◌, refl, ap}
use mathlib.Core.List.{List, [], ◌∷◌, ◌++◌}
use Prim.Native.Nat.{ℕ}
use native.Mathlib.Omega.{arith}
use Rattle.line_layouts.specs.Entries.{Entry}
use Rattle.line_records.specs.Walks.{Fit, Fits, Misfit, put}
use Rattle.line_records.specs.Places.{behind}

pub fits_none : {A B : Type 0} (a : A) → ◌≡◌ {A = Fit A} Misfit (Fits a) → B
fits_none a e = let never : ◌≡◌ {A = ℕ} 0 1 = cc in absurd (omega arith)

pub record Puts (a : Fit Entry) (b : Fit (List Entry)) (es : List Entry) : Type 0 where
  pub head : Entry
  pub tail : List Entry
  pub is : head ∷ tail ≡ es
  pub head_said : a ≡ Fits head
  pub tail_said : b ≡ Fits tail

pub puts : (a : Fit Entry) (b : Fit (List Entry)) (es : List Entry) → put a b ≡ Fits es → Puts a b es
puts (Fits e) (Fits es') es f =
    let same : e ∷ es' ≡ es = cc in
    record { head = e; tail = es'; is = same; head_said = refl; tail_said = refl }
puts (Fits e) Misfit es f = fits_none es f
puts Misfit b es f = fits_none es f

-- ---- what is read behind what is read already

pub behind_more : (es : List Entry) (e : Entry) (r : Fit (List Entry))
    → behind (es ++ e ∷ []) r ≡ behind es (put (Fits e) r)
behind_more [] e r = refl
behind_more (x ∷ es) e r = ap (put (Fits x)) (behind_more es e r)

pub behind_misfit : (es : List Entry) → behind es Misfit ≡ Misfit
behind_misfit [] = refl
behind_misfit (e ∷ es) = rw (behind_misfit es)

pub behind_fits : (es fs : List Entry) → behind es (Fits fs) ≡ Fits (es ++ fs)
behind_fits [] fs = refl
behind_fits (e ∷ es) fs = rw (behind_fits es fs)
