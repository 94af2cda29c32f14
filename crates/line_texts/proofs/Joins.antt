-- Pieces joined by separators and cut again, and the other way round: nothing here knows of columns.
-- Assumes nothing.
use mathlib.Core.Path.{◌≡◌, refl, ap, sym, ◌∙◌}
use mathlib.Core.Bool.{Bool, true, false}
use mathlib.Core.List.{List, [], ◌∷◌, ◌++◌}
use Prim.Native.Nat.{ℕ, ◌≤◌}
use native.Mathlib.Omega.{arith}
use borrow.Author.Tests.{eqb-true}
use lib.Dec.{eqb}
use lib.ListN.{length}
use Rattle.line_texts.specs.Pieces.{onto, split}

unfoldable pub joined : ℕ → List ℕ → List (List ℕ) → List ℕ
joined sep p [] = p
joined sep p (q ∷ qs) = p ++ sep ∷ joined sep q qs

abbrev pub lined : ℕ → List (List ℕ) → List ℕ
lined sep [] = []
lined sep (p ∷ ps) = joined sep p ps

-- ---- text cut and joined again

module _ (sep : ℕ) where
  onto_some : (b : ℕ) (ps : List (List ℕ)) → 1 ≤ length (onto b ps)
  onto_some b [] = omega arith
  onto_some b (p ∷ ps) = omega arith

  pub split_some : (s : List ℕ) → 1 ≤ length (split sep s)
  unfolding split
  split_some [] = omega arith
  split_some (b ∷ bs) = go (eqb b sep) refl
    where
      go : (t : Bool) → eqb b sep ≡ t → 1 ≤ length (split sep (b ∷ bs))
      go true e = rw e (omega arith)
      go false e = rw e (onto_some b (split sep bs))

  lined_onto : (b : ℕ) (ps : List (List ℕ)) → lined sep (onto b ps) ≡ b ∷ lined sep ps
  unfolding joined
  lined_onto b [] = refl
  lined_onto b (p ∷ []) = refl
  lined_onto b (p ∷ q ∷ qs) = refl

  lined_more : (ps : List (List ℕ)) → 1 ≤ length ps → lined sep ([] ∷ ps) ≡ sep ∷ lined sep ps
  unfolding joined
  lined_more [] h = absurd (omega arith)
  lined_more (p ∷ ps) h = refl

  pub split_lined : (s : List ℕ) → lined sep (split sep s) ≡ s
  unfolding split joined
  split_lined [] = refl
  split_lined (b ∷ bs) = go (split_lined bs) (eqb b sep) refl
    where
      go : lined sep (split sep bs) ≡ bs → (t : Bool) → eqb b sep ≡ t → lined sep (split sep (b ∷ bs)) ≡ b ∷ bs
      go so_far true e =
          rw e
          (lined_more (split sep bs) (split_some bs)
          ∙ ap (λ (l : List ℕ). sep ∷ l) so_far
          ∙ ap (λ (x : ℕ). x ∷ bs) (sym (eqb-true b sep e)))
      go so_far false e = rw e (lined_onto b (split sep bs) ∙ ap (λ (l : List ℕ). b ∷ l) so_far)
