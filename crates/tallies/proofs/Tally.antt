-- The statements of specs/Laws.antt on the tally, proved by recursion on its rows: one part more keeps their order, and
-- adds one to what is counted of its head, site and bin.
--
--   count_in   how many parts rows count of a head, a site and a bin
-- Assumes nothing.
use mathlib.Core.Path.{◌≡◌, refl, sym, ap, ◌∙◌}
use mathlib.Core.Bool.{Bool, true, false, cond, ◌&&◌, ◌||◌, and-false}
use mathlib.Core.List.{List, [], ◌∷◌}
use Prim.Native.Nat.{ℕ, ◌+◌, ◌≤◌}
use native.Mathlib.Nat.{add-zero, zero-add}
use native.Mathlib.Omega.{arith}
use borrow.Author.Tests.{eqb-true, leb-true, lt-ltb, le-ltb, le-leb, ne_eqb}
use lib.Dec.{eqb, leb, ltb}
use Rattle.prelude.specs.Each.{each}
use Rattle.prelude.proofs.Both.{both_left, both_right}
use Rattle.rows.proofs.Laws.{same_or}
use Rattle.house.specs.declared.Row.{Row}
use Rattle.tallies.specs.Results.{PartResult, same, count_of, below, result_in, row, counting, tally_of}
use Rattle.tallies.specs.Results.{has_row, before_all, rises}
use Rattle.tallies.specs.Laws.{TallyCounts, TallyRises}
use Rattle.tallies.proofs.Order.{Below, same_told, same_own, below_is, below_apart, behind_not, behind_apart}
use Rattle.tallies.proofs.Order.{below_own, placed, below_told, all_on}

-- ---- one part more

-- its row is before the next, is the next, or is behind it
module _ (r : PartResult) (w : Row) (ws : List Row) where
  pub counting_low : Below r (result_in w) → counting r (w ∷ ws) ≡ row r 1 ∷ (w ∷ ws)
  unfolding counting
  counting_low b = rw (below_is r (result_in w) b)

  pub counting_same : r ≡ result_in w → counting r (w ∷ ws) ≡ row (result_in w) (w.count + 1) ∷ ws
  unfolding counting
  counting_same e = rw (e, below_own (result_in w), same_own (result_in w))

  pub counting_high : Below (result_in w) r → counting r (w ∷ ws) ≡ w ∷ counting r ws
  unfolding counting
  counting_high b = rw (behind_not r (result_in w) b, behind_apart r (result_in w) b)

-- ---- the order

-- what is before a result and all rows is before all rows with the result
before_counting : (q r : PartResult) (ws : List Row) → below q r ≡ true → before_all q ws ≡ true
    → before_all q (counting r ws) ≡ true
unfolding counting
before_counting q r [] b e = rw b
before_counting q r (w ∷ ws) b e =
    let first = both_left (below q (result_in w)) (before_all q ws) e in
    let rest = both_right (below q (result_in w)) (before_all q ws) e in
    placed r (result_in w)
    (λ (l : Below r (result_in w)). rw (counting_low r w ws l, b) e)
    (λ (l : r ≡ result_in w). rw (counting_same r w ws l) e)
    (λ (l : Below (result_in w) r). rw (counting_high r w ws l, first) (before_counting q r ws b rest))

rises_counting : (r : PartResult) (ws : List Row) → rises ws ≡ true → rises (counting r ws) ≡ true
unfolding counting rises
rises_counting r [] e = refl
rises_counting r (w ∷ ws) e =
    let later = both_left (before_all (result_in w) ws) (rises ws) e in
    let rest = both_right (before_all (result_in w) ws) (rises ws) e in
    placed r (result_in w)
    (λ (l : Below r (result_in w)).
    rw (counting_low r w ws l, below_is r (result_in w) l, all_on r (result_in w) ws l later) e)
    (λ (l : r ≡ result_in w). rw (counting_same r w ws l) e)
    (λ (l : Below (result_in w) r).
    rw (counting_high r w ws l, before_counting (result_in w) r ws (below_is (result_in w) r l) later)
    (rises_counting r ws rest))

pub tally_rises : TallyRises
unfolding tally_of rises
tally_rises [] = refl
tally_rises (r ∷ rs) = rises_counting r (tally_of rs) (tally_rises rs)

-- ---- the counts

unfoldable count_in : PartResult → List Row → ℕ
count_in r [] = 0
count_in r (w ∷ ws) = cond (same r (result_in w)) w.count 0 + count_in r ws

one_more : (t : Bool) (c rest : ℕ) → cond t (c + 1) 0 + rest ≡ cond t 1 0 + (cond t c 0 + rest)
one_more true c rest = omega arith
one_more false c rest = omega arith

in_counting : (q r : PartResult) (ws : List Row) → count_in q (counting r ws) ≡ cond (same q r) 1 0 + count_in q ws
unfolding counting count_in
in_counting q r [] = refl
in_counting q r (w ∷ ws) =
    placed r (result_in w)
    (λ (l : Below r (result_in w)). rw (counting_low r w ws l))
    (λ (l : r ≡ result_in w).
    rw (counting_same r w ws l, l) (one_more (same q (result_in w)) w.count (count_in q ws)))
    (λ (l : Below (result_in w) r). rw (counting_high r w ws l, in_counting q r ws) (omega arith))

in_tally : (r : PartResult) (rs : List PartResult) → count_in r (tally_of rs) ≡ count_of r rs
unfolding tally_of count_in count_of
in_tally r [] = refl
in_tally r (q ∷ qs) = in_counting r q (tally_of qs) ∙ rw (in_tally r qs) (go (same r q) (count_of r qs))
  where
    go : (t : Bool) (n : ℕ) → cond t 1 0 + n ≡ cond t (n + 1) n
    go true n = omega arith
    go false n = omega arith

-- every row counts a part
abbrev some : Row → Bool
some w = leb 1 w.count

some_counting : (r : PartResult) (ws : List Row) → each some ws ≡ true → each some (counting r ws) ≡ true
unfolding counting
some_counting r [] e = refl
some_counting r (w ∷ ws) e =
    let rest = both_right (some w) (each some ws) e in
    placed r (result_in w)
    (λ (l : Below r (result_in w)). rw (counting_low r w ws l) e)
    (λ (l : r ≡ result_in w). rw (counting_same r w ws l, le-leb 1 (w.count + 1) (omega arith)) rest)
    (λ (l : Below (result_in w) r).
    rw (counting_high r w ws l, both_left (some w) (each some ws) e) (some_counting r ws rest))

some_tally : (rs : List PartResult) → each some (tally_of rs) ≡ true
unfolding tally_of
some_tally [] = refl
some_tally (r ∷ rs) = some_counting r (tally_of rs) (some_tally rs)

-- what is before all rows has none
none_in : (r : PartResult) (ws : List Row) → before_all r ws ≡ true → count_in r ws ≡ 0
unfolding count_in
none_in r [] e = refl
none_in r (w ∷ ws) e =
    let first = below_told r (result_in w) (both_left (below r (result_in w)) (before_all r ws) e) in
    rw (below_apart r (result_in w) first, zero-add (count_in r ws))
    (none_in r ws (both_right (below r (result_in w)) (before_all r ws) e))

-- no count is asked for that is none
nought : (n : ℕ) → (ltb 0 n && eqb n 0) ≡ false
nought n =
    same_or n 0
    (λ (e : n ≡ 0). rw (le-ltb 0 n (omega arith)))
    (λ (e : n ≡ 0 → ⊥). rw (ne_eqb n 0 e) (and-false (ltb 0 n)))

-- of rows that rise, the row of a head, a site and a bin has all that is counted of them
row_in : (r : PartResult) (n : ℕ) (ws : List Row) → rises ws ≡ true → each some ws ≡ true
    → has_row r n ws ≡ (ltb 0 n && eqb n (count_in r ws))
unfolding has_row rises count_in
row_in r n [] e s = sym (nought n)
row_in r n (w ∷ ws) e s =
    let rest = both_right (before_all (result_in w) ws) (rises ws) e in
    let counted = leb-true 1 w.count (both_left (some w) (each some ws) s) in
    go (same r (result_in w)) refl counted (row_in r n ws rest (both_right (some w) (each some ws) s))
  where
    -- no later row is of the same
    alone : same r (result_in w) ≡ true → count_in r ws ≡ 0
    alone t =
        let is = same_told r (result_in w) t in
        none_in r ws (rw is (both_left (before_all (result_in w) ws) (rises ws) e))

    found : (u : Bool) → eqb n w.count ≡ u → 1 ≤ w.count → (u || false) ≡ (ltb 0 n && u)
    found true q c = rw (lt-ltb 0 n (omega (arith, eqb-true n w.count q)))
    found false q c = sym (and-false (ltb 0 n))

    go : (t : Bool) → same r (result_in w) ≡ t → 1 ≤ w.count
        → has_row r n ws ≡ (ltb 0 n && eqb n (count_in r ws))
        → (t && eqb n w.count || has_row r n ws) ≡ (ltb 0 n && eqb n (cond t w.count 0 + count_in r ws))
    go true t c ih =
        rw (ih, alone t, nought n, add-zero w.count) (found (eqb n w.count) refl c)
    go false t c ih = rw zero-add ih

pub tally_counts : TallyCounts
tally_counts rs r n =
    row_in r n (tally_of rs) (tally_rises rs) (some_tally rs)
    ∙ ap (λ (c : ℕ). ltb 0 n && eqb n c) (in_tally r rs)
